-- Document 01's printed example, and texts on the edge of the grammar, computed. Assumes nothing.
use mathlib.Core.Path.{◌≡◌, refl}
use mathlib.Core.List.{[], ◌∷◌, map}
use mathlib.Core.Option.{none, some}
use Rattle.laws.specs.First.{table}
use Rattle.sheet.specs.Office.{office}
use Rattle.listing.specs.Text.{parted, digits, value_from, values, numbers, parsed}
use Rattle.listing.specs.Line.{spelled, decimal, onward, line, refusal_line}

-- the office that document 01 prints
pub example_parsed : parsed (53 ∷ 32 ∷ 52 ∷ 10 ∷ 48 ∷ 32 ∷ 48 ∷ 32 ∷ 49 ∷ 48 ∷ 32 ∷ 48 ∷ 32 ∷ 49 ∷ 48 ∷ 32 ∷ 49 ∷ 48 ∷ 32 ∷ 48 ∷ 32 ∷ 49 ∷ 48 ∷ 32 ∷ 53 ∷ 32 ∷ 50 ∷ 10 ∷ 48 ∷ 32 ∷ 49 ∷ 32 ∷ 52 ∷ 32 ∷ 49 ∷ 32 ∷ 50 ∷ 32 ∷ 52 ∷ 32 ∷ 50 ∷ 32 ∷ 51 ∷ 32 ∷ 52 ∷ 32 ∷ 51 ∷ 32 ∷ 48 ∷ 32 ∷ 52 ∷ 10 ∷ []) ≡ some (office (0 ∷ 10 ∷ 10 ∷ 0 ∷ 5 ∷ []) (0 ∷ 0 ∷ 10 ∷ 10 ∷ 2 ∷ []) (0 ∷ 1 ∷ 4 ∷ 1 ∷ 2 ∷ 4 ∷ 2 ∷ 3 ∷ 4 ∷ 3 ∷ 0 ∷ 4 ∷ []))
unfolding parsed parted digits value_from values table
example_parsed = refl

-- its two lines, with 2/13's order among equal lengths, and a refusal's
pub example_lines : (line 100 0 200 (0 ∷ 1 ∷ 2 ∷ 3 ∷ []) ≡ (49 ∷ 48 ∷ 48 ∷ 32 ∷ 48 ∷ 32 ∷ 50 ∷ 48 ∷ 48 ∷ 32 ∷ 48 ∷ 32 ∷ 49 ∷ 32 ∷ 50 ∷ 32 ∷ 51 ∷ 10 ∷ [])) × (line 0 1 150 (0 ∷ 1 ∷ 2 ∷ 3 ∷ 4 ∷ []) ≡ (48 ∷ 32 ∷ 49 ∷ 32 ∷ 49 ∷ 53 ∷ 48 ∷ 32 ∷ 48 ∷ 32 ∷ 49 ∷ 32 ∷ 50 ∷ 32 ∷ 51 ∷ 32 ∷ 52 ∷ 10 ∷ [])) × (refusal_line 40 0 ≡ (114 ∷ 101 ∷ 102 ∷ 117 ∷ 115 ∷ 101 ∷ 100 ∷ 32 ∷ 52 ∷ 48 ∷ 32 ∷ 48 ∷ 10 ∷ []))
unfolding spelled decimal onward
example_lines = (refl, refl, refl)

-- 00000 is 0, 000000 is no number, 65,536 is none, and a tab, a comma or a letter is no white space
pub edges : map numbers (
    []
    ∷ (32 ∷ 10 ∷ 13 ∷ [])
    ∷ (55 ∷ [])
    ∷ (32 ∷ 55 ∷ 13 ∷ 10 ∷ 56 ∷ 32 ∷ [])
    ∷ (54 ∷ 53 ∷ 53 ∷ 51 ∷ 53 ∷ [])
    ∷ (48 ∷ 48 ∷ 48 ∷ 48 ∷ 48 ∷ 32 ∷ 48 ∷ 48 ∷ 48 ∷ 52 ∷ 50 ∷ [])
    ∷ (54 ∷ 53 ∷ 53 ∷ 51 ∷ 54 ∷ [])
    ∷ (48 ∷ 48 ∷ 48 ∷ 48 ∷ 48 ∷ 48 ∷ [])
    ∷ (49 ∷ 50 ∷ 51 ∷ 52 ∷ 53 ∷ 54 ∷ [])
    ∷ (49 ∷ 9 ∷ 50 ∷ [])
    ∷ (49 ∷ 44 ∷ 50 ∷ [])
    ∷ (45 ∷ 49 ∷ [])
    ∷ (49 ∷ 11 ∷ 50 ∷ [])
    ∷ (49 ∷ 32 ∷ 97 ∷ [])
    ∷ []) ≡ (
    some []
    ∷ some []
    ∷ some (7 ∷ [])
    ∷ some (7 ∷ 8 ∷ [])
    ∷ some (65535 ∷ [])
    ∷ some (0 ∷ 42 ∷ [])
    ∷ none
    ∷ none
    ∷ none
    ∷ none
    ∷ none
    ∷ none
    ∷ none
    ∷ none
    ∷ [])
unfolding parted digits value_from values
edges = refl
