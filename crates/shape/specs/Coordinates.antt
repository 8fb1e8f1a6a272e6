-- Document 01, 'Polygon bytes': a coordinate as read is a grid number, a finite value off the grid, or not a finite number; -0 counts as off
-- the grid. A float is lib.Ieee's: nan, an infinity, or fin s m e, the number m * 2 ^ e with the sign s. Assumes nothing.
use Rattle.std.specs.Prelude.{ℕ, ◌+◌, Bool, true, false, cond, List, [], ◌∷◌, length, pos, from_bits, nat_le, to_bits, Float, Result, Ok, Err}
use Rattle.std.specs.Float.{nan, inf, fin, binary64}
use Rattle.std.specs.Float.Ieee.{of_int, in_unsigned, to_unsigned}
use Rattle.sheet.specs.declared.refusal.Rule.{Rule}
use Rattle.sheet.specs.declared.refusal.Rule.TheVariants.{OffGrid as OffGrid_rule, NotFinite as NotFinite_rule}
use Rattle.shape.specs.declared.Coordinate.{Coordinate}
use Rattle.shape.specs.declared.Coordinate.TheVariants.{Grid, OffGrid, NotFinite}
use Rattle.shape.specs.Answers.{Question, must, Answer, asked}
use Rattle.shape.specs.Bytes.{number_at}

-- `in_unsigned binary64 14 x`: x is a whole number below 2 ^ 14, and neither negative nor -0
abbrev pub coordinate : Float → Coordinate
coordinate nan = NotFinite
coordinate (inf s) = NotFinite
coordinate (fin s m e) = cond (in_unsigned binary64 14 (fin s m e)) (Grid (to_unsigned 14 (fin s m e))) (OffGrid (fin s m e))

-- the pattern of the float that is g
abbrev pub encode : ℕ → ℕ
encode g = to_bits binary64 (of_int binary64 (pos g))

-- the grid number that a coordinate is, or the rule that it breaks
abbrev pub grid_number : Coordinate → Result ℕ Rule
grid_number (Grid g) = Ok g
grid_number (OffGrid x) = Err OffGrid_rule
grid_number NotFinite = Err NotFinite_rule

-- what a coordinate is refused with, 0 for not at all; and the grid number that it is, 0 for none
abbrev pub refusal_of : Coordinate → ℕ
refusal_of (Grid g) = 0
refusal_of (OffGrid x) = 26
refusal_of NotFinite = 25

abbrev pub grid_of : Coordinate → ℕ
grid_of (Grid g) = g
grid_of (OffGrid x) = 0
grid_of NotFinite = 0

abbrev pub is_on_grid : Coordinate → Bool
is_on_grid (Grid g) = true
is_on_grid (OffGrid x) = false
is_on_grid NotFinite = false

-- what is asked of a coordinate that stands at a place
abbrev pub grid_asks : Coordinate → ℕ → List Question
grid_asks c place = must (is_on_grid c) (refusal_of c) place ∷ []

-- ---- at a place of a block

abbrev pub float_at : ℕ → List ℕ → ℕ → Float
float_at order s at = from_bits binary64 (number_at 8 order s at)

abbrev pub coordinate_at : ℕ → List ℕ → ℕ → Coordinate
coordinate_at order s at = coordinate (float_at order s at)

abbrev pub grid_at : ℕ → List ℕ → ℕ → ℕ
grid_at order s at = grid_of (coordinate_at order s at)

-- a field of k bytes is not cut short
abbrev pub whole : ℕ → List ℕ → ℕ → Question
whole k s at = must (nat_le (at + k) (length s)) 20 at

-- no bytes are left past an end
abbrev pub ended : List ℕ → ℕ → Question
ended s end = must (nat_le (length s) end) 28 end

-- what the separate call asks, and what it answers
abbrev pub judge_asks : List ℕ → ℕ → ℕ → List Question
judge_asks s order at = must (nat_le order 1) 21 0 ∷ whole 8 s at ∷ []

abbrev pub judgement : List ℕ → ℕ → ℕ → Answer Coordinate
judgement s order at = asked (judge_asks s order at) (coordinate_at order s at)
