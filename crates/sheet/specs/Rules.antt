-- Document 01, 'Refusal numbers' 1 to 13, in plain logic: each rule with its number, at how many places it is asked, and when it breaks at
-- a place. Assumes nothing.
use Rattle.std.specs.Prelude.{◌≡◌, Bool, true, List, [], ◌∷◌, ◌⊎◌, ℕ, ◌+◌, ◌*◌, ◌/◌, ◌%◌, ◌<◌, ◌≤◌, pos, length, get_or, ◌<ℤ◌}
use Rattle.laws.specs.Round.{Round}
use Rattle.sheet.specs.Plane.{turn, circle}
use Rattle.sheet.specs.Office.{Office, points, sides, triangles, point, tail, head, area}
use Rattle.sheet.specs.Acceptable.{Rim, Along}

pub record Rule : Type 1 where
  pub number : ℕ
  pub places : ℕ
  pub Broken : ℕ → Type 0

-- the rule breaks at p, and nowhere before; it breaks nowhere
abbrev pub Lowest : Rule → ℕ → Type 0
Lowest r p = (p < r.places) × r.Broken p × ((q : ℕ) → q < p → r.Broken q → ⊥)

abbrev pub Kept : Rule → Type 0
Kept r = (p : ℕ) → p < r.places → r.Broken p → ⊥

-- refusal k at place p: rule k breaks there and nowhere before, and each rule before it is kept
unfoldable pub Given : List Rule → ℕ → ℕ → Type 0
Given [] k p = ⊥
Given (r ∷ rs) k p = ((k ≡ r.number) × Lowest r p) ⊎ (Kept r × Given rs k p)

-- a rule that is asked once
abbrev pub once : ℕ → Type 0 → Rule
once k Wrong = record { number = k; places = 1; Broken = λ p. Wrong }

abbrev pub rules : Bool → Office → List Rule
rules room o =
    once 1 (length o.xs ≡ length o.ys → ⊥)
    ∷ once 2 ((points o < 3) ⊎ (1024 < points o))
    ∷ once 3 (((sides o ≡ 0) ⊎ (sides o % 3 ≡ 0 → ⊥)) ⊎ (6129 < sides o))
    ∷ once 4 (room ≡ true → ⊥)
    -- a coordinate above 16,383
    ∷ record { number = 5; places = points o; Broken = λ p. (16383 < get_or o.xs p 0) ⊎ (16383 < get_or o.ys p 0) }
    -- the point equals an earlier one
    ∷ record { number = 6; places = points o; Broken = λ p. (q : ℕ) × (q < p) × (get_or o.xs q 0 ≡ get_or o.xs p 0) × (get_or o.ys q 0 ≡ get_or o.ys p 0) }
    -- the corner is no point number
    ∷ record { number = 7; places = sides o; Broken = λ s. points o ≤ tail o s }
    -- doubled area zero or negative
    ∷ record { number = 8; places = triangles o; Broken = λ t. pos 0 <ℤ area o t → ⊥ }
    -- a directed side also stands in an earlier triangle
    ∷ record { number = 9; places = triangles o; Broken = λ t. (s r : ℕ) × (s / 3 ≡ t) × (r / 3 < t) × (tail o r ≡ tail o s) × (head o r ≡ head o s) }
    -- the point is no corner
    ∷ record { number = 10; places = points o; Broken = λ p. (s : ℕ) → s < sides o → tail o s ≡ p → ⊥ }
    -- a point strictly inside the circle
    ∷ record { number = 11; places = triangles o; Broken = λ t. (p : ℕ) × (p < points o) × (pos 0 <ℤ circle (point o (tail o (t * 3))) (point o (tail o (t * 3 + 1))) (point o (tail o (t * 3 + 2))) (point o p)) }
    -- the rim is not one ring with each point once
    ∷ once 12 ((m : ℕ) × Round (Along o) m → ⊥)
    -- strictly right of a rim side
    ∷ record { number = 13; places = points o; Broken = λ p. (s : ℕ) × (s < sides o) × Rim o s × (turn (point o (tail o s)) (point o (head o s)) (point o p) <ℤ pos 0) }
    ∷ []
