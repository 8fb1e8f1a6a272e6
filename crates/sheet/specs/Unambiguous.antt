-- An office that leaves no choice of triangles: no circle goes through the third corner of the triangle beyond one of its sides.
-- Assumes nothing.
use Rattle.std.specs.Prelude.{◌≡◌, ℕ, ◌<◌, Bool, ◌&&◌, eqb, pos, nat_abs}
use Rattle.laws.specs.First.{any}
use Rattle.sheet.specs.Plane.{circle}
use Rattle.sheet.specs.Office.{Office, sides, point, tail, head, apex, reverse}
use Rattle.sheet.specs.Acceptable.{Reverse}

abbrev pub Unambiguous : Office → Type 0
Unambiguous o = (s r : ℕ) → s < sides o → r < sides o → Reverse o s r → circle (point o (tail o s)) (point o (head o s)) (point o (apex o s)) (point o (apex o r)) ≡ pos 0 → ⊥

-- the same as a test: side s has a reverse whose third corner lies on the circle
abbrev pub ambiguous : Office → ℕ → Bool
ambiguous o s = any (λ r. reverse o s r && eqb (nat_abs (circle (point o (tail o s)) (point o (head o s)) (point o (apex o s)) (point o (apex o r)))) 0) (sides o)
