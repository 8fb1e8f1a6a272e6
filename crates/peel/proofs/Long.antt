-- The squared length of a side of an acceptable office. Assumes nothing.
use Prim.Native.Nat.{ℕ, ◌<◌, ◌≤◌}
use native.Mathlib.Decide.{ℕ_discrete}
use native.Mathlib.Omega.{arith}
use Rattle.sheet.specs.Office.{Office, points, sides, point, tail, head, next}
use Rattle.sheet.proofs.Side.{next_below}
use Rattle.sheet.proofs.Corner.{tail_not_head}
use Rattle.sheet.proofs.Length.{squared_bound, squared_zero}
use Rattle.sheet.specs.Acceptable.{Acceptable}
use Rattle.rim.specs.Peel.{long}

module _ {o : Office} (a : Acceptable o) (s : ℕ) (l : s < sides o) where
  head_point : head o s < points o
  head_point = a.numbered (next s) (next_below (sides o) s a.corners_bound.1 l)

  pub long_bound : long o s ≤ 536805378
  long_bound = squared_bound (point o (tail o s)) (point o (head o s)) (a.small (tail o s) (a.numbered s l)) (a.small (head o s) head_point)

  pub long_positive : 0 < long o s
  long_positive = elim (ℕ_discrete (long o s) 0) [
    | no f ↦ omega arith
    | yes e ↦ (let (x, y) = squared_zero (point o (tail o s)) (point o (head o s)) e in
        absurd (tail_not_head o a.corners_bound.1 a.left s l (a.distinct (tail o s) (head o s) (a.numbered s l) head_point x y)))
  ]
