-- No doubled area of an outline is greater than the greatest squared length. Assumes nothing.
use mathlib.Core.Path.{◌≡◌, ap}
use mathlib.Core.Bool.{cond}
use mathlib.Core.List.{List}
use Prim.Native.Nat.{ℕ, ◌≤◌}
use native.Mathlib.Omega.{arith}
use lib.Dec.{eqb}
use lib.IntN.{nat_abs}
use lib.ListN.{get_or-replicate}
use Rattle.laws.specs.First.{sum}
use Rattle.laws.proofs.Count.{sum_same}
use Rattle.sheet.specs.Office.{Office, triangles, area}
use Rattle.sheet.specs.Acceptable.{Acceptable}
use Rattle.sheet.proofs.Areas.{areas_fit}
use Rattle.rim.specs.Peel.{whole, doubled}
use Rattle.rim.specs.Reached.{Reached, begun, more}
use Rattle.rim.proofs.Tallied.{doubled_after}
use Rattle.rim.proofs.Reached.{sound, peelable}

-- before the first peel it is the sum over all triangles
pub whole_sum : (o : Office) → doubled o (whole o) ≡ sum (λ t. nat_abs (area o t)) (triangles o)
unfolding doubled
whole_sum o = sum_same _ _ (triangles o) (λ t l. ap (λ m. cond (eqb m 1) (nat_abs (area o t)) 0) (get_or-replicate (triangles o) t 1 0 l))

module _ {o : Office} (a : Acceptable o) where
  -- each peel takes its triangle's
  pub doubled_falls : {n : ℕ} {k : List ℕ} → Reached o n k → doubled o k ≤ doubled o (whole o)
  doubled_falls begun = omega arith
  doubled_falls (more s r l e) = let h = doubled_falls r in let x = doubled_after a (peelable o a (sound o a r) s l e) in omega arith

  -- of an outline
  pub doubled_bound : {n : ℕ} {k : List ℕ} → Reached o n k → doubled o k ≤ 536805378
  doubled_bound r = let h = doubled_falls r in omega (arith, whole_sum o, areas_fit a)
