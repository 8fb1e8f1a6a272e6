-- What the code holds of an accepted office: that it is acceptable, in the open. Assumes nothing.
use mathlib.Core.Path.{◌≡◌, refl, sym, ◌∙◌}
use mathlib.Core.Bool.{true}
use Prim.Native.Nat.{ℕ}
use native.Mathlib.Omega.{arith}
use Rattle.std.proofs.Math.Logic.{∥∥₁_elim}
use Rattle.sheet.specs.Office.{Office, rims}
use Rattle.sheet.specs.Acceptable.{Acceptable}
use Rattle.sheet.specs.Verdict.{Verdict, verdict, accepted, refused}
use Rattle.sheet.proofs.Accepted.{accepted_exactly}

-- the check decides it
pub plain : {o : Office} → ∥ Acceptable o ∥₁ → Acceptable o
plain {o} h = step (verdict true o) refl
  where
    step : (v : Verdict) → verdict true o ≡ v → Acceptable o
    step (accepted m) e = ((accepted_exactly o m).0 e).0
    step (refused k p) e =
        absurd (∥∥₁_elim h (λ x y. absurd x) (λ a. let z : refused k p ≡ accepted (rims o) = sym e ∙ (accepted_exactly o (rims o)).1 (a, refl) in let z : ◌≡◌ {A = ℕ} 0 1 = cc in omega arith))
