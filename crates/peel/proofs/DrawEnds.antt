-- Where a draw ends: at reached marks, with no removable side longer than the limit. Assumes nothing.
use mathlib.Core.Path.{◌≡◌, refl}
use mathlib.Core.Logic.{inl, inr}
use mathlib.Core.Bool.{Bool, true, false, cond}
use mathlib.Core.List.{List}
use mathlib.Core.Option.{Option, none, some}
use Prim.Native.Nat.{ℕ, zero, suc, ◌+◌, ◌<◌, ◌≤◌}
use native.Mathlib.Decide.{ℕ_discrete}
use native.Mathlib.Omega.{arith}
use lib.Dec.{ltb}
use borrow.Author.Tests.{ltb-false}
use Rattle.sheet.specs.Office.{Office, sides, triangles}
use Rattle.sheet.specs.Acceptable.{Acceptable}
use Rattle.rim.specs.Peel.{removable, long, best, peel, turned, peels, whole, drawn}
use Rattle.rim.specs.Reached.{Reached, begun, more}
use Rattle.rim.proofs.Reached.{sound}
use Rattle.rim.proofs.Rings.{some_kept}
use Rattle.rim.proofs.TopSide.{Before, Top, best_top}

-- no removable side is longer than the limit
abbrev pub Done : Office → ℕ → List ℕ → Type 0
Done o limit k = (s : ℕ) → s < sides o → removable o k s ≡ true → long o s ≤ limit

module _ {o : Office} (a : Acceptable o) (limit : ℕ) where
  -- reached in n peels or more, and done
  abbrev Ends : ℕ → List ℕ → Type 0
  Ends n k = (m : ℕ) × (n ≤ m) × Reached o m k × Done o limit k

  turn_ends : (n : ℕ) (k : List ℕ) (others : List ℕ → List ℕ) (b : Option ℕ) → Reached o n k → Top a k (sides o) b
      → ((s : ℕ) → Reached o (suc n) (peel k s) → Ends (suc n) (others (peel k s))) → Ends n (turned o others limit k b)
  unfolding turned
  turn_ends n k others none r t ih = (n, omega arith, r, λ s l e. absurd (t s l e))
  turn_ends n k others (some s) r (l, e, t) ih = step (ltb limit (long o s)) refl
    where
      shorter : (q : ℕ) → Before o s q → long o q ≤ long o s
      shorter q (inl h) = omega arith
      shorter q (inr (h, _)) = omega arith

      step : (b : Bool) → ltb limit (long o s) ≡ b → Ends n (cond b (others (peel k s)) k)
      step true _ = let (m, b, x, d) = ih s (more s r l e) in (m, omega arith, x, d)
      step false f = (
        n,
        omega arith,
        r,
        λ q m u. elim (ℕ_discrete q s) [
          | yes z ↦ rw z (ltb-false limit (long o s) f)
          | no g ↦ (let h = shorter q (t q m u g) in let b = ltb-false limit (long o s) f in omega arith)
        ],
      )

  pub peels_end : (fuel n : ℕ) (k : List ℕ) → Reached o n k → triangles o ≤ n + fuel → Ends n (peels o fuel limit k)
  unfolding peels
  peels_end zero n k r l = absurd (let h = some_kept a (sound o a r) in omega arith)
  peels_end (suc fuel) n k r l = turn_ends n k (peels o fuel limit) (best o k) r (best_top a k) (λ s h. peels_end fuel (suc n) (peel k s) h (omega arith))

  pub drawn_ends : Ends 0 (drawn o limit)
  unfolding drawn
  drawn_ends = peels_end (triangles o) 0 (whole o) begun (omega arith)
