-- What one peel does to the tally: a triangle more is peeled, and its area is gone. Assumes nothing.
use mathlib.Core.Path.{◌≡◌, refl, sym, ap, ◌∙◌}
use mathlib.Core.Bool.{not, cond}
use mathlib.Core.List.{List}
use Prim.Native.Nat.{ℕ, suc, ◌+◌, ◌/◌}
use native.Mathlib.Decide.{ℕ_discrete}
use native.Mathlib.Omega.{arith}
use lib.Dec.{eqb}
use lib.IntN.{nat_abs}
use lib.ListN.{length, get_or, length-set}
use lib.Seq.{get_or-set_other}
use borrow.Author.Tests.{ne_eqb}
use Rattle.laws.proofs.Test.{plain, and-true, same_answer}
use Rattle.laws.proofs.Count.{count_same, count_without, without, sum_other}
use Rattle.sheet.specs.Office.{Office, triangles, area}
use Rattle.sheet.specs.Acceptable.{Acceptable}
use Rattle.rim.specs.Peel.{peel, peeled, doubled}
use Rattle.rim.proofs.OnePeel.{Peelable, triangle_below, gone, on}

module _ {o : Office} {k : List ℕ} {s : ℕ} (a : Acceptable o) (can : Peelable o k s) where
  pub peeled_after : peeled o (peel k s) ≡ suc (peeled o k)
  unfolding peeled
  peeled_after =
      count_without (λ t. not (eqb (get_or (peel k s) t 0) 1)) (triangles o) (s / 3) (triangle_below a can) (rw (gone a can))
      ∙ ap suc (count_same _ _ (triangles o) (λ t _. same t (ℕ_discrete t (s / 3))))
    where
      same : (t : ℕ) → Dec (t ≡ s / 3) → without (λ t. not (eqb (get_or (peel k s) t 0) 1)) (s / 3) t ≡ not (eqb (get_or k t 0) 1)
      same t (yes e) = rw e (same_answer (λ h. absurd ((simp plain at h).1 refl)) (λ h. absurd ((simp plain at h) (on a can).0)))
      same t (no f) = rw (get_or-set_other k (s / 3) t 0 0 f, ne_eqb t (s / 3) f) (and-true (not (eqb (get_or k t 0) 1)))

  pub doubled_after : doubled o k ≡ doubled o (peel k s) + nat_abs (area o (s / 3))
  unfolding doubled
  doubled_after =
      let held : List ℕ → ℕ → ℕ = λ k t. cond (eqb (get_or k t 0) 1) (nat_abs (area o t)) 0 in
      let e = sum_other (held k) (held (peel k s)) (triangles o) (s / 3) (triangle_below a can) (λ t _ f. ap (λ m. cond (eqb m 1) (nat_abs (area o t)) 0) (sym (get_or-set_other k (s / 3) t 0 0 f))) in
      let x : held k (s / 3) ≡ nat_abs (area o (s / 3)) = rw (on a can).0 in
      let y : held (peel k s) (s / 3) ≡ 0 = rw (gone a can) in
      omega arith

  pub size_after : length (peel k s) ≡ triangles o
  size_after = length-set k (s / 3) 0 ∙ can.size
