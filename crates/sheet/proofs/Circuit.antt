-- What is summed over the sides of a round is summed along it. Assumes nothing.
use mathlib.Core.Path.{◌≡◌, refl, sym, ◌∙◌, ap₂}
use mathlib.Core.Bool.{Bool, true, false, cond, ◌&&◌}
use Prim.Native.Nat.{ℕ, ◌+◌, ◌<◌}
use lib.Dec.{eqb}
use lib.IntN.{ℤ, pos}
use Rattle.laws.proofs.Test.{plain}
use Rattle.laws.specs.Round.{Round, Runs}
use Rattle.laws.proofs.Round.{early, apart_early}
use Rattle.sheet.proofs.Total.{total, total_same}
use Rattle.sheet.proofs.Cancel.{differ}
use Rattle.sheet.proofs.Swap.{total_swap, total_picked, total_unpicked}

module _ (n : ℕ) (rim : ℕ → Bool) (tail head : ℕ → ℕ) (single : (s t : ℕ) → s < n → t < n → tail s ≡ tail t → head s ≡ head t → s ≡ t)
    {m : ℕ} (r : Round (Runs n (λ s. rim s ≡ true) tail head) m) (F : ℕ → ℕ → ℤ) where
  -- side s is step i
  abbrev is_step : ℕ → ℕ → Bool
  is_step s i = rim s && (eqb (tail s) (r.at i) && eqb (head s) (r.at (i + 1)))

  abbrev share : ℕ → ℕ → ℤ
  share s i = cond (is_step s i) (F (r.at i) (r.at (i + 1))) (pos 0)

  by_side : (s : ℕ) → s < n → (b : Bool) → rim s ≡ b → cond b (F (tail s) (head s)) (pos 0) ≡ total (share s) m
  by_side s l true e =
      let (i, x, y) = r.all (tail s) (head s) (s, l, e, refl, refl) in
      let (j, c, f, g) = early r i in
      ap₂ F (sym (f ∙ x)) (sym (g ∙ y))
      ∙ sym (total_picked (is_step s) (λ i. F (r.at i) (r.at (i + 1))) m j c (simp plain (e, (sym (f ∙ x), sym (g ∙ y))))
      (λ i d h. apart_early r i j d c (sym (simp plain at h).1.0 ∙ sym (f ∙ x))))
  by_side s l false e = sym (total_unpicked (is_step s) (λ i. F (r.at i) (r.at (i + 1))) m (λ i c h. differ (simp plain at h).0 e))

  by_step : (i : ℕ) → i < m → total (λ s. share s i) n ≡ F (r.at i) (r.at (i + 1))
  by_step i c =
      let (s, l, e, x, y) = r.goes i in
      total_picked (λ s. is_step s i) (λ s. F (r.at i) (r.at (i + 1))) n s l (simp plain (e, (x, y)))
      (λ t d h. single t s d l ((simp plain at h).1.0 ∙ sym x) ((simp plain at h).1.1 ∙ sym y))

  pub along : total (λ s. cond (rim s) (F (tail s) (head s)) (pos 0)) n ≡ total (λ i. F (r.at i) (r.at (i + 1))) m
  along = total_same _ (λ s. total (share s) m) n (λ s l. by_side s l (rim s) refl) ∙ total_swap share n m ∙ total_same _ _ m by_step
