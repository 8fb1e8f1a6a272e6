-- An order on finitely many numbers has a last one: there is none of a kind where each has a further one of that kind. Assumes nothing.
use mathlib.Core.Path.{◌≡◌, refl, sym, subst, ◌∙◌}
use mathlib.Core.Bool.{true}
use Prim.Native.Nat.{ℕ, zero, suc, ◌<◌}
use native.Mathlib.Decide.{ℕ_discrete}
use native.Mathlib.Omega.{arith}
use Rattle.laws.proofs.Count.{inject, count_all}
use Rattle.laws.proofs.Order.{level}

module _ (n : ℕ) (A : ℕ → Type 0) (R : ℕ → ℕ → Type 0) (never : (i : ℕ) → R i i → ⊥) (trans : (i j l : ℕ) → A i → A j → A l → R i j → R j l → R i l)
    (more : (i : ℕ) → i < n → A i → (j : ℕ) × (j < n) × A j × R i j) where
  abbrev One : Type 0
  One = (i : ℕ) × (i < n) × A i

  -- the d-th from one on
  far : One → ℕ → One
  far w zero = w
  far w (suc d) = let (i, l, a) = far w d in let (j, b, c, _) = more i l a in (j, b, c)

  abbrev place : One → ℕ → ℕ
  place w d = (far w d).0

  one_more : (w : One) (d : ℕ) → R (place w d) (place w (suc d))
  unfolding far
  one_more w d = (more (place w d) (far w d).1 (far w d).2).3

  further : (w : One) (i j : ℕ) → i < j → R (place w i) (place w j)
  further w i zero l = absurd (omega arith)
  further w i (suc j) l = step (ℕ_discrete i j) (further w i j)
    where
      step : Dec (i ≡ j) → (i < j → R (place w i) (place w j)) → R (place w i) (place w (suc j))
      step (yes e) ih = subst (λ t. R (place w i) (place w (suc t))) e (one_more w i)
      step (no f) ih = trans _ _ _ (far w i).2 (far w j).2 (far w (suc j)).2 (ih (omega arith)) (one_more w j)

  pub no_last : (i : ℕ) → i < n → A i → ⊥
  no_last i l a =
      let w : One = (i, l, a) in
      let clash : (j d : ℕ) → j < d → place w j ≡ place w d → ⊥ = λ j d b e. never (place w j) (subst (R (place w j)) (sym e) (further w j d b)) in
      let h = inject (λ _. true) (λ _. true) (suc n) n (λ d j. j ≡ place w d) (λ d b _. (place w d, (far w d).1, refl, refl)) (λ d f j x y. level (λ b. clash d f b (sym x ∙ y)) (λ b. clash f d b (sym y ∙ x))) in
      let p = count_all (suc n) in
      let q = count_all n in
      omega arith
