-- Directed sides below n, each with a tail and a head, some of them on the rim: a round of the rim sides. Assumes nothing.
use mathlib.Core.Path.{◌≡◌, refl, sym, ap, ◌∙◌}
use mathlib.Core.Logic.{◌↔◌}
use mathlib.Core.Bool.{Bool, true, ◌&&◌}
use Prim.Native.Nat.{ℕ, zero, suc, ◌+◌, ◌<◌, ◌≤◌}
use native.Mathlib.Nat.{le_antisymm}
use native.Mathlib.Omega.{arith}
use lib.Dec.{eqb}
use Rattle.laws.specs.First.{first, count, stepped}
use Rattle.laws.specs.Round.{Runs, Round}
use Rattle.laws.proofs.Test.{plain, and_iff, eqb_iff, first_of}
use Rattle.laws.proofs.Count.{Matched, inject, count_all}
use Rattle.laws.proofs.Walk.{stepped-suc}
use Rattle.laws.proofs.Round.{retold, early, apart_early, same_way}

-- the same sides, told another way
pub same_sides : {n m : ℕ} {A B : ℕ → Type 0} {tail head : ℕ → ℕ} → ((s : ℕ) → s < n → A s ↔ B s) → Round (Runs n A tail head) m → Round (Runs n B tail head) m
same_sides e r = retold (λ p q w. (w.0, w.1, (e w.0 w.1).0 w.2, w.3, w.4)) (λ p q w. (w.0, w.1, (e w.0 w.1).1 w.2, w.3, w.4)) r

module _ (n : ℕ) (rim : ℕ → Bool) (tail head : ℕ → ℕ) where
  -- a rim side runs from p to q
  abbrev Along : ℕ → ℕ → Type 0
  Along = Runs n (λ s. rim s ≡ true) tail head

  -- the end of the first rim side from p
  abbrev pub onward : ℕ → ℕ
  onward p = head (first (λ s. eqb (tail s) p && rim s) n)

  -- which is one, where there is one
  pub onward_runs : (p q : ℕ) → Along p q → Along p (onward p)
  onward_runs p q (s, l, t, a, b) =
      let (h, e) = first_of (λ s. eqb (tail s) p && rim s) n s l (and_iff.1 (eqb_iff.1 a, t)) in
      (first (λ s. eqb (tail s) p && rim s) n, h, (simp plain at e).1, (simp plain at e).0, refl)

  module _ {m : ℕ} (r : Round Along m) where
    pub onward_is : (i : ℕ) → onward (r.at i) ≡ r.at (i + 1)
    onward_is i =
        let (j, a, b) = r.all (r.at i) (onward (r.at i)) (onward_runs (r.at i) (r.at (i + 1)) (r.goes i)) in
        sym b ∙ same_way r j i 1 a

    -- the only rim side from p
    pub onward_only : (p q : ℕ) → Along p q → onward p ≡ q
    onward_only p q w = let (i, a, b) = r.all p q w in ap onward (sym a) ∙ onward_is i ∙ b

    pub stepped_is : (i j : ℕ) → stepped onward (r.at i) j ≡ r.at (i + j)
    unfolding stepped
    stepped_is i zero = ap r.at (omega arith)
    stepped_is i (suc j) = stepped-suc onward (r.at i) j ∙ ap onward (stepped_is i j) ∙ onward_is (i + j) ∙ ap r.at (omega arith)

    -- there are as many rim sides as steps, where no two sides run alike
    module _ (single : (s t : ℕ) → s < n → t < n → tail s ≡ tail t → head s ≡ head t → s ≡ t) where
      no_more : count rim n ≤ count (λ _. true) m
      no_more = inject rim (λ _. true) n m (λ s i. (s < n) × (tail s ≡ r.at i) × (head s ≡ r.at (i + 1))) step
          (λ s t i a b. single s t a.0 b.0 (a.1 ∙ sym b.1) (a.2 ∙ sym b.2))
        where
          step : Matched rim n (λ _. true) m (λ s i. (s < n) × (tail s ≡ r.at i) × (head s ≡ r.at (i + 1)))
          step s l e =
              let (i, a, b) = r.all (tail s) (head s) (s, l, e, refl, refl) in
              let (j, h, f, g) = early r i in
              (j, h, refl, (l, sym (f ∙ a), sym (g ∙ b)))

      no_fewer : count (λ _. true) m ≤ count rim n
      no_fewer = inject (λ _. true) rim m n (λ i s. (i < m) × (tail s ≡ r.at i))
          (λ i l _. let (s, h, t, a, b) = r.goes i in (s, h, t, (l, a)))
          (λ i j s a b. apart_early r i j a.0 b.0 (sym a.1 ∙ b.1))

      pub length_is : count rim n ≡ m
      length_is = le_antisymm no_more no_fewer ∙ count_all m
