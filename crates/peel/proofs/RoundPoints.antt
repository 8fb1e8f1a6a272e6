-- The points of a round of the rim are those on the rim, each once. Assumes nothing.
use mathlib.Core.Path.{◌≡◌, refl, sym, subst, ◌∙◌}
use mathlib.Core.Logic.{◌⊎◌, inl, inr}
use mathlib.Core.Bool.{true}
use mathlib.Core.List.{List}
use Prim.Native.Nat.{ℕ, ◌+◌, ◌<◌}
use native.Mathlib.Nat.{le_antisymm}
use Rattle.laws.specs.First.{count}
use Rattle.laws.specs.Round.{Round}
use Rattle.laws.proofs.Count.{inject, count_all}
use Rattle.laws.proofs.Round.{early, apart_early}
use Rattle.sheet.specs.Office.{Office, points, tail, head}
use Rattle.sheet.specs.Acceptable.{Acceptable}
use Rattle.rim.specs.Peel.{on_rim}
use Rattle.rim.proofs.Marks.{Way, rim_iff, on_rim_iff}

module _ (o : Office) (k : List ℕ) {m : ℕ} (r : Round (Way o k) m) where
  pub at_rim : (i : ℕ) → on_rim o k (r.at i) ≡ true
  at_rim i = let (s, l, t, e, _) = r.goes i in (on_rim_iff o k (r.at i)).1 (s, l, inl e, (rim_iff o k s).0 t)

  pub rim_at : (p : ℕ) → on_rim o k p ≡ true → (i : ℕ) × (i < m) × (r.at i ≡ p)
  rim_at p e = let (s, l, c, t) = (on_rim_iff o k p).0 e in ends c (r.all (tail o s) (head o s) (s, l, (rim_iff o k s).1 t, refl, refl))
    where
      ends : {x y : ℕ} → (x ≡ p) ⊎ (y ≡ p) → (i : ℕ) × (r.at i ≡ x) × (r.at (i + 1) ≡ y) → (i : ℕ) × (i < m) × (r.at i ≡ p)
      ends (inl c) (i, u, v) = let (j, l, f, _) = early r i in (j, l, f ∙ u ∙ c)
      ends (inr c) (i, u, v) = let (j, l, f, _) = early r (i + 1) in (j, l, f ∙ v ∙ c)

  module _ (a : Acceptable o) where
    pub at_point : (i : ℕ) → r.at i < points o
    at_point i = let (s, l, _, e, _) = r.goes i in subst (λ p. p < points o) e (a.numbered s l)

    -- so there are as many points on the rim as steps
    pub rim_count : count (on_rim o k) (points o) ≡ m
    rim_count =
        le_antisymm
        (inject (on_rim o k) (λ _. true) (points o) m (λ p i. r.at i ≡ p) (λ p l e. let (i, b, f) = rim_at p e in (i, b, refl, f)) (λ p q i x y. sym x ∙ y))
        (inject (λ _. true) (on_rim o k) m (points o) (λ i p. (i < m) × (r.at i ≡ p)) (λ i l _. (r.at i, at_point i, at_rim i, (l, refl))) (λ i j p x y. apart_early r i j x.0 y.0 (x.1 ∙ sym y.1)))
        ∙ count_all m
