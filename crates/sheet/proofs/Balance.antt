-- Where a rim side ends, one starts: as many sides start at a point as end there, and a side that has a reverse starts where that ends. Assumes nothing.
use mathlib.Core.Path.{◌≡◌, refl, sym, ◌∙◌}
use mathlib.Core.Bool.{Bool, true, not, ◌&&◌}
use Prim.Native.Nat.{ℕ, ◌%◌, ◌<◌, ◌≤◌}
use native.Mathlib.Omega.{arith}
use lib.Dec.{eqb}
use Rattle.laws.specs.First.{count}
use Rattle.laws.proofs.Test.{plain, and_iff, eqb_iff}
use Rattle.laws.proofs.Count.{inject, count_split, count_without, counted}
use Rattle.sheet.specs.Office.{Office, sides, tail, head, next, rim}
use Rattle.sheet.proofs.Side.{next_below, next_single}
use Rattle.sheet.specs.Acceptable.{Reverse, Single}

module _ (o : Office) (whole : sides o % 3 ≡ 0) (single : Single o) where
  pub on_goes : (s : ℕ) → s < sides o → rim o s ≡ true → (r : ℕ) × (r < sides o) × (rim o r ≡ true) × (tail o r ≡ head o s)
  on_goes s l e =
      let (r, h, t) = counted out_rim (sides o) (omega (arith, some_in, out_in, inner, count_split out (rim o) (sides o), count_split into (rim o) (sides o))) in
      let u = (and_iff {a = out r}).0 t in
      (r, h, u.1, eqb_iff.0 u.0)
    where
      q : ℕ
      q = head o s

      out : ℕ → Bool
      out r = eqb (tail o r) q

      into : ℕ → Bool
      into r = eqb (head o r) q

      out_rim : ℕ → Bool
      out_rim r = out r && rim o r

      out_in : count into (sides o) ≤ count out (sides o)
      out_in = inject into out (sides o) (sides o) (λ a b. b ≡ next a) (λ a b t. (next a, next_below (sides o) a whole b, t, refl)) (λ a b c x y. next_single a b (sym x ∙ y))

      back : (a r : ℕ) → a < sides o → tail o a ≡ q → Reverse o a r → (into r && not (rim o r)) ≡ true
      back a r b t v = simp plain (v.1 ∙ t, (a, b, (sym v.1, sym v.0)))

      inner : count (λ r. out r && not (rim o r)) (sides o) ≤ count (λ r. into r && not (rim o r)) (sides o)
      inner = inject _ _ (sides o) (sides o) (λ a b. (a < sides o) × Reverse o a b)
          (λ a b t.
          let u = simp plain at t in
          let (r, h, v) = u.1 in
          (r, h, back a r b u.0 v, (b, v)))
          (λ a b r x y. single a b x.0 y.0 (sym x.1.1 ∙ y.1.1) (sym x.1.0 ∙ y.1.0))

      some_in : 0 < count (λ r. into r && rim o r) (sides o)
      some_in = let h = count_without (λ r. into r && rim o r) (sides o) s l (and_iff.1 ((eqb_iff {a = q}).1 refl, e)) in omega arith
