-- The test for one ring says that the rim sides are one round. Assumes nothing.
use mathlib.Core.Path.{◌≡◌, refl, sym, ap, subst, ◌∙◌}
use mathlib.Core.Logic.Iff
use mathlib.Core.Logic.{◌↔◌, inl, inr}
use mathlib.Core.Bool.{true}
use Prim.Native.Nat.{ℕ, zero, suc, ◌+◌, ◌-◌, ◌%◌, ◌<◌}
use native.Mathlib.Nat.{le_refl}
use native.Mathlib.Numerals.{add-one}
use native.Mathlib.Decide.{dec_lt}
use native.Mathlib.Omega.{arith}
use Rattle.laws.specs.First.{first, walk, stepped, once}
use Rattle.laws.proofs.Test.{and_iff, eqb_iff, ltb_iff, first_of}
use Rattle.laws.proofs.Order.{level}
use Rattle.laws.proofs.Count.{counted, onto}
use Rattle.laws.proofs.Walk.{once-walk, stepped-suc}
use Rattle.laws.proofs.Round.{Beside, round_of}
use Rattle.laws.specs.Round.{Round}
use Rattle.laws.proofs.Runs.{same_sides, onward_runs, stepped_is, length_is}
use Rattle.sheet.specs.Office.{Office, sides, tail, head, rim, rims, after, start, one_ring}
use Rattle.sheet.proofs.Rim.{Tested, rim_iff}
use Rattle.sheet.specs.Acceptable.{Along, Single}
use Rattle.sheet.proofs.Balance.{on_goes}

module _ (o : Office) (whole : sides o % 3 ≡ 0) (single : Single o) where
  -- the test, read
  ring_of : one_ring o ≡ true → (m : ℕ) × Round (Tested o) m
  unfolding stepped
  ring_of e = (suc n, round_of (Tested o) n row (λ i j a b h. single_row i j (omega (arith, last_is)) (omega (arith, last_is)) h) (λ i _. goes i) closes all)
    where
      parts : (0 < rims o) × (once (walk (after o) (start o) (rims o)) ≡ true) × (stepped (after o) (start o) (rims o) ≡ start o)
      parts = let h = simp (and_iff, eqb_iff, ltb_iff) at e in (h.0, h.1.0, h.1.1)

      n : ℕ
      n = rims o - 1

      row : ℕ → ℕ
      row = stepped (after o) (start o)

      more : (i : ℕ) (q : ℕ) → Tested o (row i) q → Tested o (row i) (row (i + 1))
      more i q w = rw (add-one i, stepped-suc (after o) (start o) i) (onward_runs (sides o) (rim o) (tail o) (head o) (row i) q w)

      goes : (i : ℕ) → Tested o (row i) (row (i + 1))
      goes zero = let (s, l, t) = counted (rim o) (sides o) parts.0 in let (a, b) = first_of (rim o) (sides o) s l t in more zero _ (first (rim o) (sides o), a, b, refl, refl)
      goes (suc i) = let (s, l, t, a, b) = goes i in let (r, h, u, c) = on_goes o whole single s l t in more (suc i) (head o r) (r, h, u, c ∙ b ∙ ap row (add-one i), refl)

      single_row : (i j : ℕ) → i < rims o → j < rims o → row i ≡ row j → i ≡ j
      single_row i j a b h = level (λ l. (once-walk (after o) (start o) (rims o)).0 parts.1 i j l b h) (λ l. (once-walk (after o) (start o) (rims o)).0 parts.1 j i l a (sym h))

      last_is : n + 1 ≡ rims o
      last_is = let h = parts.0 in omega arith

      closes : Tested o (row n) (row 0)
      closes = subst (Tested o (row n)) (ap row last_is ∙ parts.2) (goes n)

      all : (p q : ℕ) → Tested o p q → Beside row n p q
      all p q (s, l, t, a, b) =
          let (i, h, f) = onto (rim o) (sides o) (rims o) (λ i. (goes i).0) (λ i _. ((goes i).1, (goes i).2))
          (λ i j x y z. single_row i j x y (sym (goes i).3 ∙ ap (tail o) z ∙ (goes j).3)) (le_refl (rims o)) s l t in
          let from : row i ≡ p = sym (goes i).3 ∙ ap (tail o) f ∙ a in
          let to : row (i + 1) ≡ q = sym (goes i).4 ∙ ap (head o) f ∙ b in
          elim (dec_lt i n) [
            | yes x ↦ inl (i, x, from, to)
            | no x ↦ inr (let z : i ≡ n = omega arith in (ap row (sym z) ∙ from, sym parts.2 ∙ ap row (sym last_is ∙ ap (λ k. k + 1) (sym z)) ∙ to))
          ]

  -- and made true
  of_ring : (m : ℕ) → Round (Tested o) m → one_ring o ≡ true
  of_ring m r =
      let same : rims o ≡ m = length_is (sides o) (rim o) (tail o) (head o) r single in
      let (s, l, t, _, _) = r.goes 0 in
      let (a, b) = first_of (rim o) (sides o) s l t in
      let (i, f, _) = r.all (start o) (head o (first (rim o) (sides o))) (first (rim o) (sides o), a, b, refl, refl) in
      let at : (j : ℕ) → stepped (after o) (start o) j ≡ r.at (i + j) = λ j. ap (λ p. stepped (after o) p j) (sym f) ∙ stepped_is (sides o) (rim o) (tail o) (head o) r i j in
      simp (and_iff, eqb_iff, ltb_iff) (
        (let z = r.long in omega arith),
        (
          (once-walk (after o) (start o) (rims o)).1 (λ j k x y e. r.apart (i + j) (k - j) (omega arith) (omega arith) (ap r.at (omega arith) ∙ sym (at k) ∙ sym e ∙ at j)),
          at (rims o) ∙ ap (λ k. r.at (i + k)) same ∙ r.back i ∙ f,
        ),
      )

  pub one_ring_iff : (one_ring o ≡ true) ↔ ((m : ℕ) × Round (Along o) m)
  one_ring_iff = (
    (λ e. let (m, r) = ring_of e in (m, same_sides (λ s _. rim_iff o s) r)),
    (λ h. of_ring h.0 (same_sides (λ s _. Iff.symm (rim_iff o s)) h.1)),
  )
