-- What a bijection leaves as it is: the number of numbers, a count, a sum and a round. Assumes nothing.
use mathlib.Core.Path.{◌≡◌, refl, sym, ap, subst, ◌∙◌}
use mathlib.Core.Bool.{Bool, true, cond}
use Prim.Native.Nat.{ℕ, zero, suc, ◌+◌, ◌<◌, ◌≤◌, zero-le, suc-le-suc}
use native.Mathlib.Nat.{le_antisymm, le_of_eq}
use native.Mathlib.Omega.{arith}
use lib.Dec.{eqb}
use borrow.Author.Tests.{eq-eqb, ne_eqb}
use Rattle.laws.specs.First.{count, sum}
use Rattle.laws.specs.Round.{Round}
use Rattle.laws.specs.Bijection.{Bijection}
use Rattle.laws.proofs.Count.{Single, inject, count_all, sum_other}

abbrev pub inverse : {n m : ℕ} → Bijection n m → Bijection m n
inverse b = record {
  to = b.from;
  from = b.to;
  from_to = b.to_from;
  to_from = b.from_to;
  to_below = b.from_below;
  from_below = b.to_below;
}

pub to_single : {n m : ℕ} (b : Bijection n m) (i j : ℕ) → b.to i ≡ b.to j → i ≡ j
to_single b i j e = sym (b.from_to i) ∙ ap b.from e ∙ b.from_to j

-- g, but 0 at j
abbrev besides : (ℕ → ℕ) → ℕ → ℕ → ℕ
besides g j i = cond (eqb i j) 0 (g i)

-- each number of f is matched with one of g of its own, not smaller
pub sum_inject : (f g : ℕ → ℕ) (n m : ℕ) (R : ℕ → ℕ → Type 0) → ((i : ℕ) → i < n → (j : ℕ) × (j < m) × (f i ≤ g j) × R i j) → Single R → sum f n ≤ sum g m
unfolding sum
sum_inject f g zero m R h one = zero-le
sum_inject f g (suc n) m R h one =
    step (h zero (suc-le-suc zero-le)) (λ g' k. sum_inject (λ i. f (suc i)) g' n m (λ i. R (suc i)) k (λ i k j r u. omega (arith, one (suc i) (suc k) j r u)))
  where
    step : ((j : ℕ) × (j < m) × (f zero ≤ g j) × R zero j) → ((g' : ℕ → ℕ) → ((i : ℕ) → i < n → (j : ℕ) × (j < m) × (f (suc i) ≤ g' j) × R (suc i) j) → sum (λ i. f (suc i)) n ≤ sum g' m)
        → f zero + sum (λ i. f (suc i)) n ≤ sum g m
    step (j, l, b, r) ih =
        let rest = ih (besides g j) (λ i c. let (x, d, u, v) = h (suc i) (suc-le-suc c) in (x, d, rw (ne_eqb x j (other i x v)) u, v)) in
        let here : besides g j j ≡ 0 = rw (eq-eqb j j refl) in
        let e = sum_other g (besides g j) m j l (λ i _ ne. rw (ne_eqb i j ne)) in
        omega arith
      where
        other : (i x : ℕ) → R (suc i) x → x ≡ j → ⊥
        other i x v e = let z = one zero (suc i) j r (subst (R (suc i)) e v) in omega arith

-- numbers below n and below m, matched both ways
module _ {n m : ℕ} (to from : ℕ → ℕ) (to_below : (i : ℕ) → i < n → to i < m) (from_below : (j : ℕ) → j < m → from j < n)
    (from_to : (i : ℕ) → i < n → from (to i) ≡ i) (to_from : (j : ℕ) → j < m → to (from j) ≡ j) where
  pub count_along : (P Q : ℕ → Bool) → ((i : ℕ) → i < n → Q (to i) ≡ P i) → count Q m ≡ count P n
  count_along P Q e = le_antisymm
      (inject Q P m n (λ j i. (j < m) × (from j ≡ i)) (λ j l t. (from j, from_below j l, sym (e (from j) (from_below j l)) ∙ ap Q (to_from j l) ∙ t, (l, refl)))
      (λ j k i x y. sym (to_from j x.0) ∙ ap to (x.1 ∙ sym y.1) ∙ to_from k y.0))
      (inject P Q n m (λ i j. (i < n) × (to i ≡ j)) (λ i l t. (to i, to_below i l, e i l ∙ t, (l, refl)))
      (λ i k j x y. sym (from_to i x.0) ∙ ap from (x.1 ∙ sym y.1) ∙ from_to k y.0))

  pub sum_along : (f g : ℕ → ℕ) → ((i : ℕ) → i < n → g (to i) ≡ f i) → sum g m ≡ sum f n
  sum_along f g e = le_antisymm
      (sum_inject g f m n (λ j i. (j < m) × (from j ≡ i)) (λ j l. (from j, from_below j l, le_of_eq (ap g (sym (to_from j l)) ∙ e (from j) (from_below j l)), (l, refl)))
      (λ j k i x y. sym (to_from j x.0) ∙ ap to (x.1 ∙ sym y.1) ∙ to_from k y.0))
      (sum_inject f g n m (λ i j. (i < n) × (to i ≡ j)) (λ i l. (to i, to_below i l, le_of_eq (sym (e i l)), (l, refl)))
      (λ i k j x y. sym (from_to i x.0) ∙ ap from (x.1 ∙ sym y.1) ∙ from_to k y.0))

  pub as_many : n ≡ m
  as_many = sym (count_all n) ∙ sym (count_along (λ _. true) (λ _. true) (λ i l. refl)) ∙ count_all m

pub same_size : {n m : ℕ} → Bijection n m → n ≡ m
same_size b = as_many b.to b.from b.to_below b.from_below (λ i _. b.from_to i) (λ j _. b.to_from j)

-- a round, its points renamed
pub renamed_round : {n m k : ℕ} {A B : ℕ → ℕ → Type 0} (b : Bijection n m) → ((p q : ℕ) → A p q → B (b.to p) (b.to q)) → ((p q : ℕ) → B p q → A (b.from p) (b.from q))
    → Round A k → Round B k
renamed_round b f g r = record {
  at = λ i. b.to (r.at i);
  long = r.long;
  back = λ i. ap b.to (r.back i);
  apart = λ i d x y e. r.apart i d x y (to_single b _ _ e);
  goes = λ i. f _ _ (r.goes i);
  all = λ p q s.
      let (i, x, y) = r.all (b.from p) (b.from q) (g p q s) in
      (i, ap b.to x ∙ b.to_from p, ap b.to y ∙ b.to_from q);
}

pub renamed_at : {n m k : ℕ} {A B : ℕ → ℕ → Type 0} (b : Bijection n m) (f : (p q : ℕ) → A p q → B (b.to p) (b.to q)) (g : (p q : ℕ) → B p q → A (b.from p) (b.from q))
    (r : Round A k) (i : ℕ) → (renamed_round b f g r).at i ≡ b.to (r.at i)
unfolding renamed_round
renamed_at b f g r i = refl
