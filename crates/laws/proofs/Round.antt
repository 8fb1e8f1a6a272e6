-- A closed round of m points that visits each once, as the point at each step of going round for ever. Assumes nothing.
use mathlib.Core.Path.{◌≡◌, refl, sym, ap, subst, ◌∙◌}
use mathlib.Core.Logic.{◌⊎◌, inl, inr}
use Prim.Native.Nat.{ℕ, zero, suc, ◌+◌, ◌*◌, ◌/◌, ◌%◌, ◌-◌, ◌≤◌, ◌<◌, zero-le, suc-le-suc}
use native.Mathlib.Nat.{le_refl, mul-le-mul, mod-lt, mod-eq_of_lt, mod-add-mod, mod_self, add-mod_right, div-add-mod'}
use native.Mathlib.Numerals.{add-one}
use native.Mathlib.Decide.{dec_lt}
use native.Mathlib.Omega.{arith}
use Rattle.laws.specs.Round.{Round}
use Rattle.laws.proofs.Order.{level}

-- the same round, its steps told another way
pub retold : {A B : ℕ → ℕ → Type 0} {m : ℕ} → ((p q : ℕ) → A p q → B p q) → ((p q : ℕ) → B p q → A p q) → Round A m → Round B m
retold f g r = record {
  at = r.at;
  long = r.long;
  back = r.back;
  apart = r.apart;
  goes = λ i. f _ _ (r.goes i);
  all = λ p q s. r.all p q (g p q s);
}

module _ {Step : ℕ → ℕ → Type 0} {m : ℕ} (r : Round Step m) where
  back_times : (i q : ℕ) → r.at (i + q * m) ≡ r.at i
  back_times i zero = ap r.at (omega arith)
  back_times i (suc q) = ap r.at (omega arith) ∙ r.back (i + q * m) ∙ back_times i q

  wound : (i d : ℕ) → r.at (i % m + d) ≡ r.at (i + d)
  wound i d = sym (back_times (i % m + d) (i / m)) ∙ ap r.at (let h = div-add-mod' i m in omega arith)

  pub wound_here : (i : ℕ) → r.at (i % m) ≡ r.at i
  wound_here i = ap r.at (omega arith) ∙ wound i 0 ∙ ap r.at (omega arith)

  -- step i is one of the first m
  pub early : (i : ℕ) → (j : ℕ) × (j < m) × (r.at j ≡ r.at i) × (r.at (j + 1) ≡ r.at (i + 1))
  early i = (i % m, mod-lt i r.long, wound_here i, wound i 1)

  pub apart_early : (i j : ℕ) → i < m → j < m → r.at i ≡ r.at j → i ≡ j
  apart_early i j a b e = level (λ l. clash i j l b (sym e)) (λ l. clash j i l a e)
    where
      clash : (i j : ℕ) → i < j → j < m → r.at j ≡ r.at i → ⊥
      clash i j l b e = r.apart i (j - i) (omega arith) (omega arith) (ap r.at (omega arith) ∙ e)

  -- from one point there is one way on
  pub same_way : (i j d : ℕ) → r.at i ≡ r.at j → r.at (i + d) ≡ r.at (j + d)
  same_way i j d e =
      let z : i % m ≡ j % m = apart_early (i % m) (j % m) (mod-lt i r.long) (mod-lt j r.long) (wound_here i ∙ e ∙ sym (wound_here j)) in
      sym (wound i d) ∙ ap (λ k. r.at (k + d)) z ∙ wound j d

  -- and one way back
  pub same_way_back : (i j : ℕ) → r.at (i + 1) ≡ r.at (j + 1) → r.at i ≡ r.at j
  same_way_back i j e = sym (whole i) ∙ same_way (i + 1) (j + 1) (m - 1) e ∙ whole j
    where
      whole : (k : ℕ) → r.at (k + 1 + (m - 1)) ≡ r.at k
      whole k = ap r.at (let l = r.long in omega arith) ∙ r.back k

  -- the same round from step j on
  pub from_step : ℕ → Round Step m
  from_step j = record {
    at = λ i. r.at (j + i);
    long = r.long;
    back = λ i. ap r.at (omega arith) ∙ r.back (j + i);
    apart = λ i d a b e. r.apart (j + i) d a b (ap r.at (omega arith) ∙ e);
    goes = λ i. subst (λ k. Step (r.at (j + i)) (r.at k)) (omega arith) (r.goes (j + i));
    all = λ p q s.
        let (i, a, b) = r.all p q s in
        let far : (d : ℕ) → r.at (j + (i + j * m - j + d)) ≡ r.at (i + d) = λ d. ap r.at (reach i d) ∙ back_times (i + d) j in
        (i + j * m - j, ap r.at (omega arith) ∙ far 0 ∙ ap r.at (omega arith) ∙ a, far 1 ∙ b);
  }
    where
      reach : (i d : ℕ) → j + (i + j * m - j + d) ≡ i + d + j * m
      reach i d = let h : j * 1 ≤ j * m = mul-le-mul (le_refl j) r.long in omega arith

  pub from_step_at : (j i : ℕ) → (from_step j).at i ≡ r.at (j + i)
  unfolding from_step
  from_step_at j i = refl

-- d more, counted round a row of n + 1: straight on, or once past its end
abbrev Wrapped : ℕ → ℕ → ℕ → Type 0
Wrapped n i d = ((i + d) % suc n ≡ i % suc n + d) ⊎ ((i + d) % suc n + suc n ≡ i % suc n + d)

wrapped : (n i d : ℕ) → d ≤ suc n → Wrapped n i d
wrapped n i d l = rw (← mod-add-mod i (suc n) d) (step (i % suc n) (mod-lt i (suc-le-suc zero-le)))
  where
    step : (r : ℕ) → r < suc n → ((r + d) % suc n ≡ r + d) ⊎ ((r + d) % suc n + suc n ≡ r + d)
    step r b = elim (dec_lt (r + d) (suc n)) [
      | yes h ↦ inl (mod-eq_of_lt h)
      | no f ↦ inr (let e : (r + d) % suc n ≡ r + d - suc n = ap (λ k. k % suc n) (omega arith) ∙ add-mod_right (r + d - suc n) (suc n) ∙ mod-eq_of_lt (omega arith) in omega arith)
    ]

-- p and q stand next to each other in a row, or at its end and its beginning
abbrev pub Beside : (ℕ → ℕ) → ℕ → ℕ → ℕ → Type 0
Beside row n p q = ((i : ℕ) × (i < n) × (row i ≡ p) × (row (i + 1) ≡ q)) ⊎ ((row n ≡ p) × (row 0 ≡ q))

-- a row of different points, gone through from 0 to n and back to 0
module _ (Step : ℕ → ℕ → Type 0) (n : ℕ) (row : ℕ → ℕ) (apart : (i j : ℕ) → i ≤ n → j ≤ n → row i ≡ row j → i ≡ j)
    (goes : (i : ℕ) → i < n → Step (row i) (row (i + 1))) (closes : Step (row n) (row 0))
    (all : (p q : ℕ) → Step p q → Beside row n p q) where
  pub round_of : Round Step (suc n)
  round_of = record {
    at = λ i. row (i % suc n);
    long = suc-le-suc zero-le;
    back = λ i. ap row (add-mod_right i (suc n));
    apart = λ i d a b e. far i d a b (wrapped n i d (omega arith)) (apart _ _ (rest (i + d)) (rest i) e);
    goes = λ i. step i (wrapped n i 1 (suc-le-suc zero-le)) (rest (i + 1));
    all = λ p q s. find p q (all p q s);
  }
    where
      rest : (i : ℕ) → i % suc n ≤ n
      rest i = let h = mod-lt i {m = suc n} (suc-le-suc zero-le) in omega arith

      far : (i d : ℕ) → 0 < d → d < suc n → Wrapped n i d → (i + d) % suc n ≡ i % suc n → ⊥
      far i d a b (inl h) e = omega arith
      far i d a b (inr h) e = omega arith

      step : (i : ℕ) → Wrapped n i 1 → (i + 1) % suc n ≤ n → Step (row (i % suc n)) (row ((i + 1) % suc n))
      step i (inl h) b = rw h (goes (i % suc n) (omega arith))
      step i (inr h) b =
          let x : (i + 1) % suc n ≡ 0 = (let l = rest i in omega arith) in
          let y : i % suc n ≡ n = omega arith in
          rw (x, y) closes

      find : (p q : ℕ) → Beside row n p q → (i : ℕ) × (row (i % suc n) ≡ p) × (row ((i + 1) % suc n) ≡ q)
      find p q (inl (i, l, a, b)) = (i, ap row (mod-eq_of_lt (omega arith)) ∙ a, ap row (mod-eq_of_lt (omega arith)) ∙ b)
      find p q (inr (a, b)) = (n, ap row (mod-eq_of_lt (omega arith)) ∙ a, ap row (ap (λ k. k % suc n) (add-one n) ∙ mod_self (suc n)) ∙ b)

  pub round_of_at : (i : ℕ) → i ≤ n → round_of.at i ≡ row i
  unfolding round_of
  round_of_at i l = ap row (mod-eq_of_lt (suc-le-suc l))
