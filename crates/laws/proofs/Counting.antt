-- A loop that counts from 0 up. Assumes nothing.
use mathlib.Core.Path.{◌≡◌, refl, sym, ap, ◌∙◌}
use mathlib.Core.Bool.{Bool, true, false, cond}
use Prim.Native.Nat.{ℕ, zero, suc, ◌+◌, ◌≤◌, ◌<◌}
use native.Mathlib.Numerals.{add-one}
use native.Mathlib.Omega.{arith}
use Rattle.laws.specs.First.{count}

-- the last of n + 1 tests is counted last
pub count_last : (test : ℕ → Bool) (n : ℕ) → count test (suc n) ≡ count test n + cond (test n) 1 0
unfolding count
count_last test zero = step (test zero)
  where
    step : (b : Bool) → elim b [ true ↦ suc zero | false ↦ zero ] ≡ zero + cond b 1 0
    step true = refl
    step false = refl
count_last test (suc n) = step _ _ _ (test zero) (count_last (λ i. test (suc i)) n)
  where
    step : (a b c : ℕ) (t : Bool) → a ≡ b + c → elim t [ true ↦ suc a | false ↦ a ] ≡ elim t [ true ↦ suc b | false ↦ b ] + c
    step a b c true e = omega arith
    step a b c false e = e

pub count_within : (test : ℕ → Bool) (n : ℕ) → count test n ≤ n
unfolding count
count_within test zero = omega arith
count_within test (suc n) = step (test zero) (count_within (λ i. test (suc i)) n)
  where
    step : {a : ℕ} (t : Bool) → a ≤ n → elim t [ true ↦ suc a | false ↦ a ] ≤ suc n
    step true l = let k = l in omega arith
    step false l = let k = l in omega arith

-- of the n tests, those below i are counted
pub record Counted (test : ℕ → Bool) (n i total : ℕ) : Type 0 where
  pub within : i ≤ n
  pub is : total ≡ count test i

module _ {test : ℕ → Bool} {n : ℕ} where
  pub counts_none : Counted test n 0 0
  unfolding count
  counts_none = record { within = omega arith; is = refl }

  pub counts_one : {i total total' : ℕ} {here : Bool} → Counted test n i total → i < n → here ≡ test i → total' ≡ total + cond here 1 0 → Counted test n (i + 1) total'
  counts_one {i} {total} {total'} {here} c l e f = record {
    within = omega arith;
    is = f ∙ ap (λ t. t + cond here 1 0) c.is ∙ ap (λ b. count test i + cond b 1 0) e ∙ sym (count_last test i) ∙ ap (count test) (sym (add-one i));
  }

  pub counts_few : {i total : ℕ} → Counted test n i total → total ≤ i
  counts_few {i} c = let h = count_within test i in let e = c.is in omega arith
