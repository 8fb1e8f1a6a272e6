-- Searches and sums over one number more. Assumes nothing.
use mathlib.Core.Path.{◌≡◌, sym, ap, ◌∙◌}
use mathlib.Core.Logic.{inl, inr}
use mathlib.Core.Bool.{Bool, ◌||◌}
use Prim.Native.Nat.{ℕ, zero, suc, ◌+◌, ◌≤◌}
use native.Mathlib.Decide.{ℕ_discrete}
use native.Mathlib.Omega.{arith}
use Rattle.laws.specs.First.{any, sum}
use Rattle.laws.proofs.Test.{or_iff, any_iff, same_answer}

pub any_more : (test : ℕ → Bool) (n : ℕ) → any test (n + 1) ≡ (any test n || test n)
any_more test n = same_answer
    (λ e. let (i, l, t) = (any_iff {test = test}).0 e in (or_iff {a = any test n}).1 (elim (ℕ_discrete i n) [ yes z ↦ inr (ap test (sym z) ∙ t) | no f ↦ inl (any_iff.1 (i, omega arith, t)) ]))
    (λ e. elim ((or_iff {a = any test n}).0 e) [
      | inl h ↦ (let (i, l, t) = (any_iff {test = test}).0 h in any_iff.1 (i, omega arith, t))
      | inr h ↦ any_iff.1 (n, omega arith, h)
    ])

pub sum_last : (f : ℕ → ℕ) (n : ℕ) → sum f (suc n) ≡ sum f n + f n
unfolding sum
sum_last f zero = omega arith
sum_last f (suc n) = let h = sum_last (λ i. f (suc i)) n in omega arith

pub sum_below : (f : ℕ → ℕ) (t n : ℕ) → t ≤ n → sum f t ≤ sum f n
unfolding sum
sum_below f zero n l = omega arith
sum_below f (suc t) zero l = absurd (omega arith)
sum_below f (suc t) (suc n) l = let h = sum_below (λ i. f (suc i)) t n (omega arith) in omega arith
