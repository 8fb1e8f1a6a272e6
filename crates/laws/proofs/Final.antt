-- The greatest number below a bound at which a test holds; going back from one such number to the next. Assumes nothing.
use mathlib.Core.Path.{◌≡◌, refl, sym, ap, ◌∙◌}
use mathlib.Core.Bool.{Bool, true, false, true≢false, not, cond, ◌&&◌}
use mathlib.Core.Logic.{◌⊎◌, inl, inr}
use Prim.Native.Nat.{ℕ, zero, suc, ◌≤◌, ◌<◌}
use native.Mathlib.Decide.{ℕ_discrete}
use native.Mathlib.Omega.{arith}
use lib.Dec.{ltb, eqb}
use borrow.Author.Tests.{lt-ltb, le-ltb, eq-eqb, ne_eqb}
use Rattle.laws.specs.First.{any, final}
use Rattle.laws.proofs.Test.{false_iff, any_iff}

-- r is the greatest hit below n, or none
pub data IsFinal (none : ℕ) (test : ℕ → Bool) (n r : ℕ) : Type 0 where
  at : r < n → test r ≡ true → ((i : ℕ) → r < i → i < n → test i ≡ false) → IsFinal none test n r
  nowhere : r ≡ none → ((i : ℕ) → i < n → test i ≡ false) → IsFinal none test n r

module _ (none : ℕ) (test : ℕ → Bool) where
  pub final_hit : (n : ℕ) → test n ≡ true → final none test (suc n) ≡ n
  unfolding final
  final_hit n e = rw e

  pub final_miss : (n : ℕ) → test n ≡ false → final none test (suc n) ≡ final none test n
  unfolding final
  final_miss n e = rw e

  pub final_is : (n : ℕ) → IsFinal none test n (final none test n)
  unfolding final
  final_is zero = nowhere refl (λ i l. absurd (omega arith))
  final_is (suc n) = step (test n) refl (final_is n)
    where
      last : (i : ℕ) → i < suc n → (i < n) ⊎ (i ≡ n)
      last i l = elim (ℕ_discrete i n) [ yes e ↦ inr e | no f ↦ inl (omega arith) ]

      step : (b : Bool) → test n ≡ b → IsFinal none test n (final none test n) → IsFinal none test (suc n) (cond b n (final none test n))
      step true e f = at (omega arith) e (λ i l m. absurd (omega arith))
      step false e (at l h g) = at (omega arith) h (λ i a m. elim (last i m) [ inl y ↦ g i a y | inr y ↦ ap test y ∙ e ])
      step false e (nowhere h g) = nowhere h (λ i m. elim (last i m) [ inl y ↦ g i y | inr y ↦ ap test y ∙ e ])

-- Hits of both tests among those of the first, from r back: r is a hit of the first, or none.
module _ (none : ℕ) (A B : ℕ → Bool) where
  abbrev Both : ℕ → Bool
  Both i = A i && B i

  -- the greatest hit of both up to r, where r is no more than that of the first
  abbrev pub back_from : ℕ → ℕ
  back_from r = cond (ltb r none) (final none Both (suc r)) none

  pub back_begins : (n : ℕ) → n ≤ none → final none Both n ≡ back_from (final none A n)
  unfolding final
  back_begins zero l = rw (le-ltb none none (omega arith))
  back_begins (suc n) l = step (A n) refl (back_begins n (omega arith))
    where
      step : (b : Bool) → A n ≡ b → final none Both n ≡ back_from (final none A n) → cond (b && B n) n (final none Both n) ≡ back_from (cond b n (final none A n))
      step true e h = rw (lt-ltb n none (omega arith), e)
      step false e h = h

  -- one step back
  pub back_here : (r : ℕ) → r < none → A r ≡ true → B r ≡ true → back_from r ≡ r
  back_here r l a b = rw (lt-ltb r none l) (final_hit none Both r (rw (a, b)))

  pub back_on : (r : ℕ) → r < none → A r ≡ true → B r ≡ false → back_from r ≡ back_from (final none A r)
  back_on r l a b = rw (lt-ltb r none l) (final_miss none Both r (rw (a, b)) ∙ back_begins r (omega arith))

  pub back_none : (r : ℕ) → none ≤ r → back_from r ≡ none
  back_none r l = rw (le-ltb r none l)

-- there is a hit below n, exactly where the greatest is one
pub final-any : (none : ℕ) (test : ℕ → Bool) (n : ℕ) → n ≤ none → ltb (final none test n) none ≡ any test n
final-any none test n l = step (final_is none test n)
  where
    step : {r : ℕ} → IsFinal none test n r → ltb r none ≡ any test n
    step {r} (at b h g) = lt-ltb r none (omega arith) ∙ sym (any_iff.1 (r, b, h))
    step {r} (nowhere e g) = le-ltb r none (omega arith) ∙ sym (false_iff.1 (λ t. let (i, b, h) = any_iff.0 t in true≢false (sym h ∙ g i b)))

-- it is `none` where there is no hit, and only there
pub final_none : (none : ℕ) (test : ℕ → Bool) (n : ℕ) → n ≤ none → eqb (final none test n) none ≡ not (any test n)
final_none none test n l = step (final_is none test n)
  where
    step : {r : ℕ} → IsFinal none test n r → eqb r none ≡ not (any test n)
    step {r} (at b h g) = ne_eqb r none (λ e. let z = e in omega arith) ∙ sym (ap not (any_iff.1 (r, b, h)))
    step {r} (nowhere e g) = eq-eqb r none e ∙ sym (ap not (false_iff.1 (λ t. let (i, b, h) = any_iff.0 t in true≢false (sym h ∙ g i b))))
