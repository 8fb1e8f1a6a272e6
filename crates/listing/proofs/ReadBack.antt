-- Numbers printed line by line are read back. Assumes nothing.
use Prim.Native.Nat.{ℕ, zero, suc, ◌+◌, ◌-◌, ◌/◌, ◌%◌, ◌^◌, ◌≤◌, ◌<◌}
use mathlib.Core.Path.{◌≡◌, refl, ap, subst, ◌∙◌}
use mathlib.Core.Logic.{inl, inr}
use mathlib.Core.Bool.{Bool, true, false}
use mathlib.Core.List.{List, [], ◌∷◌, ◌++◌, append_assoc}
use mathlib.Core.Option.{some}
use native.Mathlib.Omega.{arith}
use borrow.Author.Tests.{ltb-true, ltb-false}
use lib.Dec.{ltb}
use lib.ListN.{length}
use Rattle.listing.specs.Text.{value_from, value, numbers}
use Rattle.listing.specs.Says.{White, Digits, Number, Says, nothing, gap, next, Small, Smalls}
use Rattle.listing.specs.Line.{spelled, decimal, onward, printout, together}
use Rattle.listing.proofs.Spelling.{fewer}
use Rattle.listing.proofs.Grammar.{numbers_exactly}

-- what holds of a number of one digit before a text, and of the rest before its last digit, holds of the number
spelled_ind : (P : ℕ → ℕ → List ℕ → List ℕ → Type 0)
    → ((k n : ℕ) (t : List ℕ) → n < 10 → P (suc k) n t ((48 + n) ∷ t))
    → ((k n : ℕ) (t s : List ℕ) → 10 ≤ n → P k (n / 10) ((48 + n % 10) ∷ t) s → P (suc k) n t s)
    → ((n : ℕ) (t : List ℕ) → P zero n t t)
    → (k n : ℕ) (t : List ℕ) → P k n t (spelled k n t)
unfolding spelled
spelled_ind P one more none zero n t = none n t
spelled_ind P one more none (suc k) n t = step (ltb n 10) refl (spelled_ind P one more none k (n / 10) ((48 + n % 10) ∷ t))
  where
    step : (b : Bool) → ltb n 10 ≡ b → P k (n / 10) ((48 + n % 10) ∷ t) (spelled k (n / 10) ((48 + n % 10) ∷ t)) → P (suc k) n t (spelled (suc k) n t)
    step true e h = rw (e, spelled) (one k n t (ltb-true n 10 e))
    step false e h = rw (e, spelled) (more k n t (spelled k (n / 10) ((48 + n % 10) ∷ t)) (ltb-false n 10 e) h)

-- a number says itself
spelled_value : (k n : ℕ) (t : List ℕ) → n < 10 ^ k → value_from 0 (spelled k n t) ≡ value_from n t
unfolding value_from
spelled_value k n t = spelled_ind (λ k n t s. n < 10 ^ k → value_from 0 s ≡ value_from n t)
    (λ k n t h b. ap (λ (m : ℕ). value_from m t) (omega arith))
    (λ k n t s h ih b. ih (fewer (suc k) k n refl b h).1 ∙ ap (λ (m : ℕ). value_from m t) (omega arith))
    (λ n t b. ap (λ (m : ℕ). value_from m t) (omega arith))
    k n t

spelled_digits : (k n : ℕ) (t : List ℕ) → Digits t → Digits (spelled k n t)
spelled_digits k n t = spelled_ind (λ k n t s. Digits t → Digits s)
    (λ k n t h d. (omega arith, omega arith, d))
    (λ k n t s h ih d. ih (omega arith, omega arith, d))
    (λ n t d. d)
    k n t

spelled_some : (k n : ℕ) (t : List ℕ) → (length t ≤ length (spelled k n t)) × (0 < k → length t < length (spelled k n t))
spelled_some k n t = spelled_ind (λ k n t s. (length t ≤ length s) × (0 < k → length t < length s))
    (λ k n t h. (omega arith, λ b. omega arith))
    (λ k n t s h ih. let l = ih.0 in (omega arith, λ b. omega arith))
    (λ n t. (omega arith, λ b. absurd (omega arith)))
    k n t

spelled_few : (k n : ℕ) (t : List ℕ) (j : ℕ) → 1 ≤ j → n < 10 ^ j → length (spelled k n t) ≤ j + length t
spelled_few k n t = spelled_ind (λ k n t s. (j : ℕ) → 1 ≤ j → n < 10 ^ j → length s ≤ j + length t)
    (λ k n t h j l b. omega arith)
    (λ k n t s h ih j l b. let f = fewer j (j - 1) n (omega arith) b h in let g = ih (j - 1) f.0 f.1 in omega arith)
    (λ n t j l b. omega arith)
    k n t

pub decimal_value : (n : ℕ) → n < 10 ^ 20 → value (decimal n) ≡ n
unfolding decimal value_from
decimal_value n h = spelled_value 20 n [] h

pub decimal_number : (n : ℕ) → n ≤ 65535 → Number (decimal n)
unfolding decimal
decimal_number n h = record {
  some = (spelled_some 20 n []).1 (omega arith);
  few = let f = spelled_few 20 n [] 5 (omega arith) (omega arith) in omega arith;
  plain = spelled_digits 20 n [] tt;
  small = let v = decimal_value n (omega arith) in omega arith;
}

-- ---- lines

decimal_says : (n b : ℕ) (text ns : List ℕ) → n ≤ 65535 → White b → Says text ns → Says (decimal n ++ (b ∷ text)) (n ∷ ns)
decimal_says n b text ns h w s =
    subst (λ (v : ℕ). Says (decimal n ++ (b ∷ text)) (v ∷ ns)) (decimal_value n (omega arith)) (next (decimal_number n h) w s)

fields_say : (n : ℕ) (ns rest rs : List ℕ) → n ≤ 65535 → Small ns → Says rest rs → Says (decimal n ++ (onward ns ++ rest)) (n ∷ (ns ++ rs))
unfolding onward
fields_say n [] rest rs h k s = decimal_says n 10 rest rs h (inr (inl refl)) s
fields_say n (m ∷ ns) rest rs h k s =
    decimal_says n 32 ((decimal m ++ onward ns) ++ rest) (m ∷ (ns ++ rs)) h (inl refl)
    (rw (append_assoc (decimal m) (onward ns) rest) (fields_say m ns rest rs k.0 k.1 s))

printout_says : (lines : List (List ℕ)) → Smalls lines → Says (printout lines) (together lines)
unfolding printout together onward
printout_says [] h = nothing
printout_says ([] ∷ lines) h = gap (inr (inl refl)) (printout_says lines h.1)
printout_says ((n ∷ ns) ∷ lines) h =
    rw (append_assoc (decimal n) (onward ns) (printout lines)) (fields_say n ns (printout lines) (together lines) h.0.0 h.0.1 (printout_says lines h.1))

-- parsing a printout of numbers, line by line, gives those numbers
pub read_back : (lines : List (List ℕ)) → Smalls lines → length (printout lines) ≤ 65536 → numbers (printout lines) ≡ some (together lines)
read_back lines h l = (numbers_exactly (printout lines) (together lines)).1 (l, printout_says lines h)
