-- Digits from the last to the first, and the lengths of numbers and lines. Assumes nothing.
use Prim.Native.Nat.{ℕ, zero, suc, ◌+◌, ◌*◌, ◌/◌, ◌%◌, ◌^◌, ◌≤◌, ◌<◌}
use mathlib.Core.Path.{◌≡◌, refl, sym, ◌∙◌}
use mathlib.Core.Bool.{Bool, true, false}
use mathlib.Core.List.{List, [], ◌∷◌, ◌++◌, append-nil}
use native.Mathlib.Nat.{pow-suc, div-lt_iff_lt-mul}
use native.Mathlib.Omega.{arith}
use borrow.Author.Tests.{lt-ltb, le-ltb}
use lib.Dec.{ltb, lit<}
use lib.ListN.{length, get_or, drop, length-append}
use Rattle.std.specs.Fmt.{decimal as library}
use Rattle.std.proofs.lemmas.Fmt.{PrependsLastDigit, decimal_from_prepends, length-decimal-le}
use Rattle.listing.specs.Line.{spelled, decimal, onward}
use Rattle.std.proofs.lemmas.List.{drop_more}

prepends : PrependsLastDigit spelled
unfolding spelled
prepends = record { one = λ k n acc h. rw (lt-ltb n 10 h, spelled); more = λ k n acc h. rw (le-ltb n 10 h, spelled) }

-- the library's decimal text is the same
pub decimal_is : (n : ℕ) → n < 2 ^ 64 → library n ≡ decimal n
unfolding decimal spelled
decimal_is n h = sym (decimal_from_prepends spelled prepends 20 n [] h (length-decimal-le 20 n (omega arith) (omega arith) h) ∙ append-nil (library n))

-- fewer digits are left
pub fewer : (i j n : ℕ) → i ≡ suc j → n < 10 ^ i → 10 ≤ n → (1 ≤ j) × (n / 10 < 10 ^ j)
fewer i zero n e h b = absurd (let k : n < 10 ^ 1 = rw e at h in omega arith)
fewer i (suc j) n e h b = (omega arith, (div-lt_iff_lt-mul {k = 10} (lit< tt)).1 (rw (e, pow-suc) at h))

spelled_short : (k n : ℕ) (t : List ℕ) → length (spelled k n t) ≤ k + length t
unfolding spelled
spelled_short zero n t = omega arith
spelled_short (suc k) n t = step (ltb n 10) refl (spelled_short k (n / 10) ((48 + n % 10) ∷ t))
  where
    step : (b : Bool) → ltb n 10 ≡ b → length (spelled k (n / 10) ((48 + n % 10) ∷ t)) ≤ k + suc (length t) → length (spelled (suc k) n t) ≤ suc k + length t
    step true e h = rw (e, spelled) (omega arith)
    step false e h = rw (e, spelled) (omega arith)

pub decimal_short : (n : ℕ) → length (decimal n) ≤ 20
unfolding decimal
decimal_short n = let h = spelled_short 20 n [] in omega arith

pub onward_short : (ns : List ℕ) → length (onward ns) ≤ 21 * length ns + 1
unfolding onward
onward_short [] = omega arith
onward_short (n ∷ ns) =
    let h = onward_short ns in
    let d = decimal_short n in
    omega (arith, length-append (32 ∷ decimal n) (onward ns))

pub onward_cons : (n : ℕ) (ns : List ℕ) → onward (n ∷ ns) ≡ (32 ∷ decimal n) ++ onward ns
unfolding onward
onward_cons n ns = refl

-- a ring's next field
pub onward_next : (ring : List ℕ) (i : ℕ) → i < length ring → onward (drop i ring) ≡ (32 ∷ decimal (get_or ring i 0)) ++ onward (drop (i + 1) ring)
onward_next ring i h = rw (drop_more ring i 0 h) (onward_cons (get_or ring i 0) (drop (i + 1) ring))
