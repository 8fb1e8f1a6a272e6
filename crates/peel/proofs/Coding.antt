-- The coding of one number below 2 ^ 14 reads back, both ways: what is coded is read, and what is read was coded; and so what is wrong with bytes
-- where no number is read. Assumes nothing.
use mathlib.Core.Path.{◌≡◌, refl, sym, ap, ap₂, subst, ◌∙◌}
use mathlib.Core.Logic.{◌↔◌, ◌⊎◌, inl, inr}
use mathlib.Core.Bool.{Bool, true, false, cond, ◌||◌}
use mathlib.Core.List.{List, [], ◌∷◌, ◌++◌}
use Prim.Native.Nat.{ℕ, zero, suc, ◌+◌, ◌-◌, ◌*◌, ◌/◌, ◌%◌, ◌<◌, ◌≤◌}
use native.Mathlib.Omega.{arith}
use lib.Dec.{eqb, ltb, leb}
use lib.ListN.{length, get_or, length-append}
use lib.Seq.{get_or-append-add}
use borrow.Author.Tests.{ltb-true, ltb-false, lt-ltb, le-ltb}
use Rattle.laws.proofs.Test.{false_iff, or_iff, eqb_iff, leb_iff}
use Rattle.peel.specs.Log.{coded, codes, Number, cut, ill_formed, formed, second_group, number_in, Replay, faults, numbered}
use Rattle.peel.specs.LogRefusals.{Octets, Cut, nothing_left, one_group, Overlong, two_groups, BadNumber, cut_short, not_shortest, too_high}

-- a second group that is 0, or has its top bit set
longer : (c : ℕ) → ((eqb c 0 || leb 128 c) ≡ true) ↔ ((c ≡ 0) ⊎ (128 ≤ c))
longer c = ((λ e. to (or_iff.0 e)), from)
  where
    to : (eqb c 0 ≡ true) ⊎ (leb 128 c ≡ true) → (c ≡ 0) ⊎ (128 ≤ c)
    to (inl z) = inl (eqb_iff.0 z)
    to (inr z) = inr (leb_iff.0 z)

    from : (c ≡ 0) ⊎ (128 ≤ c) → (eqb c 0 || leb 128 c) ≡ true
    from (inl z) = (or_iff {a = eqb c 0}).1 (inl (eqb_iff.1 z))
    from (inr z) = (or_iff {a = eqb c 0}).1 (inr (leb_iff.1 z))

shortest : (c : ℕ) → 0 < c → c < 128 → (eqb c 0 || leb 128 c) ≡ false
shortest c x y = false_iff.1 (λ e. neither ((longer c).0 e))
  where
    neither : (c ≡ 0) ⊎ (128 ≤ c) → ⊥
    neither (inl z) = omega arith
    neither (inr z) = omega arith

two_read : (b c : ℕ) (rest : List ℕ) → 128 ≤ b → 0 < c → c < 128 → number_in (b ∷ c ∷ rest) ≡ formed (b - 128 + 128 * c) rest
unfolding number_in second_group
two_read b c rest l x y = rw (le-ltb b 128 l, shortest c x y)

-- what is coded is read
pub coded_read : (n : ℕ) (rest : List ℕ) → n < 16384 → number_in (coded n ++ rest) ≡ formed n rest
unfolding coded number_in
coded_read n rest l = step (ltb n 128) refl
  where
    step : (b : Bool) → ltb n 128 ≡ b → number_in (cond b (n ∷ []) ((n % 128 + 128) ∷ n / 128 ∷ []) ++ rest) ≡ formed n rest
    step true e = rw e
    step false e =
        let m : 128 ≤ n = ltb-false n 128 e in
        let z : n % 128 + 128 - 128 + 128 * (n / 128) ≡ n = omega arith in
        two_read (n % 128 + 128) (n / 128) rest (omega arith) (omega arith) (omega arith) ∙ ap (λ i. formed i rest) z

-- what stands in front, in plain logic
pub data Stands (bytes : List ℕ) : Number → Type 0 where
  is_cut : Cut bytes → Stands bytes cut
  is_overlong : Overlong bytes → Stands bytes ill_formed
  is_coded : (n : ℕ) (rest : List ℕ) → n < 16384 → bytes ≡ coded n ++ rest → Stands bytes (formed n rest)

-- ... is what is read
stands_read : {bytes : List ℕ} {x : Number} → Stands bytes x → number_in bytes ≡ x
unfolding number_in second_group
stands_read (is_cut nothing_left) = refl
stands_read (is_cut (one_group b l)) = rw (le-ltb b 128 l)
stands_read (is_overlong (two_groups b c rest l e)) = rw (le-ltb b 128 l, (longer c).1 e)
stands_read (is_coded n rest l e) = ap number_in e ∙ coded_read n rest l

-- ... and the other way round
read_stands : (bytes : List ℕ) → Octets bytes → Stands bytes (number_in bytes)
unfolding number_in second_group coded
read_stands [] h = is_cut nothing_left
read_stands (b ∷ bytes) h = first (ltb b 128) refl bytes (h 0 (omega arith))
  where
    first : (x : Bool) → ltb b 128 ≡ x → (bytes : List ℕ) → b < 256 → Stands (b ∷ bytes) (cond x (formed b bytes) (second_group b bytes))
    first true e bytes m = is_coded b bytes (let l = ltb-true b 128 e in omega arith) (rw e)
    first false e [] m = is_cut (one_group b (ltb-false b 128 e))
    first false e (c ∷ rest) m = second (eqb c 0 || leb 128 c) refl
      where
        l : 128 ≤ b
        l = ltb-false b 128 e

        second : (x : Bool) → (eqb c 0 || leb 128 c) ≡ x → Stands (b ∷ c ∷ rest) (cond x ill_formed (formed (b - 128 + 128 * c) rest))
        second true f = is_overlong (two_groups b c rest l ((longer c).0 f))
        second false f =
            let u : c ≡ 0 → ⊥ = λ z. false_iff.0 f ((longer c).1 (inl z)) in
            let w : 128 ≤ c → ⊥ = λ z. false_iff.0 f ((longer c).1 (inr z)) in
            let k : 128 ≤ b = l in
            let n : ℕ = b - 128 + 128 * c in
            let p : n % 128 + 128 ≡ b = omega arith in
            let q : n / 128 ≡ c = omega arith in
            is_coded n rest (omega arith) (rw (le-ltb n 128 (omega arith)) (ap₂ (λ (i j : ℕ). i ∷ j ∷ rest) (sym p) (sym q)))

-- one law for both ways
pub number_iff : (bytes : List ℕ) → Octets bytes → (x : Number) → (number_in bytes ≡ x) ↔ Stands bytes x
number_iff bytes h x = ((λ e. subst (Stands bytes) e (read_stands bytes h)), stands_read)

-- ---- a number of a log, 2,042 at most: what is so of its refusals and of what comes next is so of the answer
pub by_number : (P : Replay → Type 0) (next : ℕ → List ℕ → Replay) (at : ℕ) (bytes : List ℕ) → Octets bytes → ((number : ℕ) → BadNumber bytes number → P (faults number at))
    → ((n : ℕ) (rest : List ℕ) → n ≤ 2042 → bytes ≡ coded n ++ rest → P (next n rest)) → P (numbered next at (number_in bytes))
unfolding numbered
by_number P next at bytes h bad good = step (number_in bytes) (read_stands bytes h)
  where
    step : (x : Number) → Stands bytes x → P (numbered next at x)
    step x (is_cut c) = bad 41 (cut_short c)
    step x (is_overlong c) = bad 42 (not_shortest c)
    step x (is_coded n rest k e) = high (ltb 2042 n) refl
      where
        high : (x : Bool) → ltb 2042 n ≡ x → P (cond x (faults 42 at) (next n rest))
        high true f = bad 42 (too_high n rest (ltb-true 2042 n f) k e)
        high false f = good n rest (ltb-false 2042 n f) e

-- a number's fault is the refusal at its place
pub bad_refused : (next : ℕ → List ℕ → Replay) (at : ℕ) (bytes : List ℕ) (number : ℕ) → BadNumber bytes number → numbered next at (number_in bytes) ≡ faults number at
unfolding numbered
bad_refused next at bytes number (cut_short c) = ap (numbered next at) (stands_read (is_cut c))
bad_refused next at bytes number (not_shortest c) = ap (numbered next at) (stands_read (is_overlong c))
bad_refused next at bytes number (too_high n rest h l e) = ap (numbered next at) (stands_read (is_coded n rest l e)) ∙ rw (lt-ltb 2042 n h)

-- a number in front goes on with the next
pub low_next : (next : ℕ → List ℕ → Replay) (at n : ℕ) (rest : List ℕ) → n ≤ 2042 → numbered next at (number_in (coded n ++ rest)) ≡ next n rest
unfolding numbered
low_next next at n rest l = ap (numbered next at) (coded_read n rest (omega arith)) ∙ rw (le-ltb 2042 n l)

-- the bytes after a number
pub octets_after : (front rest : List ℕ) → Octets (front ++ rest) → Octets rest
octets_after front rest h i l = rw (get_or-append-add front rest i 0) at (h (length front + i) (rw (length-append front rest) (omega arith)))

-- what is coded is bytes
octets_coded : (n : ℕ) → n < 16384 → Octets (coded n)
unfolding coded
octets_coded n l = step (ltb n 128) refl
  where
    step : (b : Bool) → ltb n 128 ≡ b → Octets (cond b (n ∷ []) ((n % 128 + 128) ∷ n / 128 ∷ []))
    step true e zero h = let m = ltb-true n 128 e in omega arith
    step true e (suc i) h = absurd (omega arith)
    step false e zero h = omega arith
    step false e (suc zero) h = omega arith
    step false e (suc (suc i)) h = absurd (omega arith)

octets_append : (front rest : List ℕ) → Octets front → Octets rest → Octets (front ++ rest)
octets_append [] rest f r i l = r i l
octets_append (b ∷ front) rest f r zero l = f 0 (omega arith)
octets_append (b ∷ front) rest f r (suc i) l = octets_append front rest (λ j k. f (suc j) (omega arith)) r i (omega arith)

pub octets_codes : (ns : List ℕ) → ((j : ℕ) → j < length ns → get_or ns j 0 < 16384) → Octets (codes ns)
unfolding codes
octets_codes [] h = λ i l. absurd (omega arith)
octets_codes (n ∷ ns) h = octets_append (coded n) (codes ns) (octets_coded n (h 0 (omega arith))) (octets_codes ns (λ j l. h (suc j) (omega arith)))

coded_length : (n : ℕ) → length (coded n) ≤ 2
unfolding coded
coded_length n = step (ltb n 128)
  where
    step : (b : Bool) → length (cond b (n ∷ []) ((n % 128 + 128) ∷ n / 128 ∷ [])) ≤ 2
    step true = omega arith
    step false = omega arith

pub codes_length : (ns : List ℕ) → length (codes ns) ≤ 2 * length ns
unfolding codes
codes_length [] = omega arith
codes_length (n ∷ ns) = let h = codes_length ns in let c = coded_length n in let e = length-append (coded n) (codes ns) in omega arith
