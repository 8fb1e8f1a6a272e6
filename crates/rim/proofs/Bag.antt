-- How often a side stands in the queue, as one place changes. Assumes nothing.
use mathlib.Core.Path.{◌≡◌, refl, ap, ◌∙◌}
use mathlib.Core.Logic.{◌⊎◌, inl, inr}
use mathlib.Core.Bool.{Bool, true, false, cond}
use mathlib.Core.List.{List}
use Prim.Native.Nat.{ℕ, zero, suc, ◌+◌, ◌<◌, ◌≤◌}
use native.Mathlib.Numerals.{add-one}
use native.Mathlib.Decide.{dec_lt}
use native.Mathlib.Omega.{arith}
use lib.Dec.{eqb}
use lib.ListN.{length, get_or, set}
use lib.Seq.{get_or-set_same, get_or-set_other}
use Rattle.laws.specs.First.{sum}
use Rattle.laws.proofs.Test.{eqb_iff}
use Rattle.laws.proofs.More.{sum_last}
use Rattle.laws.proofs.Count.{sum_other}
use Rattle.rim.specs.Heap.{bit, tally}

-- one place more
pub tally_more : (x : ℕ) (h : List ℕ) (n : ℕ) → tally x h (n + 1) ≡ tally x h n + bit (get_or h n 0) x
unfolding tally
tally_more x h n = rw (add-one) (sum_last (λ i. bit (get_or h i 0) x) n)

-- another side at one place
pub tally_set : (x : ℕ) (h : List ℕ) (n i v : ℕ) → i < n → i < length h → tally x (set h i v) n + bit (get_or h i 0) x ≡ tally x h n + bit v x
unfolding tally
tally_set x h n i v l m =
    sum_other (λ j. bit (get_or (set h i v) j 0) x) (λ j. bit (get_or h j 0) x) n i l (λ j _ f. ap (λ s. bit s x) (get_or-set_other h i j v 0 f))
    ∙ ap (λ s. tally x h n + bit s x) (get_or-set_same h i v 0 m)

pub tally_none : (x : ℕ) (h : List ℕ) → tally x h 0 ≡ 0
unfolding tally sum
tally_none x h = refl

bit_of : (s x : ℕ) → 0 < bit s x → s ≡ x
unfolding bit
bit_of s x = step (eqb s x) refl
  where
    step : (b : Bool) → eqb s x ≡ b → 0 < cond b 1 0 → s ≡ x
    step true e l = eqb_iff.0 e
    step false e l = absurd (omega arith)

pub bit_same : (s : ℕ) → bit s s ≡ 1
unfolding bit
bit_same s = rw ((eqb_iff {a = s} {b = s}).1 refl)

pub bit_split : (s x : ℕ) → (s ≡ x) ⊎ (bit s x ≡ 0)
bit_split s x = elim (dec_lt 0 (bit s x)) [ yes l ↦ inl (bit_of s x l) | no f ↦ inr (omega arith) ]

pub bit_apart : (s x : ℕ) → (s ≡ x → ⊥) → bit s x ≡ 0
bit_apart s x f = elim (bit_split s x) [ inl e ↦ absurd (f e) | inr e ↦ e ]

-- what is counted stands at a place
pub tally_at : (x : ℕ) (h : List ℕ) (n : ℕ) → 0 < tally x h n → (i : ℕ) × (i < n) × (get_or h i 0 ≡ x)
tally_at x h zero l = absurd (let e = tally_none x h in omega arith)
tally_at x h (suc n) l = step (bit_split (get_or h n 0) x) (tally_at x h n)
  where
    step : (get_or h n 0 ≡ x) ⊎ (bit (get_or h n 0) x ≡ 0) → (0 < tally x h n → (i : ℕ) × (i < n) × (get_or h i 0 ≡ x)) → (i : ℕ) × (i < suc n) × (get_or h i 0 ≡ x)
    step (inl e) ih = (n, omega arith, e)
    step (inr e) ih = let (i, b, z) = ih (let t = tally_more x h n in let u : tally x h (n + 1) ≡ tally x h (suc n) = ap (tally x h) (omega arith) in omega arith) in (i, omega arith, z)

-- the first is counted
pub tally_first : (x : ℕ) (h : List ℕ) (n : ℕ) → 0 < n → bit (get_or h 0 0) x ≤ tally x h n
unfolding tally sum
tally_first x h zero l = absurd (omega arith)
tally_first x h (suc n) l = omega arith
