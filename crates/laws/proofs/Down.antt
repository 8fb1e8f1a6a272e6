-- A search from the top down: the last hit so far is the first from there on. Assumes nothing.
use mathlib.Core.Path.{◌≡◌, sym, ◌∙◌}
use mathlib.Core.Bool.{Bool, true, false}
use Prim.Native.Nat.{ℕ, ◌≤◌, ◌<◌}
use native.Mathlib.Decide.{dec_lt}
use native.Mathlib.Omega.{arith}
use Rattle.laws.specs.First.{first}
use Rattle.laws.proofs.Search.{first_hit, first-none}

-- r is the first hit from s on, or n where there is none
pub record Since (test : ℕ → Bool) (n s r : ℕ) : Type 0 where
  pub within : r ≤ n
  pub clear : (i : ℕ) → s ≤ i → i < r → test i ≡ false
  pub hit : r < n → test r ≡ true

pub since_none : {test : ℕ → Bool} {n : ℕ} → Since test n n n
since_none = record { within = omega arith; clear = λ i a b. absurd (omega arith); hit = λ l. absurd (omega arith) }

pub since_all : (test : ℕ → Bool) (n r : ℕ) → Since test n 0 r → r ≡ first test n
since_all test n r h = elim (dec_lt r n) [
  | yes l ↦ sym (first_hit test n r l (λ i b. h.clear i (omega arith) b) (h.hit l))
  | no f ↦ (let w = h.within in let e : r ≡ n = omega arith in e ∙ sym (first-none test n (λ i b. h.clear i (omega arith) (omega arith))))
]
