-- A search that finds the first number that meets a test, or none. Assumes nothing.
use mathlib.Core.Path.{◌≡◌, sym}
use mathlib.Core.Bool.{Bool, true, false}
use Prim.Native.Nat.{ℕ, ◌<◌, ◌≤◌}
use native.Mathlib.Omega.{arith}
use Rattle.std.specs.Prelude.{Option, Some, None, MatchOption, unwrap_or}
use Rattle.laws.specs.First.{first}
use Rattle.laws.proofs.Search.{first_hit, first-none}

pub found_first : (test : ℕ → Bool) (n : ℕ) (r : Option ℕ)
    → MatchOption r ((k : ℕ) → 0 ≤ k → k < n → test k ≡ false) (λ i. (0 ≤ i) × (i < n) × (test i ≡ true) × ((k : ℕ) → 0 ≤ k → k < i → test k ≡ false)) → unwrap_or r n ≡ first test n
found_first test n None h = sym (first-none test n (λ k l. h k (omega arith) l))
found_first test n (Some i) h = sym (first_hit test n i h.1 (λ k l. h.3 k (omega arith) l) h.2)
