-- A closed round of m points that visits each once, as the point at each step of going round for ever. Assumes nothing.
use Rattle.std.specs.Prelude.{◌≡◌, List, ◌++◌, ℕ, ◌+◌, ◌<◌, take, drop}

-- `at i` is the point at step i: step i + m is there again, no step between is, and the steps are exactly the pairs that Step allows
pub record Round (Step : ℕ → ℕ → Type 0) (m : ℕ) : Type 0 where
  pub at : ℕ → ℕ
  pub long : 0 < m
  pub back : (i : ℕ) → at (i + m) ≡ at i
  pub apart : (i d : ℕ) → 0 < d → d < m → at (i + d) ≡ at i → ⊥
  pub goes : (i : ℕ) → Step (at i) (at (i + 1))
  pub all : (p q : ℕ) → Step p q → (i : ℕ) × (at i ≡ p) × (at (i + 1) ≡ q)

-- of n directed sides, each with a tail and a head, one that is a Side runs from p to q
abbrev pub Runs : ℕ → (ℕ → Type 0) → (ℕ → ℕ) → (ℕ → ℕ) → ℕ → ℕ → Type 0
Runs n Side tail head p q = (s : ℕ) × (s < n) × Side s × (tail s ≡ p) × (head s ≡ q)

-- a round as a list, begun at its place j
abbrev pub rotated : ℕ → List ℕ → List ℕ
rotated j l = drop j l ++ take j l
