-- Document 02, 5/13: what a replay of a log answers, and at which place it refuses, in plain logic. Assumes nothing.
use Rattle.std.specs.Prelude.{ℕ, ◌<◌, ◌≤◌, ◌≡◌, ◌⊎◌, List, [], ◌∷◌, ◌++◌, length, get_or, take}
use Rattle.peel.specs.Log.{coded, codes, Replay, accepts, faults}

-- bytes
abbrev pub Octets : List ℕ → Type 0
Octets s = (i : ℕ) → i < length s → get_or s i 0 < 256

-- ---- a number

-- the bytes end before a number, or after a first group that is not its last
pub data Cut : List ℕ → Type 0 where
  nothing_left : Cut []
  one_group : (b : ℕ) → 128 ≤ b → Cut (b ∷ [])

-- the second group is 0, or has its top bit set
pub data Overlong : List ℕ → Type 0 where
  two_groups : (b c : ℕ) (rest : List ℕ) → 128 ≤ b → (c ≡ 0) ⊎ (128 ≤ c) → Overlong (b ∷ c ∷ rest)

-- what is wrong with the number in front
pub data BadNumber (bytes : List ℕ) : ℕ → Type 0 where
  cut_short : Cut bytes → BadNumber bytes 41
  not_shortest : Overlong bytes → BadNumber bytes 42
  too_high : (n : ℕ) (rest : List ℕ) → 2042 < n → n < 16384 → bytes ≡ coded n ++ rest → BadNumber bytes 42

-- ---- a log, where ts are the peels of a draw at limit 0
module _ (ts : List ℕ) where
  -- where a count of m and the first j peels end
  abbrev pub place : ℕ → ℕ → ℕ
  place m j = length (codes (m ∷ take j ts))

  -- peel j, counted from 0, is triangle t
  abbrev pub Peel : ℕ → ℕ → Type 0
  Peel j t = (j < length ts) × (get_or ts j 0 ≡ t)

  module _ (bytes : List ℕ) where
    -- the log begins with these, and the rest comes then
    pub record Begins (m j : ℕ) (rest : List ℕ) : Type 0 where
      pub low : m ≤ 2042
      pub asked : j ≤ m
      pub there : j ≤ length ts
      pub reads : bytes ≡ codes (m ∷ take j ts) ++ rest

    -- what the replay answers
    pub data Told : Replay → Type 0 where
      all_peels : (n : ℕ) → Begins n n [] → Told (accepts n)
      bad_count : (number : ℕ) → BadNumber bytes number → Told (faults number 0)
      bad_number : (m j number : ℕ) (rest : List ℕ) → j < m → Begins m j rest → BadNumber rest number → Told (faults number (place m j))
      not_next : (m j t : ℕ) (rest : List ℕ) → j < m → Begins m j (coded t ++ rest) → t ≤ 2042 → (Peel j t → ⊥) → Told (faults 43 (place m j))
      left_over : (m b : ℕ) (rest : List ℕ) → Begins m m (b ∷ rest) → Told (faults 44 (place m m))
