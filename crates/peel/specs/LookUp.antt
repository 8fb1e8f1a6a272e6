-- Document 02, 11/13: where a limit stands in a list of limits in falling order, and the same by halving. Assumes nothing.
use Rattle.std.specs.Prelude.{ℕ, zero, suc, ◌+◌, ◌/◌, ◌<◌, cond, List, leb, ltb, length, get_or}
use Rattle.laws.specs.First.{first}

-- the first place whose number is not above the limit, or the length
unfoldable pub place_of : List ℕ → ℕ → ℕ
place_of limits limit = first (λ i. leb (get_or limits i 0) limit) (length limits)

-- each number is less than those before it
abbrev pub Falling : List ℕ → Type 0
Falling limits = (i j : ℕ) → i < j → j < length limits → get_or limits j 0 < get_or limits i 0

-- of the places from low on and below high, in n turns at most: the lower half where the middle number is not above the limit, else what comes after it
unfoldable pub halved : ℕ → List ℕ → ℕ → ℕ → ℕ → ℕ
halved zero limits limit low high = low
halved (suc n) limits limit low high = cond (ltb low high)
    (cond (leb (get_or limits ((low + high) / 2) 0) limit) (halved n limits limit low ((low + high) / 2)) (halved n limits limit ((low + high) / 2 + 1) high))
    low
