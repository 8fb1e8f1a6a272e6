-- Document 01, 'The printed list', what the printer writes. Assumes nothing.
use Rattle.std.specs.Prelude.{ℕ, zero, suc, ◌+◌, ◌*◌, ◌/◌, ◌%◌, cond, List, [], ◌∷◌, ◌++◌, ltb}

-- the digits of n, k at most, in front of a text: no zero leads, but in 0
unfoldable pub spelled : ℕ → ℕ → List ℕ → List ℕ
spelled zero n text = text
spelled (suc k) n text = cond (ltb n 10) ((48 + n) ∷ text) (spelled k (n / 10) ((48 + n % 10) ∷ text))

-- a number below 10 ^ 20 in decimal
unfoldable pub decimal : ℕ → List ℕ
decimal n = spelled 20 n []

-- fields after a first one: a space before each, a line feed at the end
unfoldable pub onward : List ℕ → List ℕ
onward [] = 10 ∷ []
onward (n ∷ ns) = (32 ∷ decimal n) ++ onward ns

-- a line of fields
abbrev pub fields : List ℕ → List ℕ
fields [] = onward []
fields (n ∷ ns) = decimal n ++ onward ns

-- least limit, triangles peeled, doubled area, ring
abbrev pub line : ℕ → ℕ → ℕ → List ℕ → List ℕ
line least peels area ring = fields (least ∷ peels ∷ area ∷ ring)

-- "refused", number, place
abbrev pub refusal_line : ℕ → ℕ → List ℕ
refusal_line number place = (114 ∷ 101 ∷ 102 ∷ 117 ∷ 115 ∷ 101 ∷ 100 ∷ []) ++ onward (number ∷ place ∷ [])

-- bytes that hold every line of so many fields: a field has 20 digits at most and one byte beside it
abbrev pub room : ℕ → ℕ
room fields = 21 * fields

-- numbers printed line by line
unfoldable pub printout : List (List ℕ) → List ℕ
printout [] = []
printout (ns ∷ lines) = fields ns ++ printout lines

-- the numbers of all lines
unfoldable pub together : List (List ℕ) → List ℕ
together [] = []
together (ns ∷ lines) = ns ++ together lines
