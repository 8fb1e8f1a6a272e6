-- Document 01, 'The printed list', what the printer reads: decimal numbers of 1 to 5 digits up to 65,535, parted by white space. Assumes nothing.
use Rattle.std.specs.Prelude.{ℕ, ◌+◌, ◌*◌, ◌-◌, Bool, true, false, cond, ◌&&◌, ◌||◌, List, [], ◌∷◌, ◌++◌, leb, eqb, length, get_or}
use Rattle.std.proofs.Math.Option.{Option, none, some}
use Rattle.laws.specs.First.{table}
use Rattle.sheet.specs.Office.{Office, office}

-- a space, a line feed or a carriage return
abbrev pub white : ℕ → Bool
white b = eqb b 32 || eqb b 10 || eqb b 13

abbrev pub digit : ℕ → Bool
digit b = leb 48 b && leb b 57

-- ---- words: the runs of bytes between white space, which may also lead or trail

-- a first word, which may be empty, and those after it
pub record Parted : Type 0 where
  pub word : List ℕ
  pub others : List (List ℕ)

-- a word that is empty is none
abbrev pub unless_empty : List ℕ → List (List ℕ) → List (List ℕ)
unless_empty [] others = others
unless_empty (b ∷ bs) others = (b ∷ bs) ∷ others

abbrev pub all_words : Parted → List (List ℕ)
all_words p = unless_empty p.word p.others

abbrev pub joined : Bool → ℕ → Parted → Parted
joined true b p = record { word = []; others = all_words p }
joined false b p = record { word = b ∷ p.word; others = p.others }

unfoldable pub parted : List ℕ → Parted
parted [] = record { word = []; others = [] }
parted (b ∷ bs) = joined (white b) b (parted bs)

abbrev pub words : List ℕ → List (List ℕ)
words text = all_words (parted text)

-- ---- numbers

unfoldable pub digits : List ℕ → Bool
digits [] = true
digits (b ∷ bs) = digit b && digits bs

-- the number whose digits follow those of n
unfoldable pub value_from : ℕ → List ℕ → ℕ
value_from n [] = n
value_from n (b ∷ bs) = value_from (10 * n + (b - 48)) bs

abbrev pub value : List ℕ → ℕ
value word = value_from 0 word

-- a word that is a number: digits, 5 at most, up to 65,535
abbrev pub number : List ℕ → Bool
number word = digits word && (leb (length word) 5 && leb (value word) 65535)

abbrev pub before : List ℕ → Option (List ℕ) → Option (List ℕ)
before ns none = none
before ns (some ms) = some (ns ++ ms)

-- the numbers of all words, where each is a number
unfoldable pub values : List (List ℕ) → Option (List ℕ)
values [] = some []
values (w ∷ ws) = cond (number w) (before (value w ∷ []) (values ws)) none

-- a text has at most 65,536 bytes
abbrev pub numbers : List ℕ → Option (List ℕ)
numbers text = cond (leb (length text) 65536) (values (words text)) none

-- ---- the office: point count, triangle count, the points, the corners

module _ (ns : List ℕ) where
  abbrev pub point_count : ℕ
  point_count = get_or ns 0 0

  abbrev pub triangle_count : ℕ
  triangle_count = get_or ns 1 0

  -- the two counts fix how many numbers must follow
  abbrev pub counted : Bool
  counted = leb 2 (length ns) && eqb (length ns) (2 + 2 * point_count + 3 * triangle_count)

  abbrev pub sheet : Office
  sheet = office
      (table (λ i. get_or ns (2 + 2 * i) 0) point_count)
      (table (λ i. get_or ns (3 + 2 * i) 0) point_count)
      (table (λ s. get_or ns (2 + 2 * point_count + s) 0) (3 * triangle_count))

abbrev pub sheet_of : Option (List ℕ) → Option Office
sheet_of none = none
sheet_of (some ns) = cond (counted ns) (some (sheet ns)) none

-- the office that a text says, or none: refusal 40
unfoldable pub parsed : List ℕ → Option Office
parsed text = sheet_of (numbers text)
