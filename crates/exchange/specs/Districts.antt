-- Document 02, 3/13, one file for a whole district: a MultiPolygon is a byte order, type 6, a count of 1 to 32, and that many complete Polygons,
-- each with its own byte order. Rings come one after another in one pair of lists, with a list of their lengths. Assumes nothing.
use Rattle.std.specs.Prelude.{ℕ, zero, suc, ◌+◌, ◌*◌, ◌-◌, Bool, ◌&&◌, List, [], ◌∷◌, ◌++◌, eqb, leb, length, take, drop, replicate}
use Rattle.std.specs.List.{list_all}
use Rattle.shape.specs.Answers.{Question, must, Answer, asked}
use Rattle.shape.specs.Bytes.{number_at, in_order}
use Rattle.shape.specs.Coordinates.{whole}
use Rattle.shape.specs.Writing.{polygon, low}
use Rattle.shape.specs.Reading.{order_at, type_asks, length_at, end, polygon_asks, xs_at, ys_at}

-- ---- the file of some rings

-- polygons one after another, each in its own byte order
unfoldable pub polygons : List ℕ → List ℕ → List ℕ → List ℕ → List ℕ
polygons [] lengths xs ys = []
polygons (order ∷ orders) [] xs ys = []
polygons (order ∷ orders) (n ∷ lengths) xs ys = polygon order (take n xs) (take n ys) ++ polygons orders lengths (drop n xs) (drop n ys)

-- the byte order, type 6 and the count of rings
abbrev pub district_head : ℕ → ℕ → List ℕ
district_head order count = order ∷ (in_order order 4 6 ++ in_order order 4 count)

-- the head in one byte order, then the polygons, each in one of the orders
abbrev pub district_file : ℕ → List ℕ → List ℕ → List ℕ → List ℕ → List ℕ
district_file order orders lengths xs ys = district_head order (length lengths) ++ polygons orders lengths xs ys

-- ---- the writer

-- the sum of the rings' lengths
unfoldable pub total : List ℕ → ℕ
total [] = 0
total (n ∷ lengths) = n + total lengths

-- each ring has 3 to 1,024 positions
abbrev pub rings : List ℕ → Bool
rings = list_all (λ n. leb 3 n && leb n 1024)

-- its bytes: 9 of the head, 29 for each ring and 16 for each position
abbrev pub district_size : List ℕ → ℕ
district_size lengths = 9 + (29 * length lengths + 16 * total lengths)

-- what it asks, for an output of so many bytes
abbrev pub write_district_asks : List ℕ → List ℕ → List ℕ → ℕ → List Question
write_district_asks xs ys lengths room =
    must (leb 1 (length lengths) && leb (length lengths) 32) 35 0
    ∷ must (eqb (total lengths) (length xs)) 36 0
    ∷ must (eqb (length xs) (length ys) && rings lengths) 30 0
    ∷ must (low xs && low ys) 31 0
    ∷ must (leb (district_size lengths) room) 32 0
    ∷ []

-- what it answers: the bytes written
abbrev pub district_writing : List ℕ → List ℕ → List ℕ → ℕ → Answer ℕ
district_writing xs ys lengths room = asked (write_district_asks xs ys lengths room) (district_size lengths)

-- what it writes: all little-endian
abbrev pub district : List ℕ → List ℕ → List ℕ → List ℕ
district lengths xs ys = district_file 1 (replicate (length lengths) 1) lengths xs ys

-- ---- the reader, left to right

module _ (s : List ℕ) where
  -- what is asked of k polygons one after another from a place on, for lists that both have so much room left: each begins where the one before it ends
  unfoldable pub parts_asks : ℕ → ℕ → ℕ → List Question
  parts_asks zero at room = []
  parts_asks (suc k) at room = polygon_asks s at room ++ parts_asks k (end s at) (room - length_at s at)

  -- where the last of them ends
  unfoldable pub parts_end : ℕ → ℕ → ℕ
  parts_end zero at = at
  parts_end (suc k) at = parts_end k (end s at)

  -- the lengths of their rings, and the rings' numbers
  unfoldable pub part_lengths : ℕ → ℕ → List ℕ
  part_lengths zero at = []
  part_lengths (suc k) at = length_at s at ∷ part_lengths k (end s at)

  unfoldable pub parts_xs : ℕ → ℕ → List ℕ
  parts_xs zero at = []
  parts_xs (suc k) at = xs_at s at ++ parts_xs k (end s at)

  unfoldable pub parts_ys : ℕ → ℕ → List ℕ
  parts_ys zero at = []
  parts_ys (suc k) at = ys_at s at ++ parts_ys k (end s at)

  -- the count of rings, and where the last polygon ends
  abbrev pub ring_count : ℕ
  ring_count = number_at 4 (order_at s 0) s 5

  abbrev pub district_end : ℕ
  district_end = parts_end ring_count 9

  -- the head, for a list of so many lengths
  abbrev pub ring_count_asks : ℕ → List Question
  ring_count_asks places =
      whole 4 s 5
      ∷ must (leb 1 ring_count && leb ring_count 32) 35 5
      ∷ must (leb ring_count places) 29 5
      ∷ []

  abbrev pub district_head_asks : ℕ → List Question
  district_head_asks places = type_asks s 0 6 22 ++ ring_count_asks places

  -- ... and the polygons, for lists that both have so much room
  abbrev pub district_asks : ℕ → ℕ → List Question
  district_asks places room = district_head_asks places ++ parts_asks ring_count 9 room

  -- what the reader answers: the number of rings
  abbrev pub district_answer : ℕ → ℕ → Answer ℕ
  district_answer places room = asked (district_asks places room ++ (must (leb (length s) district_end) 28 district_end ∷ [])) ring_count

  abbrev pub district_lengths : List ℕ
  district_lengths = part_lengths ring_count 9

  abbrev pub district_xs : List ℕ
  district_xs = parts_xs ring_count 9

  abbrev pub district_ys : List ℕ
  district_ys = parts_ys ring_count 9
