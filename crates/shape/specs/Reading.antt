-- Document 01, 'Polygon bytes', the reader: a polygon that begins at a place of a block, left to right. Assumes nothing.
use Rattle.std.specs.Prelude.{ℕ, zero, suc, ◌+◌, ◌-◌, ◌*◌, ◌&&◌, List, [], ◌∷◌, ◌++◌, length, ◌==◌, nat_le, slice_index}
use Rattle.shape.specs.Answers.{Question, must, Answer, asked}
use Rattle.shape.specs.Bytes.{number_at}
use Rattle.shape.specs.Coordinates.{coordinate_at, grid_at, grid_asks, whole}

-- ---- one after another

-- what is asked of k fields or shapes, one in each `step` bytes from a place on
unfoldable pub run : ℕ → (ℕ → List Question) → ℕ → ℕ → List Question
run step asks zero at = []
run step asks (suc k) at = asks at ++ run step asks k (at + step)

-- the k numbers that stand so
unfoldable pub row : ℕ → (ℕ → ℕ) → ℕ → ℕ → List ℕ
row step number zero at = []
row step number (suc k) at = number at ∷ row step number k (at + step)

abbrev pub coordinate_asks : ℕ → List ℕ → ℕ → List Question
coordinate_asks order s at = whole 8 s at ∷ grid_asks (coordinate_at order s at) at

-- x, y, x, y, ..: k coordinates, each in eight bytes from a place on
abbrev pub coordinates : ℕ → ℕ → List ℕ → ℕ → List Question
coordinates k order s at = run 8 (coordinate_asks order s) k at

-- the grid numbers of k coordinates, one in each sixteen bytes from a place on
abbrev pub grids : ℕ → ℕ → List ℕ → ℕ → List ℕ
grids k order s at = row 16 (grid_at order s) k at

-- ---- what a shape begins with

-- a count of 3 to 1,024, and one more where the first position is repeated last; for lists that both have so much room
abbrev pub size_asks : ℕ → ℕ → List ℕ → ℕ → ℕ → List Question
size_asks repeated order s at room =
    whole 4 s at
    ∷ must (nat_le (3 + repeated) (number_at 4 order s at) && nat_le (number_at 4 order s at) (1024 + repeated)) 24 at
    ∷ must (nat_le (number_at 4 order s at - repeated) room) 29 at
    ∷ []

-- the count of rings, and of positions
abbrev pub count : ℕ → List ℕ → ℕ → ℕ
count order s at = number_at 4 order s (at + 9)

abbrev pub count_asks : ℕ → List ℕ → ℕ → ℕ → List Question
count_asks order s at room =
    whole 4 s (at + 5)
    ∷ must (number_at 4 order s (at + 5) == 1) 23 (at + 5)
    ∷ size_asks 1 order s (at + 9) room

module _ (s : List ℕ) (at : ℕ) where
  abbrev pub order_at : ℕ
  order_at = slice_index s at

  -- the byte order, and the type, which is refused with a number where it is another than this
  abbrev pub type_asks : ℕ → ℕ → List Question
  type_asks type number =
      whole 1 s at
      ∷ must (nat_le order_at 1) 21 at
      ∷ whole 4 s (at + 1)
      ∷ must (number_at 4 order_at s (at + 1) == type) number (at + 1)
      ∷ []

  -- ---- a polygon of one ring that begins at a place

  -- the ring's length: the repeated position is left out
  abbrev pub length_at : ℕ
  length_at = count order_at s at - 1

  -- where the first position starts, where the last does, and where the polygon ends
  abbrev pub first : ℕ
  first = at + 13

  abbrev pub last : ℕ
  last = first + 16 * length_at

  abbrev pub end : ℕ
  end = first + 16 * count order_at s at

  abbrev pub head_asks : ℕ → List Question
  head_asks room = type_asks 3 22 ++ count_asks order_at s at room

  -- the last position is the first
  abbrev pub closes : Question
  closes = must (grid_at order_at s first == grid_at order_at s last && grid_at order_at s (first + 8) == grid_at order_at s (last + 8)) 27 last

  abbrev pub polygon_asks : ℕ → List Question
  polygon_asks room = head_asks room ++ (coordinates (2 * count order_at s at) order_at s first ++ (closes ∷ []))

  -- the ring's numbers
  abbrev pub xs_at : List ℕ
  xs_at = grids length_at order_at s first

  abbrev pub ys_at : List ℕ
  ys_at = grids length_at order_at s (first + 8)

-- ---- a block that is one polygon

abbrev pub read_asks : List ℕ → ℕ → List Question
read_asks s room = polygon_asks s 0 room ++ (must (nat_le (length s) (end s 0)) 28 (end s 0) ∷ [])

-- what the reader answers: the ring's length
abbrev pub read_answer : List ℕ → ℕ → Answer ℕ
read_answer s room = asked (read_asks s room) (length_at s 0)
