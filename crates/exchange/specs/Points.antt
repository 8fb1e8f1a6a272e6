-- Document 02, 1/13, surveyors' point files: a MultiPoint is a byte order, type 4, a count of 3 to 1,024, and that many complete Points, each
-- with its own byte order and type 1. Assumes nothing.
use Rattle.std.specs.Prelude.{ℕ, ◌+◌, ◌*◌, ◌-◌, ◌%◌, ◌||◌, List, [], ◌∷◌, ◌++◌, eqb, leb, length}
use Rattle.shape.specs.declared.Coordinate.{Coordinate}
use Rattle.shape.specs.Answers.{Question, must, Answer, asked}
use Rattle.shape.specs.Bytes.{number_at, in_order}
use Rattle.shape.specs.Coordinates.{coordinate_at, grid_at, whole}
use Rattle.shape.specs.Writing.{position}
use Rattle.shape.specs.Reading.{run, row, coordinates, size_asks, order_at, type_asks}

-- ---- the file of some points

-- a Point in a byte order
abbrev pub point : ℕ → ℕ → ℕ → List ℕ
point order x y = order ∷ (in_order order 4 1 ++ position order x y)

-- Points one after another, each in its own byte order
unfoldable pub points : List ℕ → List ℕ → List ℕ → List ℕ
points [] xs ys = []
points (order ∷ orders) [] ys = []
points (order ∷ orders) (x ∷ xs) [] = []
points (order ∷ orders) (x ∷ xs) (y ∷ ys) = point order x y ++ points orders xs ys

-- the head in one byte order, then the Points, each in one of the orders
abbrev pub point_file : ℕ → List ℕ → List ℕ → List ℕ → List ℕ
point_file order orders xs ys = order ∷ (in_order order 4 4 ++ (in_order order 4 (length xs) ++ points orders xs ys))

-- ---- the reader, left to right

-- how far a place lies within its Point: x stands 5 bytes after the Point's byte order, y 13
abbrev pub within : ℕ → ℕ
within place = (place - 9) % 21

module _ (s : List ℕ) where
  -- the count of Points, and where the last of them ends
  abbrev pub point_count : ℕ
  point_count = number_at 4 (order_at s 0) s 5

  abbrev pub points_end : ℕ
  points_end = 9 + 21 * point_count

  -- the Point that begins at a place, in its own byte order
  abbrev pub point_asks : ℕ → List Question
  point_asks at = type_asks s at 1 33 ++ coordinates 2 (order_at s at) s (at + 5)

  abbrev pub point_x : ℕ → ℕ
  point_x at = grid_at (order_at s at) s (at + 5)

  abbrev pub point_y : ℕ → ℕ
  point_y at = grid_at (order_at s at) s (at + 13)

  -- the head, for lists that both have so much room, and the Points
  abbrev pub points_head_asks : ℕ → List Question
  points_head_asks room = type_asks s 0 4 22 ++ size_asks 0 (order_at s 0) s 5 room

  abbrev pub points_asks : ℕ → List Question
  points_asks room = points_head_asks room ++ run 21 point_asks point_count 9

  -- what the reader answers: the count
  abbrev pub points_answer : ℕ → Answer ℕ
  points_answer room = asked (points_asks room ++ (must (leb (length s) points_end) 28 points_end ∷ [])) point_count

  -- the points' numbers
  abbrev pub points_xs : List ℕ
  points_xs = row 21 point_x point_count 9

  abbrev pub points_ys : List ℕ
  points_ys = row 21 point_y point_count 9

  -- ---- the coordinate that stands at a place of the file, as it was read

  -- its Point's byte order
  abbrev pub order_of : ℕ → ℕ
  order_of place = order_at s (place - within place)

  abbrev pub sent_asks : ℕ → List Question
  sent_asks place =
      must (eqb (within place) 5 || eqb (within place) 13) 20 place
      ∷ whole 8 s place
      ∷ must (leb (order_of place) 1) 20 place
      ∷ []

  abbrev pub sent_answer : ℕ → Answer Coordinate
  sent_answer place = asked (sent_asks place) (coordinate_at (order_of place) s place)
