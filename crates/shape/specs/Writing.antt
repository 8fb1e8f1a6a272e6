-- Document 01, 'Polygon bytes', the writer: a ring as a polygon, in a byte order. Assumes nothing.
use Rattle.std.specs.Prelude.{ℕ, ◌+◌, ◌*◌, Bool, ◌&&◌, List, [], ◌∷◌, ◌++◌, length, ◌==◌, nat_le, slice_index}
use Rattle.std.specs.List.{list_all}
use Rattle.shape.specs.Answers.{Question, must, Answer, asked}
use Rattle.shape.specs.Coordinates.{encode}
use Rattle.shape.specs.Bytes.{in_order}

-- a position: x, then y, each the eight bytes of its float
abbrev pub position : ℕ → ℕ → ℕ → List ℕ
position order x y = in_order order 8 (encode x) ++ in_order order 8 (encode y)

unfoldable pub positions : ℕ → List ℕ → List ℕ → List ℕ
positions order [] ys = []
positions order (x ∷ xs) [] = []
positions order (x ∷ xs) (y ∷ ys) = position order x y ++ positions order xs ys

-- the first repeated last
abbrev pub around : List ℕ → List ℕ
around l = l ++ (slice_index l 0 ∷ [])

-- the byte order, type 3, one ring, and its count of positions, one more than the ring's length n
abbrev pub head : ℕ → ℕ → List ℕ
head order n = order ∷ (in_order order 4 3 ++ (in_order order 4 1 ++ in_order order 4 (n + 1)))

-- the ring as a polygon, in a byte order; the writer's is 1
abbrev pub polygon : ℕ → List ℕ → List ℕ → List ℕ
polygon order xs ys = head order (length xs) ++ positions order (around xs) (around ys)

-- no coordinate is above 16,383
abbrev pub low : List ℕ → Bool
low = list_all (λ x. nat_le x 16383)

-- the bytes of a polygon whose ring has n positions
abbrev pub size : ℕ → ℕ
size n = 29 + 16 * n

-- what the writer asks, for an output of so many bytes
abbrev pub write_asks : List ℕ → List ℕ → ℕ → List Question
write_asks xs ys room =
    must (length xs == length ys && (nat_le 3 (length xs) && nat_le (length xs) 1024)) 30 0
    ∷ must (low xs && low ys) 31 0
    ∷ must (nat_le (size (length xs)) room) 32 0
    ∷ []

-- what it answers: the bytes written
abbrev pub writing : List ℕ → List ℕ → ℕ → Answer ℕ
writing xs ys room = asked (write_asks xs ys room) (size (length xs))
