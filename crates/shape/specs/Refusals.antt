-- Document 01, 'Polygon bytes': when each refusal is given and at which place, in plain logic. Assumes nothing.
use Rattle.std.specs.Prelude.{◌≡◌, ℕ, ◌+◌, ◌-◌, ◌*◌, ◌<◌, ◌≤◌, ◌⊎◌, List, length, ◌≢◌, slice_index, Float}
use Rattle.shape.specs.declared.Coordinate.TheVariants.{Grid, OffGrid, NotFinite}
use Rattle.shape.specs.Bytes.{number_at}
use Rattle.shape.specs.Coordinates.{coordinate_at, grid_at}
use Rattle.shape.specs.Writing.{size}
use Rattle.shape.specs.Reading.{count, order_at, length_at, last, end}

-- ---- a coordinate

-- a whole coordinate on the grid stands at a place
abbrev pub Good : ℕ → List ℕ → ℕ → Type 0
Good order s at = (at + 8 ≤ length s) × ((g : ℕ) × (coordinate_at order s at ≡ Grid g))

-- what is wrong with one
pub data Bad (order : ℕ) (s : List ℕ) (at : ℕ) : ℕ → Type 0 where
  cut : length s < at + 8 → Bad order s at 20
  not_finite : at + 8 ≤ length s → coordinate_at order s at ≡ NotFinite → Bad order s at 25
  off_grid : at + 8 ≤ length s → (x : Float) → coordinate_at order s at ≡ OffGrid x → Bad order s at 26

-- ---- what a shape begins with: each stage holds where all before it do

module _ (s : List ℕ) (at : ℕ) where
  abbrev pub Ordered : Type 0
  Ordered = (at + 1 ≤ length s) × (order_at s at ≤ 1)

  abbrev pub Typed : ℕ → Type 0
  Typed type = Ordered × (at + 5 ≤ length s) × (number_at 4 (order_at s at) s (at + 1) ≡ type)

-- the number and the place of the first fault of a byte order and a type
pub data TypeFault (s : List ℕ) (at type number : ℕ) : ℕ → ℕ → Type 0 where
  no_order : length s < at + 1 → TypeFault s at type number 20 at
  other_order : at + 1 ≤ length s → 1 < order_at s at → TypeFault s at type number 21 at
  no_type : Ordered s at → length s < at + 5 → TypeFault s at type number 20 (at + 1)
  other_type : Ordered s at → at + 5 ≤ length s → (number_at 4 (order_at s at) s (at + 1) ≢ type) → TypeFault s at type number number (at + 1)

-- a count in bounds
abbrev pub Counted : ℕ → ℕ → List ℕ → ℕ → Type 0
Counted repeated order s at = (at + 4 ≤ length s) × (3 + repeated ≤ number_at 4 order s at) × (number_at 4 order s at ≤ 1024 + repeated)

-- ... that the lists have room for
abbrev pub Roomy : ℕ → ℕ → List ℕ → ℕ → ℕ → Type 0
Roomy repeated order s at room = Counted repeated order s at × (number_at 4 order s at - repeated ≤ room)

pub data SizeFault (repeated order : ℕ) (s : List ℕ) (at room : ℕ) : ℕ → ℕ → Type 0 where
  no_count : length s < at + 4 → SizeFault repeated order s at room 20 at
  other_count : at + 4 ≤ length s → (number_at 4 order s at < 3 + repeated) ⊎ (1024 + repeated < number_at 4 order s at) → SizeFault repeated order s at room 24 at
  no_room : Counted repeated order s at → room < number_at 4 order s at - repeated → SizeFault repeated order s at room 29 at

-- ---- a polygon that begins at a place

module _ (s : List ℕ) (at : ℕ) where
  abbrev pub OneRing : Type 0
  OneRing = Typed s at 3 × (at + 9 ≤ length s) × (number_at 4 (order_at s at) s (at + 5) ≡ 1)

  -- a head that the lists have room for
  abbrev pub GoodHead : ℕ → Type 0
  GoodHead room = OneRing × Roomy 1 (order_at s at) s (at + 9) room

  -- the first k coordinates are good
  abbrev pub Gridded : ℕ → ℕ → Type 0
  Gridded room k = GoodHead room × ((j : ℕ) → j < k → Good (order_at s at) s (at + 13 + 8 * j))

  abbrev pub SameX : Type 0
  SameX = grid_at (order_at s at) s (at + 13) ≡ grid_at (order_at s at) s (last s at)

  abbrev pub SameY : Type 0
  SameY = grid_at (order_at s at) s (at + 13 + 8) ≡ grid_at (order_at s at) s (last s at + 8)

  abbrev pub Closed : ℕ → Type 0
  Closed room = Gridded room (2 * count (order_at s at) s at) × SameX × SameY

-- the number and the place of the first fault
pub data PolygonFault (s : List ℕ) (at room : ℕ) : ℕ → ℕ → Type 0 where
  other_shape : {number place : ℕ} → TypeFault s at 3 22 number place → PolygonFault s at room number place
  no_rings : Typed s at 3 → length s < at + 9 → PolygonFault s at room 20 (at + 5)
  other_rings : Typed s at 3 → at + 9 ≤ length s → (number_at 4 (order_at s at) s (at + 5) ≢ 1) → PolygonFault s at room 23 (at + 5)
  other_size : {number place : ℕ} → OneRing s at → SizeFault 1 (order_at s at) s (at + 9) room number place → PolygonFault s at room number place
  bad_coordinate : (i : ℕ) → i < 2 * count (order_at s at) s at → Gridded s at room i → (number : ℕ) → Bad (order_at s at) s (at + 13 + 8 * i) number
      → PolygonFault s at room number (at + 13 + 8 * i)
  left_open : Gridded s at room (2 * count (order_at s at) s at) → (SameX s at → ⊥) ⊎ (SameY s at → ⊥) → PolygonFault s at room 27 (last s at)

-- ---- a block that is one polygon

pub data ReadFault (s : List ℕ) (room : ℕ) : ℕ → ℕ → Type 0 where
  within : (number place : ℕ) → PolygonFault s 0 room number place → ReadFault s room number place
  left_over : Closed s 0 room → end s 0 < length s → ReadFault s room 28 (end s 0)

-- it is taken, and its ring has length n
abbrev pub Taken : List ℕ → ℕ → ℕ → Type 0
Taken s room n = Closed s 0 room × (length s ≡ end s 0) × (n ≡ length_at s 0)

-- ---- the writer and the separate call

abbrev pub Ring : List ℕ → List ℕ → Type 0
Ring xs ys = (length xs ≡ length ys) × (3 ≤ length xs) × (length xs ≤ 1024)

abbrev pub Low : List ℕ → Type 0
Low xs = (i : ℕ) → i < length xs → slice_index xs i ≤ 16383

pub data WriteFault (xs ys : List ℕ) (room : ℕ) : ℕ → ℕ → Type 0 where
  no_ring : (Ring xs ys → ⊥) → WriteFault xs ys room 30 0
  too_high : Ring xs ys → (Low xs × Low ys → ⊥) → WriteFault xs ys room 31 0
  too_short : Ring xs ys → Low xs × Low ys → room < size (length xs) → WriteFault xs ys room 32 0

pub data JudgeFault (s : List ℕ) (order at : ℕ) : ℕ → ℕ → Type 0 where
  other_order : 1 < order → JudgeFault s order at 21 0
  cut : order ≤ 1 → length s < at + 8 → JudgeFault s order at 20 at
