-- Document 02, 1/13: when each refusal of a surveyors' point file is given and at which place, in plain logic. Assumes nothing.
use Rattle.std.specs.Prelude.{ℕ, ◌+◌, ◌*◌, ◌<◌, ◌≤◌, ◌≡◌, ◌⊎◌, List, length}
use Rattle.shape.specs.declared.Coordinate.{Coordinate}
use Rattle.shape.specs.Coordinates.{coordinate_at}
use Rattle.shape.specs.Reading.{order_at}
use Rattle.shape.specs.Refusals.{Good, Bad, Typed, TypeFault, Roomy, SizeFault}
use Rattle.exchange.specs.Points.{point_count, points_end}

module _ (s : List ℕ) where
  -- a Point that begins at a place
  abbrev pub GoodPoint : ℕ → Type 0
  GoodPoint at = Typed s at 1 × Good (order_at s at) s (at + 5) × Good (order_at s at) s (at + 13)

  abbrev pub GoodPointsHead : ℕ → Type 0
  GoodPointsHead room = Typed s 0 4 × Roomy 0 (order_at s 0) s 5 room

  -- ... and the first k Points are good
  abbrev pub Pointed : ℕ → ℕ → Type 0
  Pointed room k = GoodPointsHead room × ((j : ℕ) → j < k → GoodPoint (9 + 21 * j))

pub data PointFault (s : List ℕ) (at : ℕ) : ℕ → ℕ → Type 0 where
  other_shape : {number place : ℕ} → TypeFault s at 1 33 number place → PointFault s at number place
  bad_x : {number : ℕ} → Typed s at 1 → Bad (order_at s at) s (at + 5) number → PointFault s at number (at + 5)
  bad_y : {number : ℕ} → Typed s at 1 → Good (order_at s at) s (at + 5) → Bad (order_at s at) s (at + 13) number → PointFault s at number (at + 13)

pub data PointsFault (s : List ℕ) (room : ℕ) : ℕ → ℕ → Type 0 where
  other_shape : {number place : ℕ} → TypeFault s 0 4 22 number place → PointsFault s room number place
  other_size : {number place : ℕ} → Typed s 0 4 → SizeFault 0 (order_at s 0) s 5 room number place → PointsFault s room number place
  bad_point : {number place : ℕ} (i : ℕ) → i < point_count s → Pointed s room i → PointFault s (9 + 21 * i) number place → PointsFault s room number place
  left_over : Pointed s room (point_count s) → points_end s < length s → PointsFault s room 28 (points_end s)

-- it is taken, and has n points
abbrev pub PointsTaken : List ℕ → ℕ → ℕ → Type 0
PointsTaken s room n = Pointed s room (point_count s) × (length s ≡ points_end s) × (n ≡ point_count s)

-- c is the coordinate at a place: x or y of the i-th Point, in that Point's byte order
pub record Sent (s : List ℕ) (place : ℕ) (c : Coordinate) : Type 0 where
  pub i : ℕ
  pub offset : ℕ
  pub x_or_y : (offset ≡ 5) ⊎ (offset ≡ 13)
  pub there : place ≡ 9 + 21 * i + offset
  pub ordered : order_at s (9 + 21 * i) ≤ 1
  pub whole : place + 8 ≤ length s
  pub is : c ≡ coordinate_at (order_at s (9 + 21 * i)) s place
