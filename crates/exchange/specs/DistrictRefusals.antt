-- Document 02, 3/13: when each refusal of a district's file is given and at which place, in plain logic. Assumes nothing.
use Rattle.std.specs.Prelude.{ℕ, ◌-◌, ◌<◌, ◌≤◌, ◌≡◌, ◌⊎◌, List, length, get_or}
use Rattle.shape.specs.Refusals.{Typed, TypeFault, Closed, PolygonFault, Low}
use Rattle.exchange.specs.Districts.{total, district_size, parts_end, part_lengths, ring_count, district_end}

-- ---- the writer

-- one ring or more, at most 32
abbrev pub Few : List ℕ → Type 0
Few lengths = (1 ≤ length lengths) × (length lengths ≤ 32)

-- ... that the lists hold
abbrev pub Summed : List ℕ → List ℕ → Type 0
Summed xs lengths = Few lengths × (total lengths ≡ length xs)

-- ... each of 3 to 1,024 positions
abbrev pub Rings : List ℕ → Type 0
Rings lengths = (i : ℕ) → i < length lengths → (3 ≤ get_or lengths i 0) × (get_or lengths i 0 ≤ 1024)

abbrev pub Divided : List ℕ → List ℕ → List ℕ → Type 0
Divided xs ys lengths = Summed xs lengths × (length xs ≡ length ys) × Rings lengths

pub data DistrictWriteFault (xs ys lengths : List ℕ) (room : ℕ) : ℕ → ℕ → Type 0 where
  other_count : (Few lengths → ⊥) → DistrictWriteFault xs ys lengths room 35 0
  other_sum : Few lengths → (total lengths ≡ length xs → ⊥) → DistrictWriteFault xs ys lengths room 36 0
  no_rings : Summed xs lengths → ((length xs ≡ length ys) × Rings lengths → ⊥) → DistrictWriteFault xs ys lengths room 30 0
  too_high : Divided xs ys lengths → (Low xs × Low ys → ⊥) → DistrictWriteFault xs ys lengths room 31 0
  too_short : Divided xs ys lengths → Low xs × Low ys → room < district_size lengths → DistrictWriteFault xs ys lengths room 32 0

-- ---- the reader

module _ (s : List ℕ) where
  -- where the i-th polygon begins, and the room that is left for its ring
  abbrev pub start : ℕ → ℕ
  start i = parts_end s i 9

  abbrev pub left : ℕ → ℕ → ℕ
  left room i = room - total (part_lengths s i 9)

  abbrev pub CountedHead : Type 0
  CountedHead = Typed s 0 6 × (9 ≤ length s) × (1 ≤ ring_count s) × (ring_count s ≤ 32)

  abbrev pub GoodDistrictHead : ℕ → Type 0
  GoodDistrictHead places = CountedHead × (ring_count s ≤ places)

  -- ... and the first k polygons are taken
  abbrev pub Parted : ℕ → ℕ → ℕ → Type 0
  Parted places room k = GoodDistrictHead places × ((j : ℕ) → j < k → Closed s (start j) (left room j))

pub data DistrictFault (s : List ℕ) (places room : ℕ) : ℕ → ℕ → Type 0 where
  other_shape : {number place : ℕ} → TypeFault s 0 6 22 number place → DistrictFault s places room number place
  no_count : Typed s 0 6 → length s < 9 → DistrictFault s places room 20 5
  other_count : Typed s 0 6 → 9 ≤ length s → (ring_count s < 1) ⊎ (32 < ring_count s) → DistrictFault s places room 35 5
  no_places : CountedHead s → places < ring_count s → DistrictFault s places room 29 5
  bad_part : {number place : ℕ} (i : ℕ) → i < ring_count s → Parted s places room i → PolygonFault s (start s i) (left s room i) number place
      → DistrictFault s places room number place
  left_over : Parted s places room (ring_count s) → district_end s < length s → DistrictFault s places room 28 (district_end s)

-- it is taken, and has n rings
abbrev pub DistrictTaken : List ℕ → ℕ → ℕ → ℕ → Type 0
DistrictTaken s places room n = Parted s places room (ring_count s) × (length s ≡ district_end s) × (n ≡ ring_count s)
