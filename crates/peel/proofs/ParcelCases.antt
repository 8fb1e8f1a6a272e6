-- Parcels of two offices of the dozen, told both ways: by the kept triangles, and by the ring alone. Assumes nothing.
use mathlib.Core.Path.{◌≡◌, refl}
use mathlib.Core.List.{List, [], ◌∷◌, map}
use Prim.Native.Nat.{ℕ}
use Rattle.laws.specs.First.{first, count, walk}
use Rattle.sheet.specs.Plane.{Point, spot, turn, squared}
use Rattle.sheet.specs.Office.{Office}
use Rattle.rim.specs.Peel.{rim, on_rim, removable, before, better, best_from, best, turned, peels, drawn, ring}
use Rattle.peel.specs.Parcel.{in_area, on_outline, place, crossings, on_ring, ring_place}
use Rattle.peel.proofs.Dozen.{printed, ten}

-- both ways, of marks k
abbrev both_ways : Office → List ℕ → List Point → List (List ℕ)
both_ways o k parcels = map (place o k) parcels ∷ map (ring_place o (ring o k)) parcels ∷ []

-- the printed office at 99, its left triangle peeled: in the dent, also level with its tip; at the tip, on a side, at a corner; inside, also
-- level with the tip and with a corner; right of it all
pub printed_parcels : both_ways printed (drawn printed 99) (spot 1 5 ∷ spot 2 2 ∷ spot 5 2 ∷ spot 10 5 ∷ spot 0 0 ∷ spot 5 1 ∷ spot 6 2 ∷ spot 7 9 ∷ spot 11 5 ∷ spot 0 2 ∷ [])
    ≡ (0 ∷ 0 ∷ 1 ∷ 1 ∷ 1 ∷ 2 ∷ 2 ∷ 2 ∷ 0 ∷ 0 ∷ [])
    ∷ (0 ∷ 0 ∷ 1 ∷ 1 ∷ 1 ∷ 2 ∷ 2 ∷ 2 ∷ 0 ∷ 0 ∷ []) ∷ []
unfolding first count walk turn squared rim on_rim removable before better best_from best turned peels drawn ring in_area on_outline place crossings on_ring ring_place
printed_parcels = refl

-- the hull of the office of ten: at an inner point, and between two of them, where triangles meet; at a corner and past it
pub ten_parcels : both_ways ten (drawn ten 58) (spot 9 10 ∷ spot 10 10 ∷ spot 1 10 ∷ spot 20 10 ∷ spot 21 10 ∷ spot 0 0 ∷ [])
    ≡ (2 ∷ 2 ∷ 2 ∷ 1 ∷ 0 ∷ 0 ∷ [])
    ∷ (2 ∷ 2 ∷ 2 ∷ 1 ∷ 0 ∷ 0 ∷ []) ∷ []
unfolding first count walk turn squared rim on_rim removable before better best_from best turned peels drawn ring in_area on_outline place crossings on_ring ring_place
ten_parcels = refl
