-- The corners of an acceptable office are indices of its points. Assumes nothing.
use mathlib.Core.Path.{◌≡◌}
use mathlib.Core.List.{List}
use Prim.Native.Nat.{ℕ, ◌+◌, ◌*◌, ◌<◌}
use native.Mathlib.Omega.{arith}
use lib.ListN.{length, get_or}
use Rattle.sheet.specs.Acceptable.{Acceptable}
use Rattle.sheet.specs.Plane.{Small, spot, turn}
use Rattle.sheet.specs.Office.{office, area}

module _ {xs ys corners : List ℕ} (a : Acceptable (office xs ys corners)) where
  module _ (s : ℕ) (l : s < length corners) where
    pub x_there : (s < length corners) × (get_or corners s 0 < length xs)
    x_there = (l, a.numbered s l)

    pub y_there : (s < length corners) × (get_or corners s 0 < length ys)
    y_there = (l, omega (arith, a.numbered s l, a.paired))

    -- coordinates read at a corner are small
    pub small_there : {x y : ℕ} → x ≡ get_or xs (get_or corners s 0) 0 → y ≡ get_or ys (get_or corners s 0) 0 → Small (spot x y)
    small_there u v = omega (arith, a.small (get_or corners s 0) (a.numbered s l))

-- the area is that of the coordinates read
module _ (xs ys corners : List ℕ) where
  pub area_read : (t : ℕ) {ax ay bx by cx cy : ℕ}
      → ax ≡ get_or xs (get_or corners (t * 3) 0) 0 → ay ≡ get_or ys (get_or corners (t * 3) 0) 0
      → bx ≡ get_or xs (get_or corners (t * 3 + 1) 0) 0 → by ≡ get_or ys (get_or corners (t * 3 + 1) 0) 0
      → cx ≡ get_or xs (get_or corners (t * 3 + 2) 0) 0 → cy ≡ get_or ys (get_or corners (t * 3 + 2) 0) 0
      → turn (spot ax ay) (spot bx by) (spot cx cy) ≡ area (office xs ys corners) t
  area_read t ax ay bx by cx cy = cc
