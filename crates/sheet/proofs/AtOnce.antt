-- An office that the refusals 1 to 10 and 12 pass is acceptable where its rim turns left and goes round once, and no circle holds the
-- corner just beyond one of its sides: neither needs every point. Assumes nothing.
use mathlib.Core.Path.{◌≡◌}
use Prim.Native.Nat.{ℕ, ◌%◌, ◌<◌, ◌≤◌}
use lib.IntN.{pos}
use lib.Signed.{◌<ℤ◌}
use lib.ListN.{length}
use Rattle.sheet.specs.Plane.{turn}
use Rattle.sheet.specs.Office.{Office, points, sides, point, tail, head}
use Rattle.sheet.specs.Acceptable.{Rim, Acceptable}
use Rattle.sheet.specs.Quick.{Ringed, Half, Convex}
use Rattle.sheet.proofs.Sign.{less_opp}
use Rattle.sheet.proofs.Tiling.{Tiling}
use Rattle.sheet.proofs.Tiled.{parted_of}
use Rattle.sheet.proofs.Outermost.{none_right}
use Rattle.sheet.proofs.Global.{Global, delaunay, from_half}

module _ {o : Office} (a : Ringed o) (c : Convex o) where
  -- no point lies strictly right of a rim side
  pub hull_of : (s p : ℕ) → s < sides o → Rim o s → p < points o → turn (point o (tail o s)) (point o (head o s)) (point o p) <ℤ pos 0 → ⊥
  hull_of s p l w b h = none_right o a c s l w p b (less_opp _ h)

  pub tiling_of : Tiling o
  tiling_of = record {
    whole = a.whole;
    distinct = a.distinct;
    numbered = a.numbered;
    left = a.left;
    single = a.single;
    used = a.used;
    parted = parted_of o a.single a.ring.1;
    hull = hull_of;
  }

  module _ (half : Half o) where
    pub empty_of : Global o
    empty_of = delaunay o tiling_of (from_half o tiling_of half)

    pub quick : length o.xs ≡ length o.ys → (3 ≤ points o) × (points o ≤ 1024) → (0 < sides o) × (sides o % 3 ≡ 0) × (sides o ≤ 6129) → Acceptable o
    quick paired points_bound corners_bound = record {
      paired = paired;
      points_bound = points_bound;
      corners_bound = corners_bound;
      small = a.small;
      distinct = a.distinct;
      numbered = a.numbered;
      left = a.left;
      single = a.single;
      used = a.used;
      empty = empty_of;
      ring = a.ring;
      hull = hull_of;
    }
