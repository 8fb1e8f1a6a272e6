-- Document 02, 12/13: where a point of the grid lies, by the kept triangles and the rim sides; and by the ring's points alone, as map-makers
-- tell it: a ray to the right from a point inside crosses the ring an odd number of times. Assumes nothing.
use Rattle.std.specs.Prelude.{ℕ, ◌+◌, ◌*◌, ◌%◌, Bool, not, cond, ◌&&◌, ◌||◌, List, ltb, eqb, length, get_or, ℤ, pos, ◌+ℤ◌, ◌-ℤ◌, ◌*ℤ◌}
use Rattle.std.specs.Int.Signed.{lt_z}
use Rattle.laws.specs.First.{any, count}
use Rattle.sheet.specs.Plane.{Point, dx, dy, turn}
use Rattle.sheet.specs.Office.{Office, sides, triangles, point, tail, head}
use Rattle.rim.specs.Peel.{rim}

-- z does not lie right of the way from a to b
abbrev pub not_right : Point → Point → Point → Bool
not_right a b z = not (lt_z (turn a b z) (pos 0))

-- z lies on the way from a to b: on its line, and between its ends or at one
abbrev pub on_way : Point → Point → Point → Bool
on_way a b z = not_right a b z && not (lt_z (pos 0) (turn a b z)) && not (lt_z (dx a z *ℤ dx z b +ℤ dy a z *ℤ dy z b) (pos 0))

-- 0 outside, 1 on the outline, 2 inside
abbrev pub told : Bool → Bool → ℕ
told on area = cond on 1 (cond area 2 0)

module _ (o : Office) where
  -- z lies in triangle t, edges and corners counted
  abbrev pub within : ℕ → Point → Bool
  within t z =
      not_right (point o (tail o (t * 3))) (point o (tail o (t * 3 + 1))) z
      && not_right (point o (tail o (t * 3 + 1))) (point o (tail o (t * 3 + 2))) z
      && not_right (point o (tail o (t * 3 + 2))) (point o (tail o (t * 3))) z

  -- z lies on side s, its ends counted
  abbrev pub along : ℕ → Point → Bool
  along s z = on_way (point o (tail o s)) (point o (head o s)) z

  -- in a kept triangle
  unfoldable pub in_area : List ℕ → Point → Bool
  in_area k z = any (λ t. eqb (get_or k t 0) 1 && within t z) (triangles o)

  -- on a rim side
  unfoldable pub on_outline : List ℕ → Point → Bool
  on_outline k z = any (λ s. rim o k s && along s z) (sides o)

  unfoldable pub place : List ℕ → Point → ℕ
  place k z = told (on_outline k z) (in_area k z)

-- ---- by the ring alone
-- q lies strictly above the level of z
abbrev pub above : Point → Point → Bool
above z q = ltb z.y q.y

-- the way from a to b goes up across the ray from z to the right; it goes down across it
abbrev pub rises : Point → Point → Point → Bool
rises z a b = (not (above z a) && above z b) && lt_z (pos 0) (turn a b z)

abbrev pub falls : Point → Point → Point → Bool
falls z a b = (above z a && not (above z b)) && lt_z (turn a b z) (pos 0)

abbrev pub odd : ℕ → Bool
odd n = eqb (n % 2) 1

module _ (o : Office) (row : List ℕ) where
  -- the point at step i, going round
  abbrev pub corner : ℕ → Point
  corner i = point o (get_or row (i % length row) 0)

  -- at how many steps the test holds of the two ends
  abbrev pub steps : (Point → Point → Bool) → ℕ
  steps test = count (λ i. test (corner i) (corner (i + 1))) (length row)

  -- how often the ring crosses the ray from z to the right
  unfoldable pub crossings : Point → ℕ
  crossings z = steps (λ a b. rises z a b || falls z a b)

  -- how often it goes round z: up across the ray, less down across it
  unfoldable pub winding : Point → ℤ
  winding z = pos (steps (rises z)) -ℤ pos (steps (falls z))

  unfoldable pub on_ring : Point → Bool
  on_ring z = any (λ i. on_way (corner i) (corner (i + 1)) z) (length row)

  unfoldable pub ring_place : Point → ℕ
  ring_place z = told (on_ring z) (odd (crossings z))
