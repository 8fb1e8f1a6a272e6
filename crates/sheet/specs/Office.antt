-- An office: its points, and its triangles as a flat list of three point numbers each. A directed side goes by the place of its first
-- corner in that list: it runs from there to the next corner of the same triangle. Assumes nothing.
use Rattle.std.specs.Prelude.{ℕ, ◌+◌, ◌*◌, ◌/◌, ◌%◌, Bool, not, ◌&&◌, ◌||◌, List, [], leb, ltb, eqb, length, get_or, ℤ, pos}
use Rattle.std.specs.Int.Signed.{lt_z}
use Rattle.laws.specs.First.{first, any, count, walk, stepped, once}
use Rattle.sheet.specs.Plane.{Point, turn, circle}

pub record Office : Type 0 where
  pub xs : List ℕ
  pub ys : List ℕ
  pub corners : List ℕ

-- the office that three lists are; what goes by its triangles alone is said of the bare one
abbrev pub office : List ℕ → List ℕ → List ℕ → Office
office xs ys corners = record { xs = xs; ys = ys; corners = corners }

abbrev pub bare : List ℕ → Office
bare corners = office [] [] corners

abbrev pub points : Office → ℕ
points o = length o.xs

abbrev pub sides : Office → ℕ
sides o = length o.corners

abbrev pub triangles : Office → ℕ
triangles o = length o.corners / 3

-- the place of the corner after s in its triangle, and of the one after that
abbrev pub next : ℕ → ℕ
next s = s / 3 * 3 + (s + 1) % 3

abbrev pub last : ℕ → ℕ
last s = s / 3 * 3 + (s + 2) % 3

module _ (o : Office) where
  abbrev pub point : ℕ → Point
  point p = record { x = get_or o.xs p 0; y = get_or o.ys p 0 }

  -- the corner where side s starts, the one where it ends, and the third of its triangle
  abbrev pub tail : ℕ → ℕ
  tail s = get_or o.corners s 0

  abbrev pub head : ℕ → ℕ
  head s = get_or o.corners (next s) 0

  abbrev pub apex : ℕ → ℕ
  apex s = get_or o.corners (last s) 0

  -- twice the area of triangle t
  abbrev pub area : ℕ → ℤ
  area t = turn (point (tail (t * 3))) (point (tail (t * 3 + 1))) (point (tail (t * 3 + 2)))

  -- a coordinate of point p is above 16,383
  abbrev pub large : ℕ → Bool
  large p = ltb 16383 (get_or o.xs p 0) || ltb 16383 (get_or o.ys p 0)

  abbrev pub same_point : ℕ → ℕ → Bool
  same_point p q = eqb (get_or o.xs q 0) (get_or o.xs p 0) && eqb (get_or o.ys q 0) (get_or o.ys p 0)

  -- point p equals an earlier one
  abbrev pub again : ℕ → Bool
  again p = any (same_point p) p

  -- the corner at place s is no point number
  abbrev pub no_point : ℕ → Bool
  no_point s = leb (points o) (tail s)

  -- triangle t has no area, or runs clockwise
  abbrev pub flat : ℕ → Bool
  flat t = not (lt_z (pos 0) (area t))

  -- side r runs as side s does; side r runs back along it
  abbrev pub same_side : ℕ → ℕ → Bool
  same_side s r = eqb (tail r) (tail s) && eqb (head r) (head s)

  abbrev pub reverse : ℕ → ℕ → Bool
  reverse s r = eqb (tail r) (head s) && eqb (head r) (tail s)

  -- a directed side of triangle t also stands in an earlier triangle
  abbrev pub double : ℕ → Bool
  double t = any (same_side (t * 3)) (t * 3) || any (same_side (t * 3 + 1)) (t * 3) || any (same_side (t * 3 + 2)) (t * 3)

  -- point p is no corner
  abbrev pub unused : ℕ → Bool
  unused p = not (any (λ s. eqb (tail s) p) (sides o))

  -- point p lies strictly inside the circle of triangle t
  abbrev pub inside : ℕ → ℕ → Bool
  inside t p = lt_z (pos 0) (circle (point (tail (t * 3))) (point (tail (t * 3 + 1))) (point (tail (t * 3 + 2))) (point p))

  abbrev pub invaded : ℕ → Bool
  invaded t = any (inside t) (points o)

  -- a rim side: its reverse is absent
  abbrev pub rim : ℕ → Bool
  rim s = not (any (reverse s) (sides o))

  -- where the rim goes on from p: the end of the first rim side that starts there
  abbrev pub after : ℕ → ℕ
  after p = head (first (λ s. eqb (tail s) p && rim s) (sides o))

  abbrev pub rims : ℕ
  rims = count rim (sides o)

  abbrev pub start : ℕ
  start = tail (first rim (sides o))

  -- there is a rim, and going along it for as many steps as it has sides visits as many points and comes back to the start
  abbrev pub one_ring : Bool
  one_ring = ltb 0 rims && (once (walk after start rims) && eqb (stepped after start rims) start)

  -- side s is on the rim, and point p lies strictly right of it
  abbrev pub right : ℕ → ℕ → Bool
  right p s = rim s && lt_z (turn (point (tail s)) (point (head s)) (point p)) (pos 0)

  -- point p lies strictly right of a rim side
  abbrev pub outer : ℕ → Bool
  outer p = any (right p) (sides o)

-- the place of the first side that runs back along side s, or the number of sides
abbrev pub mate_of : List ℕ → ℕ → ℕ
mate_of corners s = first (reverse (bare corners) s) (length corners)
