-- Document 01, 'Peeling', with the order of 02, 2/13. The state is the triangles' marks, 1 where kept; rim, outline and tally are read off it. Assumes nothing.
use Rattle.std.specs.Prelude.{ℕ, zero, suc, ◌/◌, Bool, not, cond, ◌&&◌, ◌||◌, List, ltb, eqb, get_or, set, replicate, nat_abs}
use Rattle.std.proofs.Math.Option.{Option, none, some}
use Rattle.laws.specs.First.{first, any, count, sum, walk}
use Rattle.sheet.specs.Plane.{Point, squared}
use Rattle.sheet.specs.Office.{Office, points, sides, triangles, point, tail, head, apex, area, reverse}

-- a mark
abbrev pub mark : Bool → ℕ
mark b = cond b 1 0

module _ (o : Office) (k : List ℕ) where
  -- side s is one of a kept triangle
  abbrev pub kept : ℕ → Bool
  kept s = eqb (get_or k (s / 3) 0) 1

  -- and no kept triangle has its reverse
  unfoldable pub rim : ℕ → Bool
  rim s = kept s && not (any (λ r. kept r && reverse o s r) (sides o))

  -- point p is an end of a rim side
  unfoldable pub on_rim : ℕ → Bool
  on_rim p = any (λ s. (eqb (tail o s) p || eqb (head o s) p) && rim s) (sides o)

  -- a rim side whose triangle's third corner is not on the rim
  unfoldable pub removable : ℕ → Bool
  removable s = rim s && not (on_rim (apex o s))

-- point a comes before point b: it has the smaller x; of equal x, the smaller y
abbrev pub sooner : Point → Point → Bool
sooner a b = ltb a.x b.x || (eqb a.x b.x && ltb a.y b.y)

-- a side with the first end a and the second b goes before one with c and d: it is longer; of equal lengths, by the first end, then by the second
abbrev pub precedes : ℕ → Point → Point → ℕ → Point → Point → Bool
precedes long a b other c d =
    ltb other long
    || (eqb other long
    && (ltb a.x c.x || (eqb a.x c.x && (ltb a.y c.y || (eqb a.y c.y && sooner b d)))))

module _ (o : Office) where
  -- the squared length of side s
  abbrev pub long : ℕ → ℕ
  long s = nat_abs (squared (point o (tail o s)) (point o (head o s)))

  -- of its ends, the one that comes before the other, and that other
  abbrev pub first_end : ℕ → ℕ
  first_end s = cond (sooner (point o (head o s)) (point o (tail o s))) (head o s) (tail o s)

  abbrev pub second_end : ℕ → ℕ
  second_end s = cond (sooner (point o (head o s)) (point o (tail o s))) (tail o s) (head o s)

  -- side s goes before side r
  unfoldable pub before : ℕ → ℕ → Bool
  before s r = precedes (long s) (point o (first_end s)) (point o (second_end s)) (long r) (point o (first_end r)) (point o (second_end r))

module _ (o : Office) (k : List ℕ) where
  -- of side s and the one found so far, the removable one that goes before the other
  unfoldable pub better : ℕ → Option ℕ → Option ℕ
  better s none = cond (removable o k s) (some s) none
  better s (some r) = cond (removable o k s && before o s r) (some s) (some r)

  -- of the one found so far and the n sides from s on
  unfoldable pub best_from : ℕ → ℕ → Option ℕ → Option ℕ
  best_from s zero found = found
  best_from s (suc n) found = best_from (suc s) n (better s found)

  -- the side to peel next
  unfoldable pub best : Option ℕ
  best = best_from 0 (sides o) none

-- the marks once the triangle of side s is peeled
abbrev pub peel : List ℕ → ℕ → List ℕ
peel k s = set k (s / 3) 0

module _ (o : Office) where
  -- a turn peels the best side where it is longer than the limit, and then come the others
  unfoldable pub turned : (List ℕ → List ℕ) → ℕ → List ℕ → Option ℕ → List ℕ
  turned others limit k none = k
  turned others limit k (some s) = cond (ltb limit (long o s)) (others (peel k s)) k

  -- the marks after n turns at most
  unfoldable pub peels : ℕ → ℕ → List ℕ → List ℕ
  peels zero limit k = k
  peels (suc n) limit k = turned (peels n limit) limit k (best o k)

  -- all triangles kept
  abbrev pub whole : List ℕ
  whole = replicate (triangles o) 1

  -- the marks that a draw leaves: as many turns as triangles are enough
  unfoldable pub drawn : ℕ → List ℕ
  drawn limit = peels (triangles o) limit whole

module _ (o : Office) (k : List ℕ) where
  -- where the rim goes on from p
  abbrev pub after : ℕ → ℕ
  after p = head o (first (λ s. eqb (tail o s) p && rim o k s) (sides o))

  -- the ring's length
  abbrev pub rims : ℕ
  rims = count (rim o k) (sides o)

  -- the outline: from the lowest point on the rim, counterclockwise
  unfoldable pub ring : List ℕ
  ring = walk after (first (on_rim o k) (points o)) rims

  -- how many triangles are peeled; twice the area of those kept
  unfoldable pub peeled : ℕ
  peeled = count (λ t. not (eqb (get_or k t 0) 1)) (triangles o)

  unfoldable pub doubled : ℕ
  doubled = sum (λ t. cond (eqb (get_or k t 0) 1) (nat_abs (area o t)) 0) (triangles o)
