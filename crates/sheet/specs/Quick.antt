-- What makes an office acceptable by a look at neighbours alone, after the refusals 1 to 10 and 12. Assumes nothing.
use Rattle.std.specs.Prelude.{◌≡◌, Option, MatchOption, true, ℕ, ◌+◌, ◌*◌, ◌%◌, ◌<◌, ◌≤◌, ℤ, pos, ◌<ℤ◌, get_or}
use Rattle.laws.specs.First.{first}
use Rattle.laws.specs.Round.{Round}
use Rattle.sheet.specs.Plane.{Point, spot, turn, circle}
use Rattle.sheet.specs.Office.{Office, points, sides, triangles, invaded, point, tail, head, apex, mate_of}
use Rattle.sheet.specs.Code.{At, leaves}
use Rattle.sheet.specs.Acceptable.{Left, Single, Used, Reverse, Rim, Along}

-- what these refusals leave, but for the lists' lengths
pub record Ringed (o : Office) : Type 0 where
  pub whole : sides o % 3 ≡ 0
  pub small : (p : ℕ) → p < points o → (get_or o.xs p 0 ≤ 16383) × (get_or o.ys p 0 ≤ 16383)
  pub distinct : (p q : ℕ) → p < points o → q < points o → get_or o.xs p 0 ≡ get_or o.xs q 0 → get_or o.ys p 0 ≡ get_or o.ys q 0 → p ≡ q
  pub numbered : (s : ℕ) → s < sides o → tail o s < points o
  pub left : Left o
  pub single : Single o
  pub used : Used o
  pub ring : (m : ℕ) × Round (Along o) m

-- by x, then by y, for coordinates up to 16,383
abbrev pub key : Point → ℕ
key a = a.x * 16384 + a.y

-- the rim goes on from side s with side r
abbrev pub Onward : Office → ℕ → ℕ → Type 0
Onward o s r = (s < sides o) × (r < sides o) × Rim o s × Rim o r × (head o s ≡ tail o r)

-- the rim never turns right, and it goes round once: there is one point at the most whose key is below those before and after it
pub record Convex (o : Office) : Type 0 where
  pub bends : (s r : ℕ) → Onward o s r → turn (point o (tail o s)) (point o (head o s)) (point o (head o r)) <ℤ pos 0 → ⊥
  pub lowest : ℕ
  pub lows : (s r : ℕ) → Onward o s r → key (point o (head o s)) < key (point o (tail o s)) → key (point o (head o s)) < key (point o (head o r)) → head o s ≡ lowest

-- no circle holds the third corner of the triangle beyond one of its sides; one side of each pair is asked
abbrev pub Half : Office → Type 0
Half o = (s r : ℕ) → s < r → r < sides o → Reverse o s r → pos 0 <ℤ circle (point o (tail o s)) (point o (head o s)) (point o (apex o s)) (point o (apex o r)) → ⊥

-- what the code asks of side s: of its mate, and of the rim side that goes on from it
abbrev pub Clear : Office → ℕ → Type 0
Clear o s = s < mate_of o.corners s → mate_of o.corners s < sides o
    → pos 0 <ℤ circle (point o (tail o s)) (point o (head o s)) (point o (apex o s)) (point o (apex o (mate_of o.corners s))) → ⊥

-- of each side of triangle t
abbrev pub Clears : Office → ℕ → Type 0
Clears o t = Clear o (t * 3) × Clear o (t * 3 + 1) × Clear o (t * 3 + 2)

-- the coordinates and the doubled area of the triangle of side s, from that side on
pub record Cornering (o : Office) (s : ℕ) (area : ℤ) (ax ay bx by cx cy : ℕ) : Type 0 where
  pub from : At o (tail o s) ax ay
  pub to : At o (head o s) bx by
  pub third : At o (apex o s) cx cy
  pub turns : area ≡ turn (spot ax ay) (spot bx by) (spot cx cy)

pub record Goes (o : Office) (lowest s : ℕ) : Type 0 where
  pub side : ℕ
  pub onward : Onward o s side
  pub bends : turn (point o (tail o s)) (point o (head o s)) (point o (head o side)) <ℤ pos 0 → ⊥
  pub low : key (point o (head o s)) < key (point o (tail o s)) → key (point o (head o s)) < key (point o (head o side)) → head o s ≡ lowest

abbrev pub Smooth : Office → ℕ → ℕ → Type 0
Smooth o lowest s = Rim o s → Goes o lowest s

-- the same of the first rim side from point p, where there is one
abbrev pub SmoothFrom : Office → ℕ → ℕ → Type 0
SmoothFrom o lowest p = first (leaves o.corners p) (sides o) < sides o → Smooth o lowest (first (leaves o.corners p) (sides o))

abbrev pub AllClear : Office → Type 0
AllClear o = (s : ℕ) → s < sides o → Clear o s

abbrev pub AllSmooth : Office → Type 0
AllSmooth o = (lowest : ℕ) × ((p : ℕ) → p < points o → SmoothFrom o lowest p)

-- a triangle, if one is given, has a point strictly inside its circle
abbrev pub Foremost : Office → Option ℕ → Type 0
Foremost o t = MatchOption t (Unit {0}) (λ t. (t < triangles o) × (invaded o t ≡ true))

pub record Neat (o : Office) : Type 0 where
  pub clear : AllClear o
  pub smooth : AllSmooth o
