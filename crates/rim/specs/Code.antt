-- What the code's values stand for. Assumes nothing.
use Rattle.std.specs.Prelude.{Option as Maybe, Some, None, ℕ, ◌+◌, ◌/◌, ◌<◌, ◌≤◌, Bool, true, cond, List, ◌≡◌, ltb, length, get_or, set, take, drop}
use Rattle.std.proofs.Math.Option.{Option, none, some}
use Rattle.laws.specs.First.{table}
use Rattle.sheet.specs.Office.{Office, bare, mate_of, points, sides, triangles, tail, head}
use Rattle.sheet.specs.Acceptable.{Acceptable}
use Rattle.rim.specs.Peel.{mark, rim, on_rim, long, best, turned, rims, doubled}
use Rattle.rim.specs.Reached.{Reached}
use Rattle.rim.specs.declared.answers.Side.{Side}
use Rattle.rim.specs.declared.answers.Step.{Step}
use Rattle.rim.specs.declared.answers.Step.TheVariants.{Peeled, Nothing}

-- the definitions' marks: those in front, one a triangle
abbrev pub front : List ℕ → List ℕ → List ℕ
front corners kept = take (length corners / 3) kept

-- an acceptable office, its mates, and the marks of its triangles and of the points on the rim
pub record Held (o : Office) (mate kept rim : List ℕ) : Type 0 where
  pub acceptable : Acceptable o
  pub mates : take (sides o) mate ≡ table (mate_of o.corners) (sides o)
  pub room : triangles o ≤ length kept
  pub places : points o ≤ length rim
  pub on : (p : ℕ) → p < points o → get_or rim p 0 ≡ mark (on_rim o (front o.corners kept) p)

-- the side found, with its squared length
abbrev pub told : Office → Option ℕ → Maybe Side
told o none = None
told o (some s) = Some (record { place = s; squared = long o s })

-- marks on the way, and their tally
pub record State (o : Office) (mate kept rim : List ℕ) (peeled area ring : ℕ) : Type 0 where
  pub held : Held o mate kept rim
  pub reached : Reached o peeled (front o.corners kept)
  pub areas : area ≡ doubled o (front o.corners kept)
  pub rings : ring ≡ rims o (front o.corners kept)

-- what a step answers where the side to peel next is known
abbrev pub answered : Office → ℕ → Option ℕ → Step
answered o limit none = Nothing
answered o limit (some s) = cond (ltb limit (long o s)) (Peeled (s / 3) (long o s)) Nothing

abbrev pub peels_of : Step → ℕ
peels_of Nothing = 0
peels_of (Peeled t q) = 1

-- what a step does: it peels the best side above the limit, and tells so
pub record Stepped (o : Office) (limit : ℕ) (mate kept rim kept' rim' : List ℕ) (peeled : ℕ) (step : Step) (peeled' area' ring' : ℕ) : Type 0 where
  pub state : State o mate kept' rim' peeled' area' ring'
  pub says : step ≡ answered o limit (best o (front o.corners kept))
  pub marks : front o.corners kept' ≡ turned o (λ j. j) limit (front o.corners kept) (best o (front o.corners kept))
  pub counts : peeled' ≡ peels_of step + peeled
  pub kept_rest : drop (triangles o) kept' ≡ drop (triangles o) kept
  pub rim_rest : drop (points o) rim' ≡ drop (points o) rim
  pub kept_long : length kept' ≡ length kept
  pub rim_long : length rim' ≡ length rim

-- both ends of side s are marked, where it is on the rim
abbrev pub ends_marked : List ℕ → ℕ → Bool → List ℕ → List ℕ
ends_marked corners s bared marks = cond bared (set (set marks (tail (bare corners) s) 1) (head (bare corners) s) 1) marks

-- the marks of n points: 1 on the rim, else 0; places past these are as before
pub record Marked (corners k : List ℕ) (n : ℕ) (before marks : List ℕ) : Type 0 where
  pub on : (p : ℕ) → p < n → get_or marks p 0 ≡ mark (on_rim (bare corners) k p)
  pub rest : drop n marks ≡ drop n before
  pub long : length marks ≡ length before

-- a rim side starts at point p
abbrev pub Leaves : List ℕ → List ℕ → ℕ → Type 0
Leaves corners k p = (s : ℕ) × (s < length corners) × (rim (bare corners) k s ≡ true) × (tail (bare corners) s ≡ p)

-- the rim forks nowhere, and goes on from where a side of it ends
pub record Ringlike (corners k : List ℕ) : Type 0 where
  pub forks : (s r : ℕ) → s < length corners → r < length corners → rim (bare corners) k s ≡ true → rim (bare corners) k r ≡ true → tail (bare corners) s ≡ tail (bare corners) r → head (bare corners) s ≡ head (bare corners) r
  pub follows : (s : ℕ) → s < length corners → rim (bare corners) k s ≡ true → Leaves corners k (head (bare corners) s)

-- the links of the rim sides below m
abbrev pub Linked : List ℕ → List ℕ → List ℕ → ℕ → Type 0
Linked corners k link m = (s : ℕ) → s < m → rim (bare corners) k s ≡ true → get_or link (tail (bare corners) s) 0 ≡ head (bare corners) s
