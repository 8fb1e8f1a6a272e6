-- Document 01, demand 2, in plain logic: the outline that a draw gives. Assumes nothing.
use Rattle.std.specs.Prelude.{◌≡◌, true, List, ℕ, ◌+◌, ◌%◌, ◌<◌, ◌≤◌, length, get_or}
use Rattle.sheet.specs.Office.{Office, points, sides, tail, head, rims as hull_sides}
use Rattle.rim.specs.Peel.{rim, on_rim, removable, long, ring, peeled}
use Rattle.rim.specs.Reached.{Stripped}
use Rattle.rim.proofs.Marks.{Way, Held}
use Rattle.peel.specs.Simple.{Simple}

-- the point at step i of going round a row for ever
abbrev pub step : List ℕ → ℕ → ℕ
step row i = get_or row (i % length row) 0

-- a draw at the limit leaves marks k after n peels
pub record DrawnAt (o : Office) (limit n : ℕ) (k : List ℕ) : Type 0 where
  -- the best side was peeled n times, each longer than the limit
  pub by_best : Stripped o limit n k
  -- no removable side is strictly longer than the limit
  pub nothing_left : (s : ℕ) → s < sides o → removable o k s ≡ true → long o s ≤ limit
  -- every point is a corner of a kept triangle
  pub held : (p : ℕ) → p < points o → Held o k p
  -- the tally's count, and the ring's length: the hull's and one more for each peel
  pub count : peeled o k ≡ n
  pub long_ring : length (ring o k) ≡ hull_sides o + n
  -- the ring starts at the lowest point on the rim
  pub on_rim_first : on_rim o k (step (ring o k) 0) ≡ true
  pub lowest_first : (p : ℕ) → on_rim o k p ≡ true → step (ring o k) 0 ≤ p
  -- it is closed: each step is along a rim side, the one after the last too; and each rim side is a step of it
  pub along_rim : (i : ℕ) → Way o k (step (ring o k) i) (step (ring o k) (i + 1))
  pub whole_rim : (s : ℕ) → s < sides o → rim o k s ≡ true → (i : ℕ) × (step (ring o k) i ≡ tail o s) × (step (ring o k) (i + 1) ≡ head o s)
  -- it visits each of its points once
  pub each_once : (i j : ℕ) → i < length (ring o k) → j < length (ring o k) → step (ring o k) i ≡ step (ring o k) j → i ≡ j
  -- and it is a simple polygon
  pub simple : Simple o (ring o k)
