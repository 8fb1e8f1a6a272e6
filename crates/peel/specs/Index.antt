-- Document 02, 11/13: for each point the least limit at which it is not on the outline, and how many points are on it at each limit.
-- Assumes nothing.
use Rattle.std.specs.Prelude.{ℕ, zero, suc, ◌<◌, ◌≤◌, ◌≡◌, ◌↔◌, ◌⊎◌, Bool, true, false, cond, ◌||◌, List, [], ◌∷◌, map, ltb, eqb, length, get_or}
use Rattle.std.proofs.Math.Option.{Option, none, some}
use Rattle.laws.specs.First.{first, table}
use Rattle.laws.specs.Round.{rotated}
use Rattle.sheet.specs.Office.{Office, points, triangles, apex}
use Rattle.rim.specs.Peel.{on_rim, long, best, peel, whole, drawn, ring}
use Rattle.peel.specs.List.{entries}

-- the smaller of two numbers
abbrev pub smaller : ℕ → ℕ → ℕ
smaller a b = cond (ltb a b) a b

-- the numbers of a list of which the test holds, in their order
unfoldable pub keep : (ℕ → Bool) → List ℕ → List ℕ
keep test [] = []
keep test (p ∷ ps) = cond (test p) (p ∷ keep test ps) (keep test ps)

-- where the lowest of n numbers of which the test holds stands in a ring
abbrev pub begin : (ℕ → Bool) → ℕ → List ℕ → ℕ
begin test n row = first (λ i. eqb (get_or row i 0) (first test n)) (length row)

-- the numbers of a ring of which the test holds, from the lowest on
unfoldable pub thin : (ℕ → Bool) → ℕ → List ℕ → List ℕ
thin test n row = keep test (rotated (begin test n row) row)

-- a point with number i in the index is on the outline at the limit
abbrev pub above : ℕ → ℕ → Bool
above limit i = ltb limit i || eqb i 4294967295

module _ (o : Office) where
  -- the index of a point that is not on the rim of marks k, where `shortest` is the least length peeled before: a peel that bares the point
  -- gives it the least of all lengths so far; where nothing is left to peel, no limit brings it to the outline
  unfoldable pub bared : (ℕ → List ℕ → ℕ) → ℕ → List ℕ → ℕ → Option ℕ → ℕ
  bared others shortest k p none = 0
  bared others shortest k p (some s) = cond (eqb p (apex o s)) (smaller (long o s) shortest) (others (smaller (long o s) shortest) (peel k s))

  unfoldable pub index_from : ℕ → ℕ → List ℕ → ℕ → ℕ
  index_from zero shortest k p = 0
  index_from (suc n) shortest k p = bared (λ least j. index_from n least j p) shortest k p (best o k)

  -- the points of the hull are on every outline
  unfoldable pub index : ℕ → ℕ
  index p = cond (on_rim o (whole o) p) 4294967295 (index_from (triangles o) 4294967295 (whole o) p)

  -- the index list
  abbrev pub indices : List ℕ
  indices = table index (points o)

  -- a pair for each entry: its least limit, and how many points are on its outline
  unfoldable pub limits : List ℕ
  limits = map (λ e. e.least) (entries o)

  unfoldable pub counts : List ℕ
  counts = map (λ e. length e.outline.round) (entries o)

  -- by the index, point p is on the outline at the limit
  abbrev pub shown : ℕ → ℕ → Bool
  shown limit p = above limit (index p)

  -- of the ring drawn at limit 0, the points on the outline at the limit, from the lowest on
  abbrev pub thinned : ℕ → List ℕ
  thinned limit = thin (shown limit) (points o) (ring o (drawn o 0))

-- what number i says of point p, at every whole-number limit
pub record Indexed (o : Office) (p i : ℕ) : Type 0 where
  -- the point is on the outline exactly where the number is above the limit, or is 4,294,967,295; this goes for greater limits too
  pub agrees : (limit : ℕ) → (on_rim o (drawn o limit) p ≡ true) ↔ ((limit < i) ⊎ (i ≡ 4294967295))
  -- 4,294,967,295 is that of the points of the hull, which are on the outline at every limit
  pub hull : (i ≡ 4294967295) ↔ (on_rim o (whole o) p ≡ true)
  pub always : (i ≡ 4294967295) ↔ ((limit : ℕ) → on_rim o (drawn o limit) p ≡ true)
  -- 0 that of the points which no limit brings to it
  pub never : (i ≡ 0) ↔ ((limit : ℕ) → on_rim o (drawn o limit) p ≡ false)
  -- and any other is the least limit at which the point is not on it
  pub least : (i ≡ 4294967295 → ⊥) → (on_rim o (drawn o i) p ≡ false) × ((limit : ℕ) → on_rim o (drawn o limit) p ≡ false → i ≤ limit)
