-- Document 01, 'Peeling' and 'Refusal numbers': what a draw comes to, refusal 14 included. Assumes nothing.
use Rattle.std.specs.Prelude.{ℕ, zero, suc, Bool, not, cond, ◌&&◌, List, ltb, eqb}
use Rattle.std.proofs.Math.Option.{Option, none, some}
use Rattle.laws.specs.First.{any, at_first}
use Rattle.sheet.specs.Office.{Office, points, sides, triangles, tail}
use Rattle.sheet.specs.Verdict.{Verdict, accepted, refused, verdict}
use Rattle.rim.specs.Peel.{kept, long, best, peel, whole}

-- the marks drawn, or a refusal's number and place
pub data Outcome : Type 0 where
  draws : List ℕ → Outcome
  refuses : ℕ → ℕ → Outcome

module _ (o : Office) where
  -- marks k leave point p without a kept triangle
  unfoldable pub bereft : List ℕ → ℕ → Bool
  bereft k p = not (any (λ s. kept o k s && eqb (tail o s) p) (sides o))

  -- a turn peels the best side where it is longer than the limit, unless that would leave a point without a kept triangle: 14, at the lowest
  unfoldable pub fed : (List ℕ → Outcome) → ℕ → List ℕ → Option ℕ → Outcome
  fed others limit k none = draws k
  fed others limit k (some s) = cond (ltb limit (long o s)) (at_first (bereft (peel k s)) (points o) (refuses 14) (others (peel k s))) (draws k)

  unfoldable pub feeds : ℕ → ℕ → List ℕ → Outcome
  feeds zero limit k = draws k
  feeds (suc n) limit k = fed (feeds n limit) limit k (best o k)

  -- an accepted office is peeled
  unfoldable pub by_verdict : ℕ → Verdict → Outcome
  by_verdict limit (accepted hull) = feeds (triangles o) limit (whole o)
  by_verdict limit (refused number place) = refuses number place

-- room says whether the lent buffers are long enough
unfoldable pub outcome : Bool → Office → ℕ → Outcome
outcome room o limit = by_verdict o limit (verdict room o)
