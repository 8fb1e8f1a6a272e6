-- Document 02, 5/13 and 6/13: the triangles that a draw peels, in their order, and the marks once some triangles are peeled. Assumes nothing.
use Rattle.std.specs.Prelude.{ℕ, zero, suc, ◌+◌, ◌/◌, cond, List, [], ◌∷◌, ltb, set, nat_abs}
use Rattle.std.proofs.Math.Option.{Option, none, some}
use Rattle.sheet.specs.Office.{Office, triangles, area}
use Rattle.rim.specs.Peel.{long, best, peel, whole}

module _ (o : Office) where
  -- a turn peels the best side where it is longer than the limit, and then come the others
  unfoldable pub noted : (List ℕ → List ℕ) → ℕ → List ℕ → Option ℕ → List ℕ
  noted others limit k none = []
  noted others limit k (some s) = cond (ltb limit (long o s)) (s / 3 ∷ others (peel k s)) []

  -- the triangles that n turns at most peel
  unfoldable pub history_from : ℕ → ℕ → List ℕ → List ℕ
  history_from zero limit k = []
  history_from (suc n) limit k = noted (history_from n limit) limit k (best o k)

  -- the triangles that a draw peels
  unfoldable pub history : ℕ → List ℕ
  history limit = history_from (triangles o) limit (whole o)

  -- the doubled areas of the triangles ts
  unfoldable pub areas : List ℕ → ℕ
  areas [] = 0
  areas (t ∷ ts) = nat_abs (area o t) + areas ts

-- marks k once the triangles ts are peeled
unfoldable pub without : List ℕ → List ℕ → List ℕ
without k [] = k
without k (t ∷ ts) = without (set k t 0) ts
