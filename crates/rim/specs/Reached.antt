-- Document 01, 'Peeling': the marks that peels lead to. Assumes nothing.
use Rattle.std.specs.Prelude.{◌≡◌, true, List, ℕ, suc, ◌<◌}
use Rattle.std.proofs.Math.Option.{some}
use Rattle.sheet.specs.Office.{Office, sides}
use Rattle.rim.specs.Peel.{removable, long, best, peel, whole}

-- marks k, after n peels of removable sides
pub data Reached (o : Office) : ℕ → List ℕ → Type 0 where
  begun : Reached o 0 (whole o)
  more : {n : ℕ} {k : List ℕ} (s : ℕ) → Reached o n k → s < sides o → removable o k s ≡ true → Reached o (suc n) (peel k s)

-- marks k, after n peels of the best side, each longer than the limit
pub data Stripped (o : Office) (limit : ℕ) : ℕ → List ℕ → Type 0 where
  none_yet : Stripped o limit 0 (whole o)
  one_more : {n : ℕ} {k : List ℕ} (s : ℕ) → Stripped o limit n k → best o k ≡ some s → limit < long o s → Stripped o limit (suc n) (peel k s)
