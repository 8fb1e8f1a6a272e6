-- What is ahead of a draw that has come to marks k: a peel of the best side leads on to the same end. Assumes nothing.
use mathlib.Core.Path.{◌≡◌, refl, sym, ◌∙◌}
use mathlib.Core.List.{List}
use mathlib.Core.Option.{Option, none, some}
use Prim.Native.Nat.{ℕ, zero, suc, ◌+◌, ◌<◌, ◌≤◌}
use native.Mathlib.Omega.{arith}
use borrow.Author.Tests.{lt-ltb, le-ltb}
use Rattle.sheet.specs.Office.{Office, sides, triangles}
use Rattle.sheet.specs.Acceptable.{Acceptable}
use Rattle.rim.specs.Peel.{long, best, peel, turned, peels, whole, drawn}
use Rattle.rim.specs.Reached.{Reached}
use Rattle.rim.proofs.Reached.{sound}
use Rattle.rim.proofs.Rings.{some_kept}
use Rattle.rim.proofs.TopSide.{Top, best_top}
use Rattle.peel.proofs.DrawEnds.{Done}

-- after n peels, and with `left` more at most
pub record Ahead (o : Office) (limit n left : ℕ) (k : List ℕ) : Type 0 where
  pub enough : triangles o ≤ n + left
  pub goes : peels o left limit k ≡ drawn o limit

pub all_ahead : {o : Office} {limit : ℕ} → Ahead o limit 0 (triangles o) (whole o)
unfolding drawn
all_ahead = record { enough = omega arith; goes = refl }

-- a turn at a best side that is longer than the limit, and at marks that are done
peels_best : (o : Office) (limit m : ℕ) (k : List ℕ) (s : ℕ) → best o k ≡ some s → limit < long o s → peels o (suc m) limit k ≡ peels o m limit (peel k s)
unfolding peels turned
peels_best o limit m k s e l = simp (e, lt-ltb limit (long o s) l)

peels_done : {o : Office} (a : Acceptable o) (limit m : ℕ) (k : List ℕ) → Done o limit k → peels o m limit k ≡ k
unfolding peels turned
peels_done a limit zero k d = refl
peels_done {o} a limit (suc m) k d = at_best (best o k) (best_top a k)
  where
    at_best : (b : Option ℕ) → Top a k (sides o) b → turned o (peels o m limit) limit k b ≡ k
    at_best none t = refl
    at_best (some s) (l, e, _) = simp (le-ltb limit (long o s) (d s l e))

module _ {o : Office} {limit n left : ℕ} {k : List ℕ} (a : Acceptable o) (h : Ahead o limit n left k) where
  pub peel_ahead : (s : ℕ) → Reached o n k → best o k ≡ some s → limit < long o s → (m : ℕ) × (left ≡ suc m) × Ahead o limit (suc n) m (peel k s)
  peel_ahead s r e l = step left refl h
    where
      step : (f : ℕ) → left ≡ f → Ahead o limit n f k → (m : ℕ) × (left ≡ suc m) × Ahead o limit (suc n) m (peel k s)
      step zero z g = absurd (let b = some_kept a (sound o a r) in let c = g.enough in omega arith)
      step (suc m) z g = (m, z, record { enough = (let c = g.enough in omega arith); goes = sym (peels_best o limit m k s e l) ∙ g.goes })

  pub none_ahead : Done o limit k → k ≡ drawn o limit
  none_ahead d = sym (peels_done a limit left k d) ∙ h.goes
