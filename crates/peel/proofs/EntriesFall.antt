-- From entry to entry the least limits fall and the peels rise. Assumes nothing.
use mathlib.Core.Path.{◌≡◌, refl, sym, subst}
use mathlib.Core.Bool.{Bool, true, false, cond}
use mathlib.Core.List.{List, [], ◌∷◌}
use mathlib.Core.Option.{Option, none, some}
use Prim.Native.Nat.{ℕ, zero, suc, ◌<◌}
use native.Mathlib.Nat.{le_of_eq}
use native.Mathlib.Omega.{arith}
use lib.Dec.{ltb}
use borrow.Author.Tests.{ltb-true}
use Rattle.sheet.specs.Office.{Office, sides, triangles}
use Rattle.sheet.specs.Acceptable.{Acceptable}
use Rattle.rim.specs.Peel.{best, long, peel, whole}
use Rattle.peel.specs.List.{Entry, listed, entries_from, entries, outline}
use Rattle.rim.specs.Reached.{Reached, begun, more}
use Rattle.rim.proofs.Reached.{sound}
use Rattle.rim.proofs.TopSide.{Top, best_top}
use Rattle.peel.proofs.Long.{long_positive}
use Rattle.peel.proofs.Falls.{Falls, ended, falls, fewer}

module _ {o : Office} (a : Acceptable o) where
  pub peels_are : {n : ℕ} {k : List ℕ} → Reached o n k → (outline o k).peels ≡ n
  unfolding outline
  peels_are r = (sound o a r).count

  one_falls : {n : ℕ} {k : List ℕ} (m least : ℕ) → Reached o n k → least < m → (es : List Entry) → Falls least (suc n) es → Falls m n (record { least = least; outline = outline o k } ∷ es)
  one_falls m least r l es f = falls l (le_of_eq (sym (peels_are r))) (subst (λ p. Falls least (suc p) es) (sym (peels_are r)) f)

  listed_falls : (others : ℕ → List ℕ → List Entry) (n m : ℕ) (k : List ℕ) (b : Option ℕ) → Reached o n k → 0 < m → Top a k (sides o) b
      → ((s m : ℕ) → 0 < m → Reached o (suc n) (peel k s) → Falls m (suc n) (others m (peel k s))) → Falls m n (listed o others m k b)
  unfolding listed
  listed_falls others n m k none r l t ih = one_falls m 0 r l [] ended
  listed_falls others n m k (some s) r l (b, e, t) ih = step (ltb (long o s) m) refl
    where
      step : (c : Bool) → ltb (long o s) m ≡ c → Falls m n (cond c (record { least = long o s; outline = outline o k } ∷ others (long o s) (peel k s)) (others m (peel k s)))
      step true h = one_falls m (long o s) r (ltb-true (long o s) m h) (others (long o s) (peel k s)) (ih s (long o s) (long_positive a s b) (more s r b e))
      step false h = fewer (ih s m l (more s r b e))

  from_falls : (fuel n m : ℕ) (k : List ℕ) → Reached o n k → 0 < m → Falls m n (entries_from o fuel m k)
  unfolding entries_from
  from_falls zero n m k r l = one_falls m 0 r l [] ended
  from_falls (suc fuel) n m k r l = listed_falls (entries_from o fuel) n m k (best o k) r l (best_top a k) (λ s w h x. from_falls fuel (suc n) w (peel k s) x h)

  pub entries_fall : Falls 4294967296 0 (entries o)
  unfolding entries
  entries_fall = from_falls (triangles o) 0 4294967296 (whole o) begun (omega arith)
