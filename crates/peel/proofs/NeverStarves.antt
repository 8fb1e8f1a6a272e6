-- An accepted office never comes to refusal 14: every point stays a corner of a kept triangle. Assumes nothing.
use mathlib.Core.Path.{◌≡◌, refl, ap, ◌∙◌}
use mathlib.Core.Bool.{Bool, true, false, cond, ◌&&◌}
use mathlib.Core.List.{List}
use mathlib.Core.Option.{Option, none, some}
use Prim.Native.Nat.{ℕ, zero, suc, ◌<◌}
use lib.Dec.{ltb, eqb}
use Rattle.laws.specs.First.{first, at_first}
use Rattle.laws.proofs.Test.{and_iff, not_iff, eqb_iff, any_iff, false_iff}
use Rattle.sheet.specs.Office.{Office, points, sides, triangles, tail}
use Rattle.sheet.specs.Acceptable.{Acceptable}
use Rattle.rim.specs.Peel.{kept, long, best, peel, turned, peels, whole, drawn}
use Rattle.peel.specs.Outcome.{Outcome, draws, refuses, bereft, fed, feeds}
use Rattle.rim.specs.Reached.{Reached, begun, more}
use Rattle.rim.proofs.Marks.{Held}
use Rattle.rim.proofs.Reached.{sound}
use Rattle.rim.proofs.TopSide.{Top, best_top}

-- a point that a kept triangle holds is not bereft
pub not_bereft : (o : Office) (k : List ℕ) (p : ℕ) → Held o k p → bereft o k p ≡ false
unfolding bereft
not_bereft o k p (s, l, c, e) = false_iff.1 (λ b. not_iff.0 b ((any_iff {test = λ r. kept o k r && eqb (tail o r) p}).1 (s, l, and_iff.1 (eqb_iff.1 c, eqb_iff.1 e))))

-- a search that no place passes comes to the other answer
none_first : {A : Type 0} (test : ℕ → Bool) (n : ℕ) (found : ℕ → A) (other : A) → ((i : ℕ) → i < n → test i ≡ false) → at_first test n found other ≡ other
unfolding at_first
none_first test n found other f = ap (λ b. cond b (found (first test n)) other) (false_iff.1 (λ e. let (i, l, t) = (any_iff {test = test}).0 e in false_iff.0 (f i l) t))

module _ {o : Office} (a : Acceptable o) (limit : ℕ) where
  turn_feeds : {n : ℕ} {k : List ℕ} (others : List ℕ → Outcome) (peeled : List ℕ → List ℕ) (b : Option ℕ) → Reached o n k → Top a k (sides o) b
      → ((s : ℕ) → Reached o (suc n) (peel k s) → others (peel k s) ≡ draws (peeled (peel k s)))
      → fed o others limit k b ≡ draws (turned o peeled limit k b)
  unfolding fed turned
  turn_feeds others peeled none r t ih = refl
  turn_feeds {n} {k} others peeled (some s) r (l, e, t) ih = step (ltb limit (long o s))
    where
      next : Reached o (suc n) (peel k s)
      next = more s r l e

      step : (b : Bool) → cond b (at_first (bereft o (peel k s)) (points o) (refuses 14) (others (peel k s))) (draws k) ≡ draws (cond b (peeled (peel k s)) k)
      step true = none_first (bereft o (peel k s)) (points o) (refuses 14) (others (peel k s)) (λ p m. not_bereft o (peel k s) p ((sound o a next).held p m)) ∙ ih s next
      step false = refl

  feeds_on : (fuel n : ℕ) (k : List ℕ) → Reached o n k → feeds o fuel limit k ≡ draws (peels o fuel limit k)
  unfolding feeds peels
  feeds_on zero n k r = refl
  feeds_on (suc fuel) n k r = turn_feeds (feeds o fuel limit) (peels o fuel limit) (best o k) r (best_top a k) (λ s h. feeds_on fuel (suc n) (peel k s) h)

  pub never_starves : feeds o (triangles o) limit (whole o) ≡ draws (drawn o limit)
  unfolding drawn
  never_starves = feeds_on (triangles o) 0 (whole o) begun
