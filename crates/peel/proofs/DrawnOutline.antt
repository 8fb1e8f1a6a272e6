-- The outline that a draw gives, in one statement: how it is reached, what is left, and what its ring is. Assumes nothing.
use mathlib.Core.Path.{◌≡◌, refl, sym, subst, ◌∙◌}
use mathlib.Core.Bool.{Bool, true, false, cond}
use mathlib.Core.List.{List}
use mathlib.Core.Option.{Option, none, some}
use Prim.Native.Nat.{ℕ, zero, suc, ◌+◌, ◌≤◌}
use lib.Dec.{ltb}
use borrow.Author.Tests.{ltb-true}
use Rattle.sheet.specs.Office.{Office, sides, triangles, tail, head}
use Rattle.sheet.specs.Acceptable.{Acceptable}
use Rattle.rim.specs.Peel.{on_rim, long, best, peel, turned, peels, drawn}
use Rattle.rim.specs.Reached.{Reached, begun, more, Stripped, none_yet, one_more}
use Rattle.rim.proofs.Reached.{Sound, sound}
use Rattle.rim.proofs.Rings.{outlined, ring_length}
use Rattle.rim.proofs.TopSide.{Top, best_top}
use Rattle.peel.specs.DrawnAt.{DrawnAt}
use Rattle.peel.proofs.DrawEnds.{Done, drawn_ends}
use Rattle.peel.proofs.Simple.{outline_simple, reads, side, once}

module _ {o : Office} (a : Acceptable o) (limit : ℕ) where
  -- reached by best sides
  abbrev By : List ℕ → Type 0
  By k = (m : ℕ) × Stripped o limit m k

  turn_best : {n : ℕ} {k : List ℕ} (others : List ℕ → List ℕ) (b : Option ℕ) → best o k ≡ b → Stripped o limit n k → ((s : ℕ) → Stripped o limit (suc n) (peel k s) → By (others (peel k s)))
      → By (turned o others limit k b)
  unfolding turned
  turn_best {n} others none f r ih = (n, r)
  turn_best {n} {k} others (some s) f r ih = at (ltb limit (long o s)) refl
    where
      at : (b : Bool) → ltb limit (long o s) ≡ b → By (cond b (others (peel k s)) k)
      at true e = ih s (one_more s r f (ltb-true limit (long o s) e))
      at false e = (n, r)

  peels_best : (fuel : ℕ) {n : ℕ} {k : List ℕ} → Stripped o limit n k → By (peels o fuel limit k)
  unfolding peels
  peels_best zero {n} r = (n, r)
  peels_best (suc fuel) {n} {k} r = turn_best (peels o fuel limit) (best o k) refl r (λ s h. peels_best fuel h)

  -- the best side is removable
  pub stripped_reached : {n : ℕ} {k : List ℕ} → Stripped o limit n k → Reached o n k
  stripped_reached none_yet = begun
  stripped_reached (one_more {n} {k} s r e l) = let (b, u, _) = subst (Top a k (sides o)) e (best_top a k) in more s (stripped_reached r) b u

  ring_of : {n : ℕ} {k : List ℕ} → Stripped o limit n k → Sound o n k → Done o limit k → DrawnAt o limit n k
  ring_of {n} {k} b h d =
      let out = outlined a h in
      record {
        by_best = b;
        nothing_left = d;
        held = h.held;
        count = h.count;
        long_ring = ring_length a h;
        on_rim_first = subst (λ p. on_rim o k p ≡ true) (sym (reads a h 0)) out.begins;
        lowest_first = λ p e. subst (λ q. q ≤ p) (sym (reads a h 0)) (out.lowest p e);
        along_rim = side a h;
        whole_rim = λ s l e. let (i, x, y) = out.round.all (tail o s) (head o s) (s, l, e, refl, refl) in (i, reads a h i ∙ x, reads a h (i + 1) ∙ y);
        each_once = once a h;
        simple = outline_simple a h;
      }

  -- every draw of an acceptable office
  pub drawn_outline : (n : ℕ) × DrawnAt o limit n (drawn o limit)
  unfolding drawn
  drawn_outline =
      let (n, b) = peels_best (triangles o) none_yet in
      let (_, _, _, d) = drawn_ends a limit in
      (n, ring_of b (sound o a (stripped_reached b)) d)
