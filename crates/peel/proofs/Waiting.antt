-- A stock of sides from which the next to peel is taken: every removable side longer than the limit waits in it, and every side in
-- it is on the rim, or has its third corner there and so is never removable again. Assumes nothing.
use mathlib.Core.Path.{◌≡◌, sym, ap, subst, ◌∙◌}
use mathlib.Core.Logic.{◌⊎◌, inl, inr}
use mathlib.Core.Bool.{true, false}
use mathlib.Core.List.{List}
use mathlib.Core.Option.{some}
use Prim.Native.Nat.{ℕ, suc, ◌<◌}
use native.Mathlib.Decide.{dec_lt, ℕ_discrete}
use native.Mathlib.Omega.{arith}
use lib.Dec.{eqb}
use Rattle.laws.proofs.Test.{false_iff, or_iff, eqb_iff}
use Rattle.sheet.specs.Office.{Office, sides, apex}
use Rattle.sheet.specs.Acceptable.{Acceptable}
use Rattle.rim.specs.Peel.{rim, on_rim, removable, long, before, best, peel}
use Rattle.rim.proofs.Marks.{rim_iff, on_rim_iff, removable_iff}
use Rattle.rim.proofs.OnePeel.{Peelable, outward, inward, rim_after, OldOrBared}
use Rattle.rim.proofs.RimPoints.{on_rim_after}
use Rattle.rim.specs.Reached.{Reached, more}
use Rattle.rim.proofs.Reached.{sound, peelable}
use Rattle.rim.proofs.TopSide.{Before, before_iff, before_total, best_iff}
use Rattle.peel.proofs.DrawEnds.{Done}

-- the sides q with `In q` wait at marks k, after n peels
pub record Waiting (o : Office) (limit n : ℕ) (k : List ℕ) (In : ℕ → Type 0) : Type 0 where
  pub reached : Reached o n k
  pub below : (s : ℕ) → In s → s < sides o
  pub fresh : (s : ℕ) → In s → (rim o k s ≡ true) ⊎ (on_rim o k (apex o s) ≡ true)
  pub waits : (s : ℕ) → s < sides o → removable o k s ≡ true → limit < long o s → In s

module _ {o : Office} {limit n : ℕ} {k : List ℕ} {In : ℕ → Type 0} (w : Waiting o limit n k In) where
  -- with an empty stock the draw is done
  pub none_waits : ((s : ℕ) → In s → ⊥) → Done o limit k
  none_waits f s l e = elim (dec_lt limit (long o s)) [ yes h ↦ absurd (f s (w.waits s l e h)) | no g ↦ omega arith ]

  -- a side that is not above the limit, or whose third corner is on the rim, may be forgotten
  pub forgets : {Next : ℕ → Type 0} (s : ℕ) → (limit < long o s → on_rim o k (apex o s) ≡ true)
      → ((q : ℕ) → In q → (q ≡ s) ⊎ Next q) → ((q : ℕ) → Next q → In q) → Waiting o limit n k Next
  forgets {Next} s idle split back = record {
    reached = w.reached;
    below = λ q i. w.below q (back q i);
    fresh = λ q i. w.fresh q (back q i);
    waits = λ q l e h. stays q e h (split q (w.waits q l e h));
  }
    where
      stays : (q : ℕ) → removable o k q ≡ true → limit < long o q → (q ≡ s) ⊎ Next q → Next q
      stays q e h (inl z) = absurd (((removable_iff o k s).0 (rw z at e)).1 ((on_rim_iff o k (apex o s)).0 (idle (rw z at h))))
      stays q e h (inr i) = i

  module _ (a : Acceptable o) (s : ℕ) (i : In s) (off : on_rim o k (apex o s) ≡ false) where
    pub may_go : removable o k s ≡ true
    may_go = step (w.fresh s i)
      where
        step : (rim o k s ≡ true) ⊎ (on_rim o k (apex o s) ≡ true) → removable o k s ≡ true
        step (inl e) = (removable_iff o k s).1 ((rim_iff o k s).0 e, λ c. false_iff.0 off ((on_rim_iff o k (apex o s)).1 c))
        step (inr e) = absurd (false_iff.0 off e)

    -- the first of the stock, where it may go, is the side to peel next
    pub first_is_best : limit < long o s → ((q : ℕ) → In q → (q ≡ s → ⊥) → before o q s ≡ false) → best o k ≡ some s
    first_is_best h first = (best_iff a k (some s)).1 (w.below s i, may_go, λ q l e f. goes q l e f (dec_lt limit (long o q)))
      where
        other : (q : ℕ) → In q → (q ≡ s → ⊥) → Before o s q ⊎ Before o q s → Before o s q
        other q j f (inl b) = b
        other q j f (inr b) = absurd (false_iff.0 (first q j f) ((before_iff o q s).1 b))

        goes : (q : ℕ) → q < sides o → removable o k q ≡ true → (q ≡ s → ⊥) → Dec (limit < long o q) → Before o s q
        goes q l e f (no g) = inl (omega arith)
        goes q l e f (yes b) =
            other q (w.waits q l e b) f
            (before_total a k s q (w.below s i) l ((removable_iff o k s).0 may_go).0 ((removable_iff o k q).0 e).0 (λ z. f (sym z)))

    pub can : Peelable o k s
    can = peelable o a (sound o a w.reached) s (w.below s i) may_go

    -- once it is peeled, the two sides laid bare take its place
    pub replaces : {Next : ℕ → Type 0} → ((q : ℕ) → In q → (q ≡ s) ⊎ Next q) → Next (outward a can).0 → Next (inward a can).0
        → ((q : ℕ) → Next q → In q ⊎ ((q ≡ (outward a can).0) ⊎ (q ≡ (inward a can).0))) → Waiting o limit (suc n) (peel k s) Next
    replaces {Next} split out inn back = record {
      reached = more s w.reached (w.below s i) may_go;
      below = λ q j. under q (back q j);
      fresh = λ q j. on q (under q (back q j)) (back q j);
      waits = λ q l e h.
          let (r, f) = (removable_iff o (peel k s) q).0 e in
          keeps q h (λ c. f ((on_rim_iff o (peel k s) (apex o q)).0 (edge_stays q c))) ((rim_after a can q l).0 ((rim_iff o (peel k s) q).1 r)) l;
    }
      where
        under : (q : ℕ) → In q ⊎ ((q ≡ (outward a can).0) ⊎ (q ≡ (inward a can).0)) → q < sides o
        under q (inl j) = w.below q j
        under q (inr (inl z)) = rw z (outward a can).1.below
        under q (inr (inr z)) = rw z (inward a can).1.below

        edge_stays : (q : ℕ) → on_rim o k (apex o q) ≡ true → on_rim o (peel k s) (apex o q) ≡ true
        edge_stays q c = on_rim_after a can (apex o q) ∙ (or_iff {b = eqb (apex o q) (apex o s)}).1 (inl c)

        on : (q : ℕ) → q < sides o → In q ⊎ ((q ≡ (outward a can).0) ⊎ (q ≡ (inward a can).0))
            → (rim o (peel k s) q ≡ true) ⊎ (on_rim o (peel k s) (apex o q) ≡ true)
        on q l (inr z) = inl ((rim_after a can q l).1 (inr z))
        on q l (inl j) = old (w.fresh q j) (ℕ_discrete q s)
          where
            old : (rim o k q ≡ true) ⊎ (on_rim o k (apex o q) ≡ true) → Dec (q ≡ s) → (rim o (peel k s) q ≡ true) ⊎ (on_rim o (peel k s) (apex o q) ≡ true)
            old (inr c) d = inr (edge_stays q c)
            old (inl e) (no f) = inl ((rim_after a can q l).1 (inl (e, f)))
            old (inl e) (yes z) = inr (on_rim_after a can (apex o q) ∙ (or_iff {a = on_rim o k (apex o q)}).1 (inr (eqb_iff.1 (ap (apex o) z))))

        keeps : (q : ℕ) → limit < long o q → (on_rim o k (apex o q) ≡ true → ⊥) → OldOrBared a can q → q < sides o → Next q
        keeps q h f (inr (inl z)) l = subst Next (sym z) out
        keeps q h f (inr (inr z)) l = subst Next (sym z) inn
        keeps q h f (inl (e, g)) l =
            stays (split q (w.waits q l ((removable_iff o k q).1 ((rim_iff o k q).0 e, λ c. f ((on_rim_iff o k (apex o q)).1 c))) h))
          where
            stays : (q ≡ s) ⊎ Next q → Next q
            stays (inl z) = absurd (g z)
            stays (inr j) = j
