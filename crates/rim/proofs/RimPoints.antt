-- One peel puts one point more on the rim, the bared corner. Assumes nothing.
use mathlib.Core.Path.{◌≡◌, refl, sym, ap, ◌∙◌}
use mathlib.Core.Logic.{◌⊎◌, inl, inr}
use mathlib.Core.Bool.{true, ◌||◌}
use mathlib.Core.List.{List}
use Prim.Native.Nat.{ℕ, ◌<◌}
use native.Mathlib.Decide.{ℕ_discrete}
use lib.Dec.{eqb}
use Rattle.laws.proofs.Test.{or_iff, eqb_iff, same_answer}
use Rattle.sheet.specs.Office.{Office, sides, tail, head, apex}
use Rattle.sheet.specs.Acceptable.{Acceptable}
use Rattle.rim.specs.Peel.{on_rim, peel}
use Rattle.rim.proofs.Marks.{Rim, Ends, OnRim, rim_iff, on_rim_iff}
use Rattle.rim.proofs.OnePeel.{Peelable, on, outward, inward, outward_ends, inward_ends, OldOrBared, rim_after}

module _ {o : Office} {k : List ℕ} {s : ℕ} (a : Acceptable o) (can : Peelable o k s) where
  pub on_rim_after : (p : ℕ) → on_rim o (peel k s) p ≡ (on_rim o k p || eqb p (apex o s))
  on_rim_after p = same_answer
      (λ e. or_iff.1 (away ((on_rim_iff o (peel k s) p).0 e)))
      (λ e. (on_rim_iff o (peel k s) p).1 (back ((or_iff {a = on_rim o k p}).0 e)))
    where
      new : (b : ℕ) → b < sides o → (b ≡ (outward a can).0) ⊎ (b ≡ (inward a can).0) → Ends o b p → OnRim o (peel k s) p
      new b l c e = (b, l, e, (rim_iff o (peel k s) b).0 ((rim_after a can b l).1 (inr c)))

      old : Ends o s p → on_rim o k p ≡ true
      old e = (on_rim_iff o k p).1 (s, can.below, e, on a can)

      here : apex o s ≡ p → eqb p (apex o s) ≡ true
      here e = eqb_iff.1 (sym e)

      seen : (r : ℕ) → r < sides o → Ends o r p → OldOrBared a can r → (on_rim o k p ≡ true) ⊎ (eqb p (apex o s) ≡ true)
      seen r l e (inl (h, _)) = inl ((on_rim_iff o k p).1 (r, l, e, (rim_iff o k r).0 h))
      seen r l (inl e) (inr (inl z)) = inr (here (sym (ap (tail o) z ∙ (outward_ends a can).0) ∙ e))
      seen r l (inr e) (inr (inl z)) = inl (old (inr (sym (ap (head o) z ∙ (outward_ends a can).1) ∙ e)))
      seen r l (inl e) (inr (inr z)) = inl (old (inl (sym (ap (tail o) z ∙ (inward_ends a can).0) ∙ e)))
      seen r l (inr e) (inr (inr z)) = inr (here (sym (ap (head o) z ∙ (inward_ends a can).1) ∙ e))

      away : OnRim o (peel k s) p → (on_rim o k p ≡ true) ⊎ (eqb p (apex o s) ≡ true)
      away (r, l, e, h) = seen r l e ((rim_after a can r l).0 ((rim_iff o (peel k s) r).1 h))

      head_stays : head o s ≡ p → OnRim o (peel k s) p
      head_stays e = new (outward a can).0 (outward a can).1.below (inl refl) (inr ((outward_ends a can).1 ∙ e))

      tail_stays : tail o s ≡ p → OnRim o (peel k s) p
      tail_stays e = new (inward a can).0 (inward a can).1.below (inr refl) (inl ((inward_ends a can).0 ∙ e))

      stays : (r : ℕ) → r < sides o → Ends o r p → Rim o k r → Dec (r ≡ s) → OnRim o (peel k s) p
      stays r l e h (no f) = (r, l, e, (rim_iff o (peel k s) r).0 ((rim_after a can r l).1 (inl ((rim_iff o k r).1 h, f))))
      stays r l (inl e) h (yes z) = tail_stays (sym (ap (tail o) z) ∙ e)
      stays r l (inr e) h (yes z) = head_stays (sym (ap (head o) z) ∙ e)

      back : (on_rim o k p ≡ true) ⊎ (eqb p (apex o s) ≡ true) → OnRim o (peel k s) p
      back (inl e) = let (r, l, c, h) = (on_rim_iff o k p).0 e in stays r l c h (ℕ_discrete r s)
      back (inr e) = new (outward a can).0 (outward a can).1.below (inl refl) (inl ((outward_ends a can).0 ∙ sym (eqb_iff.0 e)))
