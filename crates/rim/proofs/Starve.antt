-- No point starves: after a peel a kept triangle holds it still. Assumes nothing.
use mathlib.Core.Path.{sym, ap, ◌∙◌}
use mathlib.Core.Logic.{inl, inr}
use mathlib.Core.List.{List}
use Prim.Native.Nat.{ℕ, ◌/◌}
use native.Mathlib.Decide.{ℕ_discrete}
use lib.ListN.{get_or}
use Rattle.sheet.specs.Office.{Office, sides, tail, next}
use Rattle.sheet.proofs.Side.{next_below, next_triangle, OneOf, same_triangle}
use Rattle.sheet.specs.Acceptable.{Acceptable}
use Rattle.rim.specs.Peel.{peel}
use Rattle.rim.proofs.Marks.{Held}
use Rattle.rim.proofs.OnePeel.{Peelable, kept_iff, outward, inward, outward_ends, inward_ends}

module _ {o : Office} {k : List ℕ} {s : ℕ} (a : Acceptable o) (can : Peelable o k s) where
  pub held_after : (p : ℕ) → Held o k p → Held o (peel k s) p
  held_after p (r, l, c, e) = elim (ℕ_discrete (r / 3) (s / 3)) [
    | no f ↦ (r, l, (kept_iff a can r).1 (c, f), e)
    | yes f ↦ held (same_triangle s r f)
  ]
    where
      b : ℕ
      b = (outward a can).0

      held : OneOf s r → Held o (peel k s) p
      held (inl z) = ((inward a can).0, (inward a can).1.below, (inward a can).1.kept, (inward_ends a can).0 ∙ sym (ap (tail o) z) ∙ e)
      held (inr (inl z)) = (next b, next_below (sides o) b a.corners_bound.1 (outward a can).1.below, ap (λ t. get_or (peel k s) t 0) (next_triangle b) ∙ (outward a can).1.kept, (outward_ends a can).1 ∙ sym (ap (tail o) z) ∙ e)
      held (inr (inr z)) = (b, (outward a can).1.below, (outward a can).1.kept, (outward_ends a can).0 ∙ sym (ap (tail o) z) ∙ e)
