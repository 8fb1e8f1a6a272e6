-- A triangle with area has three corners. Assumes nothing.
use mathlib.Core.Path.{◌≡◌, sym, ap, subst, ◌∙◌}
use mathlib.Core.Logic.{inl, inr}
use Prim.Native.Nat.{ℕ, ◌+◌, ◌*◌, ◌/◌, ◌%◌, ◌<◌}
use native.Mathlib.Omega.{arith}
use lib.IntN.{ℤ, pos}
use lib.Signed.{◌<ℤ◌}
use Rattle.laws.proofs.Whole.{ring, meet}
use Rattle.sheet.specs.Plane.{Point, turn}
use Rattle.sheet.specs.Office.{Office, sides, tail, head, apex, area, next, last}
use Rattle.sheet.specs.Acceptable.{Left}
use Rattle.sheet.proofs.Side.{Place, place, OneOf, same_triangle, head_next, head_last, next_below, last_below}

first_second : (a c : Point) → turn a a c ≡ pos 0
unfolding turn
first_second a c = simp ring (meet _ _ _ _ (omega arith))

second_third : (a b : Point) → turn a b b ≡ pos 0
unfolding turn
second_third a b = simp ring (meet _ _ _ _ (omega arith))

third_first : (a b : Point) → turn a b a ≡ pos 0
unfolding turn
third_first a b = simp ring (meet _ _ _ _ (omega arith))

not_above_zero : {z : ℤ} → pos 0 <ℤ z → z ≡ pos 0 → ⊥
not_above_zero h e = (rw e at h).lt

module _ (o : Office) (whole : sides o % 3 ≡ 0) (left : Left o) where
  pub tail_not_head : (s : ℕ) → s < sides o → tail o s ≡ head o s → ⊥
  tail_not_head s l e = step (place s)
    where
      area_zero : area o (s / 3) ≡ pos 0 → ⊥
      area_zero = not_above_zero (left (s / 3) (omega arith))

      same : (a b : ℕ) → s ≡ a → next s ≡ b → tail o a ≡ tail o b
      same a b p q = subst (λ k. tail o k ≡ tail o b) p (subst (λ k. tail o s ≡ tail o k) q e)

      step : Place s → ⊥
      step (inl h) = area_zero (rw (same (s / 3 * 3) (s / 3 * 3 + 1) h (omega arith)) (first_second _ _))
      step (inr (inl h)) = area_zero (rw (same (s / 3 * 3 + 1) (s / 3 * 3 + 2) h (omega arith)) (second_third _ _))
      step (inr (inr h)) = area_zero (rw (same (s / 3 * 3 + 2) (s / 3 * 3) h (omega arith)) (third_first _ _))

  pub head_not_apex : (s : ℕ) → s < sides o → head o s ≡ apex o s → ⊥
  head_not_apex s l e = tail_not_head (next s) (next_below (sides o) s whole l) (e ∙ sym (head_next o s))

  pub apex_not_tail : (s : ℕ) → s < sides o → apex o s ≡ tail o s → ⊥
  apex_not_tail s l e = tail_not_head (last s) (last_below (sides o) s whole l) (e ∙ sym (head_last o s))

  -- a side's reverse stands in another triangle
  pub reverse_elsewhere : (s r : ℕ) → s < sides o → tail o r ≡ head o s → head o r ≡ tail o s → r / 3 ≡ s / 3 → ⊥
  reverse_elsewhere s r l x y e = step (same_triangle s r e)
    where
      step : OneOf s r → ⊥
      step (inl h) = tail_not_head s l (sym (ap (tail o) h) ∙ x)
      step (inr (inl h)) = apex_not_tail s l (sym (ap (head o) h ∙ head_next o s) ∙ y)
      step (inr (inr h)) = head_not_apex s l (sym x ∙ ap (tail o) h)
