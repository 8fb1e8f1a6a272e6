-- In an unambiguous office only its own corners lie on a triangle's circle. Assumes nothing.
use mathlib.Core.Path.{◌≡◌, refl, sym, ap, ap₂, ◌∙◌}
use mathlib.Core.Bool.{Bool, true, false, not, ◌&&◌}
use mathlib.Core.Logic.{◌⊎◌, inl, inr}
use mathlib.Core.List.{List, [], ◌∷◌}
use Prim.Native.Nat.{ℕ, ◌/◌, ◌<◌}
use lib.IntN.{ℤ, pos, negsuc}
use Rattle.laws.proofs.Test.{false_iff, not_iff, and_iff}
use Rattle.laws.proofs.Solve.{v, k, ◌:+◌, ◌:-◌, ◌:*◌}
use Rattle.sheet.specs.Plane.{Point, turn, circle}
use Rattle.sheet.specs.Office.{Office, points, sides, point, tail, head, apex}
use Rattle.sheet.specs.Unambiguous.{Unambiguous}
use Rattle.sheet.proofs.Sign.{exactly, loose, strict, Pos, Non, opp, non_is, non_zero, twice, exact, both, either, not_more, ◌·◌, ◌⊗◌, ◌⊕◌, lax, ◌⊙◌, clash}
use Rattle.sheet.proofs.Cross.{circle_cycle, beyond}
use Rattle.sheet.proofs.Side.{triangle_below}
use Rattle.sheet.proofs.Tiling.{Tiling, Even, even_at, even_of, at_side}
use Rattle.sheet.proofs.Plus.{least, least_non, non_least}
use Rattle.sheet.proofs.Spread.{Spreads}
use Rattle.sheet.proofs.Cavity.{Local, round, over}
use Rattle.sheet.proofs.Global.{none_of}
use Rattle.sheet.proofs.Fan.{One, one, is_one, one_is, one_cycle}

-- if d does not lie inside the circle of a b c, then what lies in or on it beyond the side a b lies in or on the circle of b a d
touches_over : (a b c d p : Point) → Pos (turn a b c) → Pos (turn b a d) → Non (opp (circle a b c d)) → Non (opp (turn p a b)) → Non (circle a b c p) → Non (circle b a d p)
touches_over a b c d p t u e r h = step (either (opp (circle b a d p)))
  where
    ρ : List ℤ
    ρ = circle a b c p ∷ circle b a d p ∷ turn a b c ∷ turn b a d ∷ circle a b c d ∷ turn p a b ∷ []

    step : Pos (opp (circle b a d p)) ⊎ Non (opp (opp (circle b a d p))) → Non (circle b a d p)
    step (inr g) = non_is (sym (twice _)) g
    step (inl g) =
        clash {ρ = ρ} (strict (k (pos 0) :- v 1) g · strict (v 2) t) (loose (v 0) h ⊗ lax (strict (v 3) u) ⊕ loose (k (pos 0) :- v 4) e ⊗ loose (k (pos 0) :- v 5) r
        ⊕ k (negsuc 0) ⊙ exactly (v 0 :* v 3 :- v 1 :* v 2 :+ v 4 :* v 5) (beyond p a b c d)) tt

module _ (o : Office) (τ : Tiling o) (local : Local o) (clear : Unambiguous o) (i : ℕ) (li : i < points o) where
  -- i lies in or on the circle, and is no corner
  abbrev touch : ℕ → ℕ → ℕ → Bool
  touch a b c = least (round o i a b c) && not (one i a b c)

  abbrev touched : ℕ → Bool
  touched = at_side o touch

  touched_even : Even touched
  touched_even = even_of o touch (λ a b c. ap₂ (λ z t. least z && not t) (circle_cycle (point o a) (point o b) (point o c) (point o i)) (one_cycle i a b c))

  touched_spreads : Spreads o i touched
  touched_spreads s r l lr (x, y) h n =
      let (e, f) = (and_iff {a = least (at_side o (round o i) s)}).0 h in
      let g = least_non (at_side o (round o i) s) e in
      and_iff.1 (non_least (at_side o (round o i) r) (over o τ local i Non touches_over s r l lr (x, y) g n), not_iff.1 (λ t. step g (not_iff.0 f) (is_one i t)))
    where
      step : Non (at_side o (round o i) s) → (one i (tail o s) (head o s) (apex o s) ≡ true → ⊥) → One i (tail o r) (head o r) (apex o r) → ⊥
      step g f (inl e) = f (one_is i (inr (inl (sym x ∙ e))))
      step g f (inr (inl e)) = f (one_is i (inl (sym y ∙ e)))
      step g f (inr (inr e)) = clear s r l lr (x, y) (ap at e ∙ exact g (λ j. both j (non_is (ap (λ q. opp (at q)) e) (not_more _ (local s r l lr (x, y))))))
        where
          at : ℕ → ℤ
          at q = at_side o (round o q) s

  pub on_corner : (s : ℕ) → s < sides o → at_side o (round o i) s ≡ pos 0 → One i (tail o s) (head o s) (apex o s)
  on_corner s l e = step (one i (tail o s) (head o s) (apex o s)) refl
    where
      off : (z : ℕ) → z < sides o → tail o z ≡ i → touched z ≡ false
      off z lz f = false_iff.1 (λ t. not_iff.0 ((and_iff {a = least (at_side o (round o i) z)}).0 t).1 (one_is i (inl f)))

      step : (b : Bool) → one i (tail o s) (head o s) (apex o s) ≡ b → One i (tail o s) (head o s) (apex o s)
      step true f = is_one i f
      step false f =
          absurd (none_of o τ i li touched touched_even touched_spreads off (s / 3) (triangle_below (sides o) s τ.whole l)
          (sym (even_at touched touched_even s) ∙ and_iff.1 (non_least (at_side o (round o i) s) (non_zero e), ap not f)))
