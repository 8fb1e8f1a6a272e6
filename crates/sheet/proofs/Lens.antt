-- Two circles through p, and a ray from p between b and c on the one and between u and w on the other: where neither holds the other's
-- points, the circles are one. Assumes nothing.
use mathlib.Core.Path.{◌≡◌, ap, ◌∙◌}
use mathlib.Core.List.{List, [], ◌∷◌}
use lib.IntN.{ℤ, pos, ◌+ℤ◌, ◌-ℤ◌, ◌*ℤ◌}
use Rattle.laws.proofs.Solve.{v, k, ◌:+◌, ◌:-◌, ◌:*◌, solve}
use Rattle.sheet.specs.Plane.{Point, dx, dy, turn, squared, circle}
use Rattle.sheet.proofs.Sign.{exactly, loose, strict, Pos, Non, opp, twice, exact, ◌·◌, ◌⊗◌, ◌⊕◌, lax, ◌⊙◌, clash}
use Rattle.sheet.proofs.Cross.{cross_e, round_e, circle_swap}
use Rattle.sheet.proofs.Ray.{level}

module _ (p : Point) (wx wy : ℤ) (b c u w : Point) where
  abbrev L : Point → ℤ
  L q = level p wx wy q

  seen : L u *ℤ circle w b c p -ℤ L w *ℤ circle u b c p +ℤ (L b *ℤ circle c u w p -ℤ L c *ℤ circle b u w p) ≡ pos 0
  unfolding circle squared turn level
  seen =
      solve (cross_e 0 6 :* round_e 8 2 4 :- cross_e 0 8 :* round_e 6 2 4 :+ (cross_e 0 2 :* round_e 4 6 8 :- cross_e 0 4 :* round_e 2 6 8)) (k (pos 0))
      (wx ∷ wy ∷ dx p b ∷ dy p b ∷ dx p c ∷ dy p c ∷ dx p u ∷ dy p u ∷ dx p w ∷ dy p w ∷ []) tt

  -- the difference of the two circles, by their areas, is linear, and 0 at p
  balance : L w *ℤ circle p b c u -ℤ L u *ℤ circle p b c w +ℤ (L c *ℤ circle p u w b -ℤ L b *ℤ circle p u w c) ≡ pos 0
  balance =
      rw (circle_swap p b c u, circle_swap p b c w, circle_swap p u w b, circle_swap p u w c)
      (solve (v 3 :* (k (pos 0) :- v 4) :- v 2 :* (k (pos 0) :- v 5) :+ (v 1 :* (k (pos 0) :- v 6) :- v 0 :* (k (pos 0) :- v 7))) (v 2 :* v 5 :- v 3 :* v 4 :+ (v 0 :* v 7 :- v 1 :* v 6))
      (L b ∷ L c ∷ L u ∷ L w ∷ circle u b c p ∷ circle w b c p ∷ circle b u w p ∷ circle c u w p ∷ []) tt ∙ seen)

  module _ (lb : Non (opp (L b))) (lc : Pos (L c)) (lu : Pos (opp (L u))) (lw : Pos (L w))
      (fu : Non (opp (circle p b c u))) (fw : Non (opp (circle p b c w))) (fb : Non (opp (circle p u w b))) (fc : Non (opp (circle p u w c))) where
    abbrev ρ : List ℤ
    ρ = circle p b c u ∷ circle p b c w ∷ circle p u w b ∷ circle p u w c ∷ L b ∷ L c ∷ L u ∷ L w ∷ []

    nought : {z : ℤ} → opp z ≡ pos 0 → z ≡ pos 0
    nought {z} e = twice z ∙ ap opp e

    on_u : circle p b c u ≡ pos 0
    on_u = nought (exact fu (λ h.
        clash {ρ = ρ} (strict (k (pos 0) :- v 0) h · strict (v 7) lw)
        (loose (k (pos 0) :- v 1) fw ⊗ lax (strict (k (pos 0) :- v 6) lu) ⊕ loose (k (pos 0) :- v 2) fb ⊗ lax (strict (v 5) lc) ⊕ loose (k (pos 0) :- v 3) fc ⊗ loose (k (pos 0) :- v 4) lb
        ⊕ k (pos 1) ⊙ exactly (v 7 :* v 0 :- v 6 :* v 1 :+ (v 5 :* v 2 :- v 4 :* v 3)) balance) tt))

    on_w : circle p b c w ≡ pos 0
    on_w = nought (exact fw (λ h.
        clash {ρ = ρ} (strict (k (pos 0) :- v 1) h · strict (k (pos 0) :- v 6) lu)
        (loose (k (pos 0) :- v 0) fu ⊗ lax (strict (v 7) lw) ⊕ loose (k (pos 0) :- v 2) fb ⊗ lax (strict (v 5) lc) ⊕ loose (k (pos 0) :- v 3) fc ⊗ loose (k (pos 0) :- v 4) lb
        ⊕ k (pos 1) ⊙ exactly (v 7 :* v 0 :- v 6 :* v 1 :+ (v 5 :* v 2 :- v 4 :* v 3)) balance) tt))

    -- u and w lie on the circle of p b c
    pub both_on : (circle p b c u ≡ pos 0) × (circle p b c w ≡ pos 0)
    both_on = (on_u, on_w)
