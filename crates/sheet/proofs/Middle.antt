-- From a point in a triangle, edges counted, there is a direction in which a ray leaves it: towards the middle, and from the middle itself to the
-- right. Assumes nothing.
use mathlib.Core.Path.{◌≡◌, ◌∙◌, ap}
use mathlib.Core.Logic.{◌⊎◌, inl, inr}
use mathlib.Core.List.{List, [], ◌∷◌}
use Prim.Native.Nat.{ℕ, suc, ◌+◌}
use lib.IntN.{ℤ, pos, ◌+ℤ◌, ◌-ℤ◌}
use Rattle.laws.proofs.Solve.{Ex, v, k, ◌:+◌, ◌:-◌, ◌:*◌, solve}
use Rattle.sheet.specs.Plane.{Point, spot, dx, dy, turn}
use Rattle.sheet.proofs.Sign.{loose, strict, exactly, Pos, Non, opp, pos_is, non_is, pos-add, add-pos, non_add, less_out, either, ◌⊕◌, ◌⊙◌, lax, clash}
use Rattle.sheet.proofs.Cross.{cross_e}
use Rattle.sheet.proofs.Ray.{level, cross}
use Rattle.sheet.proofs.Line.{less}
use Rattle.sheet.proofs.Apart.{forth, upward, left_through}
use Rattle.sheet.proofs.Pierced.{Covers, leaves}

abbrev minus : ℕ → Ex
minus i = k (pos 0) :- v i

module _ (p a b c : Point) (h : Covers p a b c) (area : Pos (turn p a b +ℤ turn p b c +ℤ turn p c a)) where
  abbrev wx : ℤ
  wx = dx p a +ℤ dx p b +ℤ dx p c

  abbrev wy : ℤ
  wy = dy p a +ℤ dy p b +ℤ dy p c

  abbrev M : Point → ℤ
  M q = level p wx wy q

  abbrev middle_e : ℕ → Ex
  middle_e i = (v 0 :+ v 2 :+ v 4) :* v (suc i) :- (v 1 :+ v 3 :+ v 5) :* v i

  abbrev vectors : List ℤ
  vectors = dx p a ∷ dy p a ∷ dx p b ∷ dy p b ∷ dx p c ∷ dy p c ∷ []

  level_a : M a ≡ turn p c a -ℤ turn p a b
  unfolding turn level
  level_a = solve (middle_e 0) (cross_e 4 0 :- cross_e 0 2) vectors tt

  level_b : M b ≡ turn p a b -ℤ turn p b c
  unfolding turn level
  level_b = solve (middle_e 2) (cross_e 0 2 :- cross_e 2 4) vectors tt

  level_c : M c ≡ turn p b c -ℤ turn p c a
  unfolding turn level
  level_c = solve (middle_e 4) (cross_e 2 4 :- cross_e 4 0) vectors tt

  -- some direction in which a ray leaves the triangle
  abbrev pub Aim : Type 0
  Aim = (ux : ℤ) × (uy : ℤ) × Pos (leaves p ux uy a b c)

  more : (x y z : ℤ) → Non y → z ≡ x -ℤ y → Pos z → Pos x
  more x y z n e g = pos_is (solve (v 0 :- v 1 :+ v 1) (v 0) (x ∷ y ∷ []) tt) (pos-add (pos_is e g) n)

  pub aim : Aim
  unfolding level
  aim = step (either (M a)) (either (M b)) (either (M c))
    where
      x : Non (cross p wx wy a b)
      x = forth p wx wy a b h.0

      y : Non (cross p wx wy b c)
      y = forth p wx wy b c h.1

      z : Non (cross p wx wy c a)
      z = forth p wx wy c a h.2

      from_b : Non (opp (M b)) → Pos (M c) → Aim
      from_b f t = (wx, wy, pos-add (add-pos x (upward p wx wy b c f t (more (turn p b c) (turn p c a) (M c) h.2 level_c t))) z)

      from_c : Non (opp (M c)) → Pos (M a) → Aim
      from_c f t = (wx, wy, add-pos (non_add x y) (upward p wx wy c a f t (more (turn p c a) (turn p a b) (M a) h.0 level_a t)))

      -- the middle itself is strictly inside, and to the right is as good as any
      middle : Non (opp (M a)) → Non (opp (M b)) → Non (opp (M c)) → Aim
      middle f g l =
          let ab : Pos (turn p a b) = (large (turn p a b) (turn p b c) (turn p c a) area (non_is (ap opp level_a) f) (non_is (ap opp level_c) l)) in
          let bc : Pos (turn p b c) = (large (turn p b c) (turn p c a) (turn p a b) (pos_is (turned (turn p a b) (turn p b c) (turn p c a)) area) (non_is (ap opp level_b) g) (non_is (ap opp level_a) f)) in
          let ca : Pos (turn p c a) = (large (turn p c a) (turn p a b) (turn p b c) (pos_is (turned (turn p a b) (turn p b c) (turn p c a) ∙ turned (turn p b c) (turn p c a) (turn p a b)) area) (non_is (ap opp level_c) l) (non_is (ap opp level_b) g)) in
          (pos 1, pos 0, left_through p (pos 1) (pos 0) (spot p.x (p.y + 1)) a b c (record { by = 0; is = solve (k (pos 1) :* (v 0 :+ k (pos 1) :- v 0) :- k (pos 0) :* v 1) (k (pos 1)) (pos p.y ∷ dx p p ∷ []) tt }) ab bc ca)
        where
          turned : (i j l : ℤ) → i +ℤ j +ℤ l ≡ j +ℤ l +ℤ i
          turned i j l = solve (v 0 :+ v 1 :+ v 2) (v 1 :+ v 2 :+ v 0) (i ∷ j ∷ l ∷ []) tt

          -- of three numbers with a sum above 0, the largest is
          large : (i j l : ℤ) → Pos (i +ℤ j +ℤ l) → Non (opp (l -ℤ i)) → Non (opp (j -ℤ l)) → Pos i
          large i j l s f g = pick (either i)
            where
              pick : Pos i ⊎ Non (opp i) → Pos i
              pick (inl t) = t
              pick (inr t) = clash {ρ = i ∷ j ∷ l ∷ []} (strict (v 0 :+ v 1 :+ v 2) s) (loose (minus 0) t ⊕ loose (minus 0) t ⊕ loose (minus 0) t ⊕ loose (k (pos 0) :- (v 2 :- v 0)) f ⊕ loose (k (pos 0) :- (v 2 :- v 0)) f ⊕ loose (k (pos 0) :- (v 1 :- v 2)) g) tt

      rises_nowhere : Pos (M a) → Pos (M b) → Pos (M c) → ⊥
      rises_nowhere f g l =
          clash {ρ = M a ∷ M b ∷ M c ∷ turn p a b ∷ turn p b c ∷ turn p c a ∷ []} (strict (v 0) f)
          (lax (strict (v 1) g) ⊕ lax (strict (v 2) l) ⊕ less ⊙ exactly (v 0 :- (v 5 :- v 3)) (less_out level_a) ⊕ less ⊙ exactly (v 1 :- (v 3 :- v 4)) (less_out level_b) ⊕ less ⊙ exactly (v 2 :- (v 4 :- v 5)) (less_out level_c)) tt

      step : Pos (M a) ⊎ Non (opp (M a)) → Pos (M b) ⊎ Non (opp (M b)) → Pos (M c) ⊎ Non (opp (M c)) → Aim
      step (inr f) (inl g) l = (wx, wy, pos-add (pos-add (upward p wx wy a b f g (more (turn p a b) (turn p b c) (M b) h.1 level_b g)) y) z)
      step (inl f) (inl g) (inl l) = absurd (rises_nowhere f g l)
      step (inr f) (inr g) (inr l) = middle f g l
      step (inl f) (inr g) (inl l) = from_b g l
      step (inr f) (inr g) (inl l) = from_b g l
      step (inl f) (inl g) (inr l) = from_c l f
      step (inl f) (inr g) (inr l) = from_c l f
