-- Between two directions of a ray, the crossings of a way from a to b that does not pass through the ray's start differ by whether a and b lie in
-- the sector from the one direction to the other. Assumes nothing.
use mathlib.Core.Path.{◌≡◌, refl, sym, ◌∙◌, ap, ap₂}
use mathlib.Core.Logic.{◌⊎◌, inl, inr}
use mathlib.Core.List.{List, [], ◌∷◌}
use Prim.Native.Nat.{ℕ}
use lib.IntN.{ℤ, pos, negsuc, ◌+ℤ◌, ◌-ℤ◌, ◌*ℤ◌, *ℤ_comm}
use Rattle.laws.proofs.Solve.{Ex, v, k, ◌:+◌, ◌:-◌, ◌:*◌, solve}
use Rattle.sheet.specs.Plane.{Point, dx, dy, turn}
use Rattle.sheet.proofs.Sign.{loose, strict, exactly, Pos, Non, Sign, above, null, under, sign, opp, weak, pos_is, non_is, either, less_out, Up, At, ◌·◌, ◌⊗◌, ◌⊕◌, ◌⊙◌, lax, clash}
use Rattle.sheet.proofs.Cross.{cross_e, turn_swap}
use Rattle.sheet.proofs.Ray.{level, cross, cross_anti}
use Rattle.sheet.proofs.Crossed.{high, low, enters, passes}
use Rattle.sheet.proofs.Line.{less}
use Rattle.sheet.proofs.Facing.{dot, dot_own}

abbrev minus : ℕ → Ex
minus i = k (pos 0) :- v i

module _ (p : Point) where
  -- p does not lie on the way from a to b, the ends counted
  abbrev pub Off : Point → Point → Type 0
  Off a b = turn p a b ≡ pos 0 → Non (opp (dot p a b)) → ⊥

  -- ---- one direction
  module _ (wx wy : ℤ) where
    abbrev L : Point → ℤ
    L q = level p wx wy q

    spun : (a b : Point) → dot p b b *ℤ L a ≡ L b *ℤ dot p a b -ℤ turn p a b *ℤ (wx *ℤ dx p b +ℤ wy *ℤ dy p b)
    unfolding turn level
    spun a b =
        solve ((v 2 :* v 2 :+ v 3 :* v 3) :* cross_e 4 0) (cross_e 4 2 :* (v 0 :* v 2 :+ v 1 :* v 3) :- cross_e 0 2 :* (v 4 :* v 2 :+ v 5 :* v 3))
        (dx p a ∷ dy p a ∷ dx p b ∷ dy p b ∷ wx ∷ wy ∷ []) tt

    -- a way across the ray's line that does not pass through p has p on its left or on its right
    aside : (a b : Point) → Off a b → Non (opp (L a)) → Pos (L b) → turn p a b ≡ pos 0 → ⊥
    aside a b off x y e = step (either (dot p a b))
      where
        step : Pos (dot p a b) ⊎ Non (opp (dot p a b)) → ⊥
        step (inl d) =
            clash {ρ = L a ∷ L b ∷ dot p a b ∷ dot p b b ∷ turn p a b ∷ (wx *ℤ dx p b +ℤ wy *ℤ dy p b) ∷ []} (strict (v 1) y · strict (v 2) d)
            (loose (v 3) (dot_own p b) ⊗ loose (minus 0) x ⊕ k (pos 1) ⊙ exactly (v 3 :* v 0 :- (v 1 :* v 2 :- v 4 :* v 5)) (less_out (spun a b)) ⊕ minus 5 ⊙ exactly (v 4) e) tt
        step (inr d) = off e d

  off_back : (a b : Point) → Off a b → Off b a
  off_back a b off e d = off (turn_swap p a b ∙ ap opp e) (non_is (ap opp (ap₂ ◌+ℤ◌ (*ℤ_comm (dx p b) (dx p a)) (*ℤ_comm (dy p b) (dy p a)))) d)

  -- ---- from direction u to direction v, less than a half turn to the left
  module _ (ux uy vx vy : ℤ) (left : Pos (ux *ℤ vy -ℤ uy *ℤ vx)) where
    abbrev Lu : Point → ℤ
    Lu q = level p ux uy q

    abbrev Lv : Point → ℤ
    Lv q = level p vx vy q

    -- in the sector, ahead of it, opposite to it, behind it
    data Spot (q : Point) : Type 0 where
      within : Pos (Lu q) → Non (opp (Lv q)) → Spot q
      ahead : Pos (Lu q) → Pos (Lv q) → Spot q
      across : Non (opp (Lu q)) → Pos (Lv q) → Spot q
      behind : Non (opp (Lu q)) → Non (opp (Lv q)) → Spot q

    spot : (q : Point) → Spot q
    spot q = step (either (Lu q)) (either (Lv q))
      where
        step : Pos (Lu q) ⊎ Non (opp (Lu q)) → Pos (Lv q) ⊎ Non (opp (Lv q)) → Spot q
        step (inl x) (inl y) = ahead x y
        step (inl x) (inr y) = within x y
        step (inr x) (inl y) = across x y
        step (inr x) (inr y) = behind x y

    abbrev mark : {q : Point} → Spot q → ℤ
    mark (within x y) = pos 1
    mark (ahead x y) = pos 0
    mark (across x y) = pos 0
    mark (behind x y) = pos 0

    -- 1 in the sector, else 0
    pub sector : Point → ℤ
    sector q = mark (spot q)

    both_levels : (a b : Point) → (ux *ℤ vy -ℤ uy *ℤ vx) *ℤ turn p a b ≡ Lu a *ℤ Lv b -ℤ Lu b *ℤ Lv a
    unfolding turn level
    both_levels a b = solve (cross_e 0 2 :* cross_e 4 6) (cross_e 0 4 :* cross_e 2 6 :- cross_e 0 6 :* cross_e 2 4) (ux ∷ uy ∷ vx ∷ vy ∷ dx p a ∷ dy p a ∷ dx p b ∷ dy p b ∷ []) tt

    module _ (a b : Point) where
      abbrev T : ℤ
      T = turn p a b

      abbrev ρ : List ℤ
      ρ = Lu a ∷ Lv a ∷ Lu b ∷ Lv b ∷ (ux *ℤ vy -ℤ uy *ℤ vx) ∷ T ∷ []

      eq : At ρ (v 4 :* v 5 :- (v 0 :* v 3 :- v 2 :* v 1))
      eq = record { at = less_out (both_levels a b) }

      left₁ : Up ρ (v 4)
      left₁ = record { up = left }

      abbrev Differs : ℤ → ℤ → Type 0
      Differs m n = cross p ux uy a b ≡ cross p vx vy a b +ℤ (n -ℤ m)

      told : (m n x y : ℤ) → cross p ux uy a b ≡ x → cross p vx vy a b ≡ y → x ≡ y +ℤ (n -ℤ m) → Differs m n
      told m n x y e f g = e ∙ g ∙ ap (λ i. i +ℤ (n -ℤ m)) (sym f)

      within_ahead : Pos (Lu a) → Non (opp (Lv a)) → Pos (Lu b) → Pos (Lv b) → Differs (pos 1) (pos 0)
      within_ahead x y z w = told (pos 1) (pos 0) (pos 0) (pos 1) (high p ux uy a b x z) (enters p vx vy a b y w (step (either T))) refl
        where
          step : Pos T ⊎ Non (opp T) → Pos T
          step (inl t) = t
          step (inr t) = clash {ρ = ρ} (strict (v 0) x · strict (v 3) w) (lax (strict (v 2) z) ⊗ loose (minus 1) y ⊕ lax left₁ ⊗ loose (minus 5) t ⊕ k (pos 1) ⊙ eq) tt

      across_ahead : Non (opp (Lu a)) → Pos (Lv a) → Pos (Lu b) → Pos (Lv b) → Differs (pos 0) (pos 0)
      across_ahead x y z w = told (pos 0) (pos 0) (pos 0) (pos 0) (passes p ux uy a b x z (step (either T))) (high p vx vy a b y w) refl
        where
          step : Pos T ⊎ Non (opp T) → Non (opp T)
          step (inl t) = clash {ρ = ρ} (left₁ · strict (v 5) t) (loose (minus 0) x ⊗ lax (strict (v 3) w) ⊕ lax (strict (v 2) z) ⊗ lax (strict (v 1) y) ⊕ less ⊙ eq) tt
          step (inr t) = t

      behind_across : Non (opp (Lu a)) → Non (opp (Lv a)) → Non (opp (Lu b)) → Pos (Lv b) → Differs (pos 0) (pos 0)
      behind_across x y z w = told (pos 0) (pos 0) (pos 0) (pos 0) (low p ux uy a b x z) (passes p vx vy a b y w (step (either T))) refl
        where
          step : Pos T ⊎ Non (opp T) → Non (opp T)
          step (inl t) = clash {ρ = ρ} (left₁ · strict (v 5) t) (loose (minus 0) x ⊗ lax (strict (v 3) w) ⊕ loose (minus 2) z ⊗ loose (minus 1) y ⊕ less ⊙ eq) tt
          step (inr t) = t

      behind_ahead : Non (opp (Lu a)) → Non (opp (Lv a)) → Pos (Lu b) → Pos (Lv b) → Differs (pos 0) (pos 0)
      behind_ahead x y z w = step (either T)
        where
          step : Pos T ⊎ Non (opp T) → Differs (pos 0) (pos 0)
          step (inl t) = told (pos 0) (pos 0) (pos 1) (pos 1) (enters p ux uy a b x z t) (enters p vx vy a b y w t) refl
          step (inr t) = told (pos 0) (pos 0) (pos 0) (pos 0) (passes p ux uy a b x z t) (passes p vx vy a b y w t) refl

      -- here the way could pass through p
      module _ (off : Off a b) where
        behind_within : Non (opp (Lu a)) → Non (opp (Lv a)) → Pos (Lu b) → Non (opp (Lv b)) → Differs (pos 0) (pos 1)
        behind_within x y z w = told (pos 0) (pos 1) (pos 1) (pos 0) (enters p ux uy a b x z (step (sign T))) (low p vx vy a b y w) refl
          where
            step : Sign T → Pos T
            step (above t) = t
            step (null e) = absurd (aside ux uy a b off x z e)
            step (under t) = clash {ρ = ρ} (left₁ · strict (minus 5) t) (loose (minus 0) x ⊗ loose (minus 3) w ⊕ lax (strict (v 2) z) ⊗ loose (minus 1) y ⊕ k (pos 1) ⊙ eq) tt

        across_within : Non (opp (Lu a)) → Pos (Lv a) → Pos (Lu b) → Non (opp (Lv b)) → Differs (pos 0) (pos 1)
        across_within x y z w = step (sign T)
          where
            falls : (c : ℤ) → cross p vx vy b a ≡ c → cross p vx vy a b ≡ opp c
            falls c e = cross_anti p vx vy a b ∙ ap opp e

            step : Sign T → Differs (pos 0) (pos 1)
            step (above t) = told (pos 0) (pos 1) (pos 1) (pos 0) (enters p ux uy a b x z t) (falls (pos 0) (passes p vx vy b a w y (weak (pos_is (turn_swap p a b) t)))) refl
            step (null e) = absurd (aside ux uy a b off x z e)
            step (under t) = told (pos 0) (pos 1) (pos 0) (negsuc 0) (passes p ux uy a b x z (weak t)) (falls (pos 1) (enters p vx vy b a w y (pos_is (sym (turn_swap p b a)) t))) refl

    -- the other way round
    back : (a b : Point) (m n : ℤ) → Differs b a n m → Differs a b m n
    back a b m n e =
        cross_anti p ux uy a b ∙ ap opp e
        ∙ solve (k (pos 0) :- (v 0 :+ (v 1 :- v 2))) (k (pos 0) :- v 0 :+ (v 2 :- v 1)) (cross p vx vy b a ∷ m ∷ n ∷ []) tt
        ∙ ap (λ z. z +ℤ (n -ℤ m)) (sym (cross_anti p vx vy a b))

    pub differs : (a b : Point) → Off a b → cross p ux uy a b ≡ cross p vx vy a b +ℤ (sector b -ℤ sector a)
    unfolding sector
    differs a b off = step (spot a) (spot b)
      where
        same : (m : ℤ) → cross p ux uy a b ≡ pos 0 → cross p vx vy a b ≡ pos 0 → Differs a b m m
        same m e f = told a b m m (pos 0) (pos 0) e f (solve (k (pos 0)) (k (pos 0) :+ (v 0 :- v 0)) (m ∷ []) tt)

        step : (x : Spot a) (y : Spot b) → Differs a b (mark x) (mark y)
        step (within x y) (within z w) = same (pos 1) (high p ux uy a b x z) (low p vx vy a b y w)
        step (within x y) (ahead z w) = within_ahead a b x y z w
        step (within x y) (across z w) = back a b (pos 1) (pos 0) (across_within b a (off_back a b off) z w x y)
        step (within x y) (behind z w) = back a b (pos 1) (pos 0) (behind_within b a (off_back a b off) z w x y)
        step (ahead x y) (within z w) = back a b (pos 0) (pos 1) (within_ahead b a z w x y)
        step (ahead x y) (ahead z w) = same (pos 0) (high p ux uy a b x z) (high p vx vy a b y w)
        step (ahead x y) (across z w) = back a b (pos 0) (pos 0) (across_ahead b a z w x y)
        step (ahead x y) (behind z w) = back a b (pos 0) (pos 0) (behind_ahead b a z w x y)
        step (across x y) (within z w) = across_within a b off x y z w
        step (across x y) (ahead z w) = across_ahead a b x y z w
        step (across x y) (across z w) = same (pos 0) (low p ux uy a b x z) (high p vx vy a b y w)
        step (across x y) (behind z w) = back a b (pos 0) (pos 0) (behind_across b a z w x y)
        step (behind x y) (within z w) = behind_within a b off x y z w
        step (behind x y) (ahead z w) = behind_ahead a b x y z w
        step (behind x y) (across z w) = behind_across a b x y z w
        step (behind x y) (behind z w) = same (pos 0) (low p ux uy a b x z) (low p vx vy a b y w)
