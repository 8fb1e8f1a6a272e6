-- A triangle that a ray leaves has the start of the ray in it, edges counted. Assumes nothing.
use mathlib.Core.Path.{◌≡◌, refl, sym, ◌∙◌, ap₂}
use mathlib.Core.Logic.{◌⊎◌, inl, inr}
use mathlib.Core.List.{List, [], ◌∷◌}
use Prim.Native.Nat.{ℕ}
use lib.IntN.{ℤ, pos, ◌+ℤ◌, ◌-ℤ◌, ◌*ℤ◌}
use Rattle.laws.proofs.Solve.{Ex, v, k, ◌:+◌, ◌:-◌, ◌:*◌, solve}
use Rattle.sheet.specs.Plane.{Point, dx, dy, turn}
use Rattle.sheet.proofs.Sign.{loose, strict, Pos, Non, opp, weak, twice, pos_is, non_is, non_add, pos_less, either, both, At, ◌·◌, ◌⊗◌, ◌⊕◌, ◌⊙◌, lax, clash}
use Rattle.sheet.proofs.Cross.{turn_swap}
use Rattle.sheet.proofs.Ray.{level, plucker, cross, cross_view, cross_anti, cross_enters}
use Rattle.sheet.proofs.Line.{less}
use Rattle.sheet.proofs.Wind.{enters_of}

abbrev minus : ℕ → Ex
minus i = k (pos 0) :- v i

-- right of none of its sides
abbrev pub Covers : Point → Point → Point → Point → Type 0
Covers p a b c = Non (turn p a b) × Non (turn p b c) × Non (turn p c a)

module _ (p : Point) (wx wy : ℤ) where
  abbrev L : Point → ℤ
  L q = level p wx wy q

  abbrev C : Point → Point → ℤ
  C = cross p wx wy

  abbrev pub leaves : Point → Point → Point → ℤ
  leaves a b c = C a b +ℤ C b c +ℤ C c a

  leaves_turn : (a b c : Point) → leaves a b c ≡ leaves b c a
  leaves_turn a b c = solve (v 0 :+ v 1 :+ v 2) (v 1 :+ v 2 :+ v 0) (C a b ∷ C b c ∷ C c a ∷ []) tt

  -- ---- one side
  -- one that starts left of the ray, or does not end there
  not_in : (a b : Point) → Pos (L a) ⊎ Non (opp (L b)) → Non (opp (C a b))
  not_in a b h = cross_view p wx wy a b (λ z. Non (opp z)) (λ e. absurd (step h e.from e.to)) (λ l. record { by = 1; is = refl }) (record { by = 0; is = refl })
    where
      step : Pos (L a) ⊎ Non (opp (L b)) → Non (opp (L a)) → Pos (L b) → ⊥
      step (inl x) f t = both x f
      step (inr x) f t = both t x

  at_most_one : (a b : Point) → Non (pos 1 -ℤ C a b)
  at_most_one a b = cross_view p wx wy a b (λ z. Non (pos 1 -ℤ z)) (λ e. record { by = 0; is = refl }) (λ l. record { by = 2; is = refl }) (record { by = 1; is = refl })

  -- one that comes back across the ray's line, and not across the ray
  comes_back : (a b : Point) → Pos (L a) → Non (opp (L b)) → Non (C a b) → Non (turn p a b)
  comes_back a b x y h = step (either (opp (turn p a b)))
    where
      step : Pos (opp (turn p a b)) ⊎ Non (opp (opp (turn p a b))) → Non (turn p a b)
      step (inl t) =
          let e = cross_enters p wx wy b a (record { from = y; to = x; left = pos_is (sym (turn_swap p b a)) t }) in
          both (record { by = 0; is = e }) (non_is (cross_anti p wx wy a b) h)
      step (inr t) = non_is (sym (twice (turn p a b))) t

  -- ---- three sides
  none : (x y z : ℤ) → Non (opp x) → Non (opp y) → Non (opp z) → Pos (x +ℤ y +ℤ z) → ⊥
  none x y z f g h s = clash {ρ = x ∷ y ∷ z ∷ []} (strict (v 0 :+ v 1 :+ v 2) s) (loose (minus 0) f ⊕ loose (minus 1) g ⊕ loose (minus 2) h) tt

  all_low : (a b c : Point) → Non (opp (L a)) → Non (opp (L b)) → Non (opp (L c)) → Pos (leaves a b c) → ⊥
  all_low a b c x y z = none (C a b) (C b c) (C c a) (not_in a b (inr y)) (not_in b c (inr z)) (not_in c a (inr x))

  all_high : (a b c : Point) → Pos (L a) → Pos (L b) → Pos (L c) → Pos (leaves a b c) → ⊥
  all_high a b c x y z = none (C a b) (C b c) (C c a) (not_in a b (inl x)) (not_in b c (inl y)) (not_in c a (inl z))

  -- a side from right to left, and another back
  module _ (a b c : Point) (x : Non (opp (L a))) (y : Pos (L b)) (s : Pos (leaves a b c)) where
    abbrev ρ : List ℤ
    ρ = turn p a b ∷ turn p b c ∷ turn p c a ∷ L a ∷ L b ∷ L c ∷ []

    pl : At ρ (v 0 :* v 5 :+ v 1 :* v 3 :+ v 2 :* v 4)
    pl = record { at = plucker p wx wy a b c }

    out_b : Non (opp (C b c))
    out_b = not_in b c (inl y)

    out_c : Non (opp (C c a))
    out_c = not_in c a (inr x)

    first : Pos (turn p a b)
    first = step (either (C a b))
      where
        step : Pos (C a b) ⊎ Non (opp (C a b)) → Pos (turn p a b)
        step (inl e) = (enters_of p wx wy a b e).left
        step (inr e) = absurd (none (C a b) (C b c) (C c a) e out_b out_c s)

    -- neither of the others is left through
    rest_b : Non (C b c)
    rest_b = non_is (solve (v 0 :+ v 1 :+ v 2 :- k (pos 1) :+ (k (pos 1) :- v 0) :+ (k (pos 0) :- v 2)) (v 1) (C a b ∷ C b c ∷ C c a ∷ []) tt) (non_add (non_add (pos_less s) (at_most_one a b)) out_c)

    rest_c : Non (C c a)
    rest_c = non_is (solve (v 0 :+ v 1 :+ v 2 :- k (pos 1) :+ (k (pos 1) :- v 0) :+ (k (pos 0) :- v 1)) (v 2) (C a b ∷ C b c ∷ C c a ∷ []) tt) (non_add (non_add (pos_less s) (at_most_one a b)) out_b)

    rising : Pos (L c) ⊎ Non (opp (L c)) → Covers p a b c
    rising (inl z) = let w = comes_back c a z x rest_c in (weak first, step w (either (opp (turn p b c))), w)
      where
        step : Non (turn p c a) → Pos (opp (turn p b c)) ⊎ Non (opp (opp (turn p b c))) → Non (turn p b c)
        step w (inl t) = clash {ρ = ρ} (strict (v 0) first · strict (v 5) z) (loose (v 2) w ⊗ lax (strict (v 4) y) ⊕ lax (strict (minus 1) t) ⊗ loose (minus 3) x ⊕ less ⊙ pl) tt
        step w (inr t) = non_is (sym (twice (turn p b c))) t
    rising (inr z) = let w = comes_back b c y z rest_b in (weak first, w, step w (either (opp (turn p c a))))
      where
        step : Non (turn p b c) → Pos (opp (turn p c a)) ⊎ Non (opp (opp (turn p c a))) → Non (turn p c a)
        step w (inl t) = clash {ρ = ρ} (strict (minus 2) t · strict (v 4) y) (lax (strict (v 0) first) ⊗ loose (minus 5) z ⊕ loose (v 1) w ⊗ loose (minus 3) x ⊕ k (pos 1) ⊙ pl) tt
        step w (inr t) = non_is (sym (twice (turn p c a))) t

  -- a triangle that a ray leaves has the point in it
  pub left_covers : (a b c : Point) → Pos (leaves a b c) → Covers p a b c
  left_covers a b c s = step (either (L a)) (either (L b)) (either (L c))
    where
      from_b : Non (opp (L b)) → Pos (L c) → Covers p a b c
      from_b y z = let (u, w, t) = rising b c a y z (pos_is (leaves_turn a b c) s) (either (L a)) in (t, u, w)

      from_c : Non (opp (L c)) → Pos (L a) → Covers p a b c
      from_c z x = let (u, w, t) = rising c a b z x (pos_is (leaves_turn a b c ∙ leaves_turn b c a) s) (either (L b)) in (w, t, u)

      step : Pos (L a) ⊎ Non (opp (L a)) → Pos (L b) ⊎ Non (opp (L b)) → Pos (L c) ⊎ Non (opp (L c)) → Covers p a b c
      step (inr x) (inl y) z = rising a b c x y s z
      step (inl x) (inl y) (inl z) = absurd (all_high a b c x y z s)
      step (inr x) (inr y) (inr z) = absurd (all_low a b c x y z s)
      step (inl x) (inr y) (inl z) = from_b y z
      step (inr x) (inr y) (inl z) = from_b y z
      step (inl x) (inl y) (inr z) = from_c z x
      step (inl x) (inr y) (inr z) = from_c z x

  -- it goes somewhere
  pub moves : (a b c : Point) → Pos (leaves a b c) → wx ≡ pos 0 → wy ≡ pos 0 → ⊥
  unfolding level
  moves a b c s e d = all_low a b c (level_zero a) (level_zero b) (level_zero c) s
    where
      level_zero : (q : Point) → Non (opp (L q))
      level_zero q = record { by = 0; is = ap₂ (λ i j. opp (i *ℤ dy p q -ℤ j *ℤ dx p q)) e d ∙ solve (k (pos 0) :- (k (pos 0) :* v 0 :- k (pos 0) :* v 1)) (k (pos 0)) (dy p q ∷ dx p q ∷ []) tt }
