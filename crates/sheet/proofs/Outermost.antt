-- Where no rim point lies strictly right of a rim side, no point does. Assumes nothing.
use mathlib.Core.Path.{◌≡◌, refl, sym, ap, subst, ◌∙◌}
use mathlib.Core.Bool.{false, ◌&&◌}
use mathlib.Core.Logic.{◌⊎◌, inl, inr}
use mathlib.Core.List.{List, [], ◌∷◌}
use Prim.Native.Nat.{ℕ, ◌+◌, ◌<◌}
use native.Mathlib.Omega.{arith}
use lib.Dec.{eqb}
use lib.IntN.{ℤ, pos, negsuc, ◌+ℤ◌, ◌-ℤ◌, ◌*ℤ◌}
use Rattle.laws.proofs.Test.{eqb_iff}
use Rattle.laws.proofs.Solve.{Ex, v, k, ◌:+◌, ◌:-◌, ◌:*◌, solve}
use Rattle.sheet.specs.Plane.{Point, dx, dy, turn}
use Rattle.sheet.specs.Office.{Office, points, sides, point, tail, head, apex, last}
use Rattle.sheet.specs.Acceptable.{Reverse, Rim}
use Rattle.sheet.proofs.Sign.{Pos, Non, Sign, above, null, under, sign, opp, weak, pos_is, non_is, pos-add, pos_less, gap_pos, pos_apart, never, both, either, twice, At, strict, loose, exactly, lax, less_out, ◌·◌, ◌⊗◌, ◌⊕◌, ◌⊙◌, clash}
use Rattle.sheet.proofs.Cross.{turn_zero, turn_swap}
use Rattle.sheet.proofs.Ray.{level, plucker}
use Rattle.sheet.proofs.Tiling.{left_turn_of}
use Rattle.sheet.proofs.Cancel.{Seek, hit, miss, seek, mate, differ, and_both, both_and}
use Rattle.sheet.proofs.Plus.{plus, plus_pos, pos_plus}
use Rattle.sheet.proofs.Corner.{tail_not_head}
use Rattle.sheet.proofs.Side.{last_below, head_last}
use Rattle.sheet.specs.Quick.{Ringed, key, Convex}
use Rattle.sheet.proofs.Low.{key_single, head_below, rim_convex}
use Rattle.laws.proofs.Rise.{no_last}

-- more than any key
abbrev much : ℤ
much = pos 268435456

-- a direction that leads left of the way from a to b, and hardly off it: of two points as far left, to the one with the lower key
module _ (a b : Point) where
  abbrev wx : ℤ
  wx = much *ℤ dx a b -ℤ pos 1

  abbrev wy : ℤ
  wy = much *ℤ dy a b +ℤ pos 16384

  -- above 0 where q lies further in it than p
  abbrev lean : Point → Point → ℤ
  lean p q = level p wx wy q

  lean_is : (p q : Point) → lean p q ≡ much *ℤ (turn a b q -ℤ turn a b p) +ℤ (pos (key p) -ℤ pos (key q))
  unfolding level turn
  lean_is p q =
      solve ((k much :* (v 2 :- v 0) :- k (pos 1)) :* (v 7 :- v 5) :- (k much :* (v 3 :- v 1) :+ k (pos 16384)) :* (v 6 :- v 4))
      (k much :* ((v 2 :- v 0) :* (v 7 :- v 1) :- (v 3 :- v 1) :* (v 6 :- v 0) :- ((v 2 :- v 0) :* (v 5 :- v 1) :- (v 3 :- v 1) :* (v 4 :- v 0))) :+ (v 4 :* k (pos 16384) :+ v 5 :- (v 6 :* k (pos 16384) :+ v 7)))
      (pos a.x ∷ pos a.y ∷ pos b.x ∷ pos b.y ∷ pos p.x ∷ pos p.y ∷ pos q.x ∷ pos q.y ∷ []) tt

  lean_add : (p q r : Point) → lean p q +ℤ lean q r ≡ lean p r
  unfolding level
  lean_add p q r =
      solve (v 0 :* (v 5 :- v 3) :- v 1 :* (v 4 :- v 2) :+ (v 0 :* (v 7 :- v 5) :- v 1 :* (v 6 :- v 4))) (v 0 :* (v 7 :- v 3) :- v 1 :* (v 6 :- v 2))
      (wx ∷ wy ∷ pos p.x ∷ pos p.y ∷ pos q.x ∷ pos q.y ∷ pos r.x ∷ pos r.y ∷ []) tt

  lean_self : (p : Point) → lean p p ≡ pos 0
  unfolding level
  lean_self p = solve (v 0 :* (v 3 :- v 3) :- v 1 :* (v 2 :- v 2)) (k (pos 0)) (wx ∷ wy ∷ pos p.x ∷ pos p.y ∷ []) tt

  abbrev ρ : Point → Point → List ℤ
  ρ p q = lean p q ∷ turn a b p ∷ turn a b q ∷ pos (key p) ∷ pos (key q) ∷ []

  abbrev lean_e : Ex
  lean_e = v 0 :- (k much :* (v 2 :- v 1) :+ (v 3 :- v 4))

  key_non : (p : Point) → Non (pos (key p))
  key_non p = record { by = key p; is = refl }

  much_non : Non much
  much_non = record { by = 268435456; is = refl }

  -- level points have one key
  level_key : (p q : Point) → key p < 268435456 → key q < 268435456 → lean p q ≡ pos 0 → key p ≡ key q
  level_key p q l m e = step (sign (turn a b q -ℤ turn a b p))
    where
      is : At (ρ p q) lean_e
      is = exactly lean_e (less_out (lean_is p q))

      step : Sign (turn a b q -ℤ turn a b p) → key p ≡ key q
      step (above h) =
          clash {ρ = ρ p q} (strict (k much :- v 4) (gap_pos _ _ m)) (loose (k much) much_non ⊗ loose (v 2 :- v 1 :- k (pos 1)) (pos_less h) ⊕ loose (v 3) (key_non p) ⊕ k (pos 1) ⊙ is ⊕ k (negsuc 0) ⊙ exactly (v 0) e) tt
      step (under h) =
          clash {ρ = ρ p q} (strict (k much :- v 3) (gap_pos _ _ l)) (loose (k much) much_non ⊗ loose (k (pos 0) :- (v 2 :- v 1) :- k (pos 1)) (pos_less h) ⊕ loose (v 4) (key_non q) ⊕ k (negsuc 0) ⊙ is ⊕ k (pos 1) ⊙ exactly (v 0) e) tt
      step (null h) = pos_apart (key p) (key q) (solve (v 0) (k much :* k (pos 0) :+ v 0) ((pos (key p) -ℤ pos (key q)) ∷ []) tt ∙ ap (λ z. much *ℤ z +ℤ (pos (key p) -ℤ pos (key q))) (sym h) ∙ sym (lean_is p q) ∙ e)

  -- further against it than what lies right of a b lies right of it too
  still_right : (p q : Point) → key q < 268435456 → Pos (opp (turn a b p)) → Pos (opp (lean p q)) → Pos (opp (turn a b q))
  still_right p q l h g = step (either (opp (turn a b q)))
    where
      step : Pos (opp (turn a b q)) ⊎ Non (opp (opp (turn a b q))) → Pos (opp (turn a b q))
      step (inl x) = x
      step (inr x) =
          clash {ρ = ρ p q} (strict (k (pos 0) :- v 0) g)
          (loose (k much) much_non ⊗ (loose (k (pos 0) :- (k (pos 0) :- v 2)) x ⊕ loose (k (pos 0) :- v 1 :- k (pos 1)) (pos_less h))
          ⊕ lax (strict (k much :- v 4) (gap_pos _ _ l)) ⊕ loose (v 3) (key_non p) ⊕ k (pos 1) ⊙ exactly lean_e (less_out (lean_is p q))) tt

module _ (o : Office) (a : Ringed o) (c : Convex o) where
  key_small : (p : ℕ) → p < points o → key (point o p) < 268435456
  key_small p l = let h = a.small p l in omega arith

  -- where a rim side ends, one starts
  goes_on : (s : ℕ) → s < sides o → Rim o s → (r : ℕ) × (r < sides o) × Rim o r × (tail o r ≡ head o s)
  goes_on s l w =
      let (m, ring) = a.ring in
      let (i, _, y) = ring.all (tail o s) (head o s) (s, l, w, refl, refl) in
      let (r, b, z, x, _) = ring.goes (i + 1) in
      (r, b, z, x ∙ y)

  module _ (e : ℕ) (le : e < sides o) (we : Rim o e) where
    abbrev A : Point
    A = point o (tail o e)

    abbrev B : Point
    B = point o (head o e)

    abbrev Right : ℕ → Type 0
    Right p = Pos (opp (turn A B (point o p)))

    abbrev tilt : ℕ → ℕ → ℤ
    tilt p q = lean A B (point o p) (point o q)

    -- no rim point
    no_rim : (p : ℕ) → Right p → (s : ℕ) → s < sides o → Rim o s → head o s ≡ p → ⊥
    no_rim p h s l w x =
        let (r, b, z, y) = goes_on s l w in
        both h (non_is (twice _) (subst (λ q. Non (turn A B (point o q))) (y ∙ x) (rim_convex o a c e r le b we z)))

    -- no point that lies right has all its neighbours in the direction
    module _ (p : ℕ) (right : Right p) (below : (s : ℕ) → s < sides o → tail o s ≡ p → Pos (tilt p (head o s))) where
      abbrev Q : ℕ → Point
      Q s = point o (head o s)

      abbrev Ahead : ℕ → ℕ → Type 0
      Ahead s r = Pos (turn (point o p) (Q s) (Q r))

      abbrev From : ℕ → Type 0
      From s = (s < sides o) × (tail o s ≡ p)

      further : (s r t : ℕ) → From s → From r → From t → Ahead s r → Ahead r t → Ahead s t
      further s r t x y z g h = step (either (turn (point o p) (Q s) (Q t)))
        where
          ρ₁ : List ℤ
          ρ₁ = turn (point o p) (Q s) (Q r) ∷ turn (point o p) (Q r) (Q t) ∷ turn (point o p) (Q t) (Q s) ∷ tilt p (head o t) ∷ tilt p (head o s) ∷ tilt p (head o r) ∷ []

          step : Pos (turn (point o p) (Q s) (Q t)) ⊎ Non (opp (turn (point o p) (Q s) (Q t))) → Ahead s t
          step (inl u) = u
          step (inr u) =
              clash {ρ = ρ₁} (strict (v 0) g · strict (v 3) (below t z.0 z.1))
              (lax (strict (v 1) h) ⊗ lax (strict (v 4) (below s x.0 x.1)) ⊕ loose (v 2) (non_is (sym (turn_swap _ _ _)) u) ⊗ lax (strict (v 5) (below r y.0 y.1))
              ⊕ k (negsuc 0) ⊙ exactly (v 0 :* v 3 :+ v 1 :* v 4 :+ v 2 :* v 5) (plucker (point o p) (wx A B) (wy A B) (Q s) (Q r) (Q t))) tt

      -- the side from p that the triangle of s has next
      turned : (s : ℕ) → s < sides o → From s → (r : ℕ) × (r < sides o) × From r × Ahead s r
      turned s l x = step (mate o (last s))
        where
          to : head o (last s) ≡ p
          to = head_last o s ∙ x.1

          step : ((r : ℕ) × (r < sides o) × Reverse o (last s) r) ⊎ Rim o (last s) → (r : ℕ) × (r < sides o) × From r × Ahead s r
          step (inl (r, b, y)) = (r, b, (b, y.0 ∙ to), subst (λ q. Pos (turn (point o p) (Q s) (point o q))) (sym y.1) (subst (λ q. Pos (turn (point o q) (Q s) (point o (apex o s)))) x.1 (left_turn_of o a.whole a.left s l)))
          step (inr w) = absurd (no_rim p right (last s) (last_below (sides o) s a.whole l) w to)

      no_star : p < points o → ⊥
      no_star l =
          let (s, b, x) = a.used p l in
          no_last (sides o) From Ahead (λ s h. never h (turn_zero (point o p) (Q s))) further turned s b (b, x)

    -- so a neighbour lies further right
    abbrev Past : ℕ → ℕ → Type 0
    Past p q = Pos (opp (tilt p q))

    past : (p : ℕ) → p < points o → Right p → (q : ℕ) × (q < points o) × Right q × Past p q
    past p l h = step (seek (λ s. eqb (tail o s) p && plus (opp (tilt p (head o s)))) (sides o))
      where
        step : Seek (λ s. eqb (tail o s) p && plus (opp (tilt p (head o s)))) (sides o) → (q : ℕ) × (q < points o) × Right q × Past p q
        step (hit s b t) =
            let g = plus_pos (opp (tilt p (head o s))) (and_both (eqb (tail o s) p) (plus (opp (tilt p (head o s)))) t).1 in
            let y = head_below o a s b in
            (head o s, y, still_right A B (point o p) (point o (head o s)) (key_small (head o s) y) h g, g)
        step (miss f) = absurd (no_star p h (λ s b x. in_front s b x (f s b) (sign (tilt p (head o s)))) l)
          where
            in_front : (s : ℕ) → s < sides o → tail o s ≡ p → (eqb (tail o s) p && plus (opp (tilt p (head o s)))) ≡ false → Sign (tilt p (head o s)) → Pos (tilt p (head o s))
            in_front s b x t (above g) = g
            in_front s b x t (null z) =
                let y = head_below o a s b in
                absurd (tail_not_head o a.whole a.left s b (x ∙ key_single o a p (head o s) l y (level_key A B (point o p) (point o (head o s)) (key_small p l) (key_small (head o s) y) z)))
            in_front s b x t (under g) = differ (both_and (eqb (tail o s) p) (plus (opp (tilt p (head o s)))) (eqb_iff.1 x) (pos_plus g)) t

    pub none_right : (p : ℕ) → p < points o → Right p → ⊥
    none_right = no_last (points o) Right Past (λ p h. never h (ap opp (lean_self A B (point o p)))) (λ p q r _ _ _ g h. pos_is (sum p q r) (pos-add g (weak h))) past
      where
        sum : (p q r : ℕ) → opp (tilt p q) +ℤ opp (tilt q r) ≡ opp (tilt p r)
        sum p q r = solve (k (pos 0) :- v 0 :+ (k (pos 0) :- v 1)) (k (pos 0) :- (v 0 :+ v 1)) (tilt p q ∷ tilt q r ∷ []) tt ∙ ap opp (lean_add A B (point o p) (point o q) (point o r))
