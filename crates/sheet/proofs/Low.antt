-- A rim that never turns right and has one lowest point: none of its points lies strictly right of a rim side. Assumes nothing.
use mathlib.Core.Path.{◌≡◌, refl, sym, ap, subst, ◌∙◌}
use mathlib.Core.Bool.{Bool, true, not}
use mathlib.Core.List.{[], ◌∷◌}
use Prim.Native.Nat.{ℕ, zero, suc, ◌+◌, ◌*◌, ◌<◌, ◌≤◌}
use native.Mathlib.Numerals.{add-one}
use native.Mathlib.Decide.{ℕ_discrete, dec_lt}
use native.Mathlib.Omega.{arith}
use lib.Dec.{ltb, eqb}
use lib.IntN.{pos, ◌-ℤ◌}
use Rattle.laws.specs.First.{first}
use Rattle.laws.specs.Round.{Round}
use Rattle.laws.proofs.Search.{first_is}
use Rattle.laws.proofs.Test.{eqb_iff, ltb_iff, not_iff, kept_iff}
use Rattle.laws.proofs.Round.{early, from_step, from_step_at}
use Rattle.laws.proofs.Solve.{v, k, ◌:+◌, ◌:-◌, ◌:*◌, solve}
use Rattle.sheet.specs.Plane.{Point, turn}
use Rattle.sheet.specs.Office.{Office, points, sides, point, tail, head, next}
use Rattle.sheet.specs.Acceptable.{Rim, Along}
use Rattle.sheet.proofs.Sign.{Non, opp, pos_is, non_is, not_less, gap_pos}
use Rattle.sheet.proofs.Cancel.{Seek, hit, miss, seek, differ}
use Rattle.sheet.proofs.Side.{next_below}
use Rattle.sheet.proofs.Corner.{tail_not_head}
use Rattle.sheet.specs.Quick.{Ringed, key, Convex}
use Rattle.sheet.proofs.Convex.{swing, swing_turn, climb, climbs, convex}

-- the key climbs in a direction
climb_key : (a b : Point) → pos (key b) -ℤ pos (key a) ≡ climb (pos 16384) (pos 1) a b
unfolding climb
climb_key a b = solve (v 2 :* k (pos 16384) :+ v 3 :- (v 0 :* k (pos 16384) :+ v 1)) (k (pos 16384) :* (v 2 :- v 0) :+ k (pos 1) :* (v 3 :- v 1)) (pos a.x ∷ pos a.y ∷ pos b.x ∷ pos b.y ∷ []) tt

same_key : (a b c d : ℕ) → b ≤ 16383 → d ≤ 16383 → a * 16384 + b ≡ c * 16384 + d → (a ≡ c) × (b ≡ d)
same_key a b c d x y e = (omega arith, omega arith)

module _ (o : Office) (a : Ringed o) where
  -- two points with one key are one
  pub key_single : (p q : ℕ) → p < points o → q < points o → key (point o p) ≡ key (point o q) → p ≡ q
  key_single p q l b e = let (x, y) = same_key _ _ _ _ (a.small p l).1 (a.small q b).1 e in a.distinct p q l b x y

  pub head_below : (s : ℕ) → s < sides o → head o s < points o
  head_below s l = a.numbered (next s) (next_below (sides o) s a.whole l)

  module _ (c : Convex o) where
    -- begun where no later point is the lowest
    module _ {m : ℕ} (r : Round (Along o) m) (quiet : (i : ℕ) → suc i < m → r.at (suc i) ≡ c.lowest → ⊥) where
      abbrev P : ℕ → Point
      P i = point o (r.at i)

      goes : (i : ℕ) → Along o (r.at i) (r.at (suc i))
      goes i = subst (λ j. Along o (r.at i) (r.at j)) (add-one i) (r.goes i)

      apart : (i : ℕ) → key (P i) ≡ key (P (suc i)) → ⊥
      apart i e =
          let (s, l, _, x, y) = goes i in
          tail_not_head o a.whole a.left s l
          (x ∙ key_single (r.at i) (r.at (suc i)) (subst (λ p. p < points o) x (a.numbered s l)) (subst (λ p. p < points o) y (head_below s l)) e ∙ sym y)

      -- the sides of steps i and i + 1
      turns : (i : ℕ) → Non (turn (P i) (P (suc i)) (P (suc (suc i))))
      turns i =
          let (s, l, w, x, y) = goes i in
          let (t, b, z, f, g) = goes (suc i) in
          let n : Non (turn (point o (tail o s)) (point o (head o s)) (point o (head o t))) = not_less _ (c.bends s t (l, b, w, z, y ∙ sym f)) in
          subst (λ p. Non (turn (point o p) (P (suc i)) (P (suc (suc i))))) x (subst (λ p. Non (turn (point o (tail o s)) (point o p) (P (suc (suc i))))) y (subst (λ p. Non (turn (point o (tail o s)) (point o (head o s)) (point o p))) g n))

      low : (i : ℕ) → key (P (suc i)) < key (P i) → key (P (suc i)) < key (P (suc (suc i))) → r.at (suc i) ≡ c.lowest
      low i d u =
          let (s, l, w, x, y) = goes i in
          let (t, b, z, f, g) = goes (suc i) in
          sym y ∙ c.lows s t (l, b, w, z, y ∙ sym f) (rw (x, y) d) (rw (y, g) u)

      abbrev climbing : ℕ → Bool
      climbing i = ltb (key (P i)) (key (P (suc i)))

      top : ℕ
      top = first (λ i. not (climbing i)) m

      rising : (i : ℕ) → i < top → key (P i) < key (P (suc i))
      unfolding top
      rising i l = ltb_iff.0 (kept_iff.0 ((first_is (λ i. not (climbing i)) m).clear i l))

      first_fall : (i : ℕ) → i ≡ top → i < m → key (P (suc i)) < key (P i)
      unfolding top
      first_fall i e b =
          let f = subst (λ t. t < m → not (climbing t) ≡ true) (sym e) (first_is (λ i. not (climbing i)) m).hit b in
          let g = not_iff.0 f in
          let h = apart i in
          let n : key (P i) < key (P (suc i)) → ⊥ = λ l. g (ltb_iff.1 l) in
          omega arith

      -- past the top a step that climbs would start at a low
      falling : (i : ℕ) → top ≤ i → i < m → key (P (suc i)) < key (P i)
      unfolding top
      falling zero l b = first_fall zero (omega arith) b
      falling (suc i) l b = step (ℕ_discrete top (suc i)) (falling i) (dec_lt (key (P (suc i))) (key (P (suc (suc i)))))
        where
          step : Dec (top ≡ suc i) → (top ≤ i → i < m → key (P (suc i)) < key (P i)) → Dec (key (P (suc i)) < key (P (suc (suc i)))) → key (P (suc (suc i))) < key (P (suc i))
          step (yes e) ih d = first_fall (suc i) (sym e) b
          step (no f) ih (yes h) = absurd (quiet i b (low i (ih (omega arith) (omega arith)) h))
          step (no f) ih (no h) = let g = apart (suc i) in omega arith

      -- as steps of a closed row
      rim_left : (i j : ℕ) → i < m → j ≤ m → Non (turn (P i) (P (suc i)) (P j))
      unfolding top
      rim_left =
          convex P (climbs P (pos 16384) (pos 1)) (first_is (λ i. not (climbing i)) m).within
          (record { climbs_all = λ i _ l. pos_is (climb_key (P i) (P (suc i))) (gap_pos _ _ (rising i l)); bends = λ i _ _. bent i })
          (record { climbs_all = λ i l b. pos_is (back i) (gap_pos _ _ (falling i l b)); bends = λ i _ _. bent i })
          (ap (λ i. point o (r.at i)) (omega arith) ∙ ap (point o) (r.back 0))
        where
          bent : (i : ℕ) → Non (swing (P i) (P (suc i)) (P (suc i)) (P (suc (suc i))))
          bent i = non_is (sym (swing_turn _ _ _)) (turns i)

          back : (i : ℕ) → pos (key (P i)) -ℤ pos (key (P (suc i))) ≡ opp (climb (pos 16384) (pos 1) (P i) (P (suc i)))
          back i = solve (v 0 :- v 1) (k (pos 0) :- (v 1 :- v 0)) (pos (key (P i)) ∷ pos (key (P (suc i))) ∷ []) tt ∙ ap opp (climb_key (P i) (P (suc i)))

      all_left : (s t : ℕ) → s < sides o → t < sides o → Rim o s → Rim o t → Non (turn (point o (tail o s)) (point o (head o s)) (point o (tail o t)))
      all_left s t l b w z =
          let (i, h, x, y) = place s l w in
          let (j, g, u, _) = place t b z in
          subst (λ p. Non (turn (point o p) (point o (head o s)) (point o (tail o t)))) x (subst (λ p. Non (turn (P i) (point o p) (point o (tail o t)))) y (subst (λ p. Non (turn (P i) (P (suc i)) (point o p))) u (rim_left i j h (omega arith))))
        where
          place : (s : ℕ) → s < sides o → Rim o s → (i : ℕ) × (i < m) × (r.at i ≡ tail o s) × (r.at (suc i) ≡ head o s)
          place s l w =
              let (i, x, y) = r.all (tail o s) (head o s) (s, l, w, refl, refl) in
              let (j, h, f, g) = early r i in
              (j, h, f ∙ x, ap r.at (sym (add-one j)) ∙ g ∙ y)

    -- no rim point lies right of a rim side
    pub rim_convex : (s t : ℕ) → s < sides o → t < sides o → Rim o s → Rim o t → Non (turn (point o (tail o s)) (point o (head o s)) (point o (tail o t)))
    rim_convex = let (m, r) = a.ring in step m r (seek (λ i. eqb (r.at i) c.lowest) m)
      where
        step : (m : ℕ) (r : Round (Along o) m) → Seek (λ i. eqb (r.at i) c.lowest) m → (s t : ℕ) → s < sides o → t < sides o → Rim o s → Rim o t → Non (turn (point o (tail o s)) (point o (head o s)) (point o (tail o t)))
        step m r (hit j l e) = all_left (from_step r j) (λ i b f. r.apart j (suc i) (omega arith) b (sym (from_step_at r j (suc i)) ∙ f ∙ sym (eqb_iff.0 e)))
        step m r (miss f) = all_left r (λ i b g. differ (eqb_iff.1 g) (f (suc i) b))
