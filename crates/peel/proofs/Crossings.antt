-- The map-maker's crossings of the ray to the right are the crossings of the proofs, and their number is odd where the ring goes round once.
-- Assumes nothing.
use mathlib.Core.Path.{◌≡◌, refl, sym, ap, ap₂, ◌∙◌}
use mathlib.Core.Bool.{Bool, true, false, not, ◌&&◌, ◌||◌}
use mathlib.Core.Logic.{◌⊎◌, inl, inr}
use mathlib.Core.List.{List, [], ◌∷◌}
use Prim.Native.Nat.{ℕ, zero, suc, ◌+◌, ◌-◌, ◌%◌, ◌<◌, ◌≤◌}
use native.Mathlib.Omega.{arith}
use lib.ListN.{length}
use lib.IntN.{ℤ, pos, ◌+ℤ◌, ◌-ℤ◌}
use lib.Signed.{lt_z, ◌<ℤ◌}
use Rattle.laws.specs.First.{count}
use Rattle.laws.proofs.Solve.{v, k, ◌:+◌, ◌:-◌, ◌:*◌, solve}
use Rattle.laws.proofs.Test.{plain, false_iff, less_iff, eqb_iff}
use Rattle.laws.proofs.Counting.{count_last}
use Rattle.sheet.specs.Plane.{Point, dx, dy, turn}
use Rattle.sheet.specs.Office.{Office}
use Rattle.sheet.proofs.Sign.{Pos, Non, opp, twice, pos_is, non_is, either, less_pos, not_less, not_more, non_less, less_out, pos_apart}
use Rattle.sheet.proofs.Total.{total, total_same}
use Rattle.sheet.proofs.Cross.{turn_cycle, turn_swap}
use Rattle.sheet.proofs.Ray.{level, cross, cross_anti}
use Rattle.sheet.proofs.Crossed.{high, low, enters, passes}
use Rattle.rim.specs.Peel.{mark}
use Rattle.peel.specs.Parcel.{above, rises, falls, odd, corner, crossings, winding}

-- ---- one step
module _ (z : Point) where
  abbrev C : Point → Point → ℤ
  C = cross z (pos 1) (pos 0)

  abbrev L : Point → ℤ
  L q = level z (pos 1) (pos 0) q

  level_is : (q : Point) → L q ≡ pos q.y -ℤ pos z.y
  unfolding level
  level_is q = solve (k (pos 1) :* v 0 :- k (pos 0) :* v 1) (v 0) (dy z q ∷ dx z q ∷ []) tt

  over : (m n : ℕ) → n < m → Pos (pos m -ℤ pos n)
  over m n l =
      let e : m ≡ n + suc (m - suc n) = omega arith in
      record { by = m - suc n; is = ap (λ i. pos i -ℤ pos n) e ∙ solve (v 0 :+ v 1 :- v 0) (v 1) (pos n ∷ pos (suc (m - suc n)) ∷ []) tt }

  up : (q : Point) → above z q ≡ true → Pos (L q)
  up q e = pos_is (sym (level_is q)) (over q.y z.y (simp plain at e))

  under : (m n : ℕ) → m ≤ n → Non (opp (pos m -ℤ pos n))
  under m n l =
      let e : n ≡ m + (n - m) = omega arith in
      record { by = n - m; is = ap (λ i. opp (pos m -ℤ pos i)) e ∙ solve (k (pos 0) :- (v 0 :- (v 0 :+ v 1))) (v 1) (pos m ∷ pos (n - m) ∷ []) tt }

  down : (q : Point) → above z q ≡ false → Non (opp (L q))
  down q e = let f : z.y < q.y → ⊥ = simp plain at e in non_is (ap opp (sym (level_is q))) (under q.y z.y (omega arith))

  module _ (a b : Point) where
    left_of : (r : Bool) → lt_z (pos 0) (turn a b z) ≡ r → Non (opp (L a)) → Pos (L b) → C a b ≡ pos (mark r)
    left_of true e x y = enters z (pos 1) (pos 0) a b x y (pos_is (sym (turn_cycle z a b)) (less_pos (turn a b z) (less_iff.0 e)))
    left_of false e x y = passes z (pos 1) (pos 0) a b x y (non_is (ap opp (sym (turn_cycle z a b))) (not_more (turn a b z) (λ l. false_iff.0 e (less_iff.1 l))))

    back : turn z b a ≡ opp (turn a b z)
    back = turn_swap z b a ∙ ap opp (turn_cycle z a b)

    below : (x : ℤ) → x <ℤ pos 0 → Pos (opp x)
    below x l = step (either (opp x))
      where
        step : Pos (opp x) ⊎ Non (opp (opp x)) → Pos (opp x)
        step (inl h) = h
        step (inr h) = absurd (non_less (non_is (sym (twice x)) h) l)

    right_of : (f : Bool) → lt_z (turn a b z) (pos 0) ≡ f → Pos (L a) → Non (opp (L b)) → C a b ≡ opp (pos (mark f))
    right_of true e x y = cross_anti z (pos 1) (pos 0) a b ∙ ap opp (enters z (pos 1) (pos 0) b a y x (pos_is (sym back) (below (turn a b z) (less_iff.0 e))))
    right_of false e x y = cross_anti z (pos 1) (pos 0) a b ∙ ap opp (passes z (pos 1) (pos 0) b a y x (non_is (twice (turn a b z) ∙ ap opp (sym back)) (not_less (turn a b z) (λ l. false_iff.0 e (less_iff.1 l)))))

    -- up counts 1, down counts -1
    pub signed : C a b ≡ pos (mark (rises z a b)) -ℤ pos (mark (falls z a b))
    signed = step (above z a) (above z b) refl refl
      where
        step : (x y : Bool) → above z a ≡ x → above z b ≡ y
            → C a b ≡ pos (mark ((not x && y) && lt_z (pos 0) (turn a b z))) -ℤ pos (mark ((x && not y) && lt_z (turn a b z) (pos 0)))
        step true true e d = high z (pos 1) (pos 0) a b (up a e) (up b d)
        step true false e d = right_of (lt_z (turn a b z) (pos 0)) refl (up a e) (down b d)
        step false true e d = left_of (lt_z (pos 0) (turn a b z)) refl (down a e) (up b d) ∙ solve (v 0) (v 0 :- k (pos 0)) (pos (mark (lt_z (pos 0) (turn a b z))) ∷ []) tt
        step false false e d = low z (pos 1) (pos 0) a b (down a e) (down b d)

    -- not both
    pub apart : mark (rises z a b || falls z a b) ≡ mark (rises z a b) + mark (falls z a b)
    apart = step (above z a) (above z b) (lt_z (pos 0) (turn a b z)) (lt_z (turn a b z) (pos 0))
      where
        step : (x y r f : Bool) → mark (((not x && y) && r) || ((x && not y) && f)) ≡ mark ((not x && y) && r) + mark ((x && not y) && f)
        step true true r f = refl
        step true false r true = refl
        step true false r false = refl
        step false true true f = refl
        step false true false f = refl
        step false false r f = refl

-- ---- many
count_apart : (c f g : ℕ → Bool) (n : ℕ) → ((i : ℕ) → mark (c i) ≡ mark (f i) + mark (g i)) → count c n ≡ count f n + count g n
unfolding count
count_apart c f g zero e = refl
count_apart c f g (suc n) e = omega (arith, count_last c n, count_last f n, count_last g n, e n, count_apart c f g n e)

count_signed : (f g : ℕ → Bool) (n : ℕ) → pos (count f n) -ℤ pos (count g n) ≡ total (λ i. pos (mark (f i)) -ℤ pos (mark (g i))) n
unfolding count total
count_signed f g zero = refl
count_signed f g (suc n) =
    ap₂ (λ i j. pos i -ℤ pos j) (count_last f n) (count_last g n)
    ∙ solve (v 0 :+ v 1 :- (v 2 :+ v 3)) (v 0 :- v 2 :+ (v 1 :- v 3)) (pos (count f n) ∷ pos (mark (f n)) ∷ pos (count g n) ∷ pos (mark (g n)) ∷ []) tt
    ∙ ap (λ t. t +ℤ (pos (mark (f n)) -ℤ pos (mark (g n)))) (count_signed f g n)

parity : (u d : ℕ) (b : Bool) → pos u -ℤ pos d ≡ pos (mark b) → odd (u + d) ≡ b
parity u d b e = step b (pos_apart u (d + mark b) (solve (v 0 :- (v 1 :+ v 2)) (v 0 :- v 1 :- v 2) (pos u ∷ pos d ∷ pos (mark b) ∷ []) tt ∙ less_out e))
  where
    step : (b : Bool) → u ≡ d + mark b → odd (u + d) ≡ b
    step true f = let g : (u + d) % 2 ≡ 1 = omega arith in eqb_iff.1 g
    step false f = false_iff.1 (λ t. let g : (u + d) % 2 ≡ 1 = eqb_iff.0 t in omega arith)

module _ (o : Office) (row : List ℕ) (z : Point) where
  pub winding_total : winding o row z ≡ total (λ i. cross z (pos 1) (pos 0) (corner o row i) (corner o row (i + 1))) (length row)
  unfolding winding
  winding_total = count_signed _ _ (length row) ∙ total_same _ _ (length row) (λ i l. sym (signed z (corner o row i) (corner o row (i + 1))))

  -- the number of crossings is odd where they come to 1, and even where they come to 0
  pub odd_is : (b : Bool) → winding o row z ≡ pos (mark b) → odd (crossings o row z) ≡ b
  unfolding winding crossings
  odd_is b e =
      ap odd (count_apart _ _ _ (length row) (λ i. apart z (corner o row i) (corner o row (i + 1))))
      ∙ parity (count (λ i. rises z (corner o row i) (corner o row (i + 1))) (length row)) (count (λ i. falls z (corner o row i) (corner o row (i + 1))) (length row)) b e
