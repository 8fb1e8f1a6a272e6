-- A closed row of points that rises and then falls, and turns left from each step to the next of the same kind: no point of it lies
-- strictly right of a step. Assumes nothing.
use mathlib.Core.Path.{◌≡◌, sym, ap, subst, ◌∙◌}
use mathlib.Core.Logic.{◌⊎◌, inl, inr}
use mathlib.Core.List.{List, [], ◌∷◌}
use Prim.Native.Nat.{ℕ, zero, suc, ◌+◌, ◌-◌, ◌<◌, ◌≤◌}
use native.Mathlib.Decide.{ℕ_discrete, dec_lt}
use native.Mathlib.Omega.{arith}
use lib.IntN.{ℤ, pos, negsuc, ◌+ℤ◌, ◌-ℤ◌, ◌*ℤ◌}
use Rattle.laws.proofs.Solve.{v, k, ◌:+◌, ◌:-◌, ◌:*◌, solve}
use Rattle.sheet.specs.Plane.{Point, dx, dy, turn}
use Rattle.sheet.proofs.Sign.{Pos, Non, opp, not_under, weak, pos_is, self_opposite, non_is, non_add, non_zero, either, twice, strict, loose, exactly, lax, ◌·◌, ◌⊗◌, ◌⊕◌, ◌⊙◌, clash}
use Rattle.sheet.proofs.Cross.{cross_e, turn_zero, turn_cycle}

-- how the way from c to d turns against that from a to b
unfoldable pub swing : Point → Point → Point → Point → ℤ
swing a b c d = dx a b *ℤ dy c d -ℤ dy a b *ℤ dx c d

-- how far the way from a to b goes in the direction (wx, wy)
unfoldable pub climb : ℤ → ℤ → Point → Point → ℤ
climb wx wy a b = wx *ℤ dx a b +ℤ wy *ℤ dy a b

pub swing_turn : (a b c : Point) → swing a b b c ≡ turn a b c
unfolding swing turn
swing_turn a b c =
    solve ((v 2 :- v 0) :* (v 5 :- v 3) :- (v 3 :- v 1) :* (v 4 :- v 2)) ((v 2 :- v 0) :* (v 5 :- v 1) :- (v 3 :- v 1) :* (v 4 :- v 0))
    (pos a.x ∷ pos a.y ∷ pos b.x ∷ pos b.y ∷ pos c.x ∷ pos c.y ∷ []) tt

swing_back : (a b c d : Point) → swing a b c d ≡ opp (swing c d a b)
unfolding swing
swing_back a b c d = solve (cross_e 0 2) (k (pos 0) :- cross_e 2 0) (dx a b ∷ dy a b ∷ dx c d ∷ dy c d ∷ []) tt

-- further along c d
swing_on : (a b c d : Point) → turn a b d ≡ turn a b c +ℤ swing a b c d
unfolding swing turn
swing_on a b c d =
    solve ((v 2 :- v 0) :* (v 7 :- v 1) :- (v 3 :- v 1) :* (v 6 :- v 0))
    ((v 2 :- v 0) :* (v 5 :- v 1) :- (v 3 :- v 1) :* (v 4 :- v 0) :+ ((v 2 :- v 0) :* (v 7 :- v 5) :- (v 3 :- v 1) :* (v 6 :- v 4)))
    (pos a.x ∷ pos a.y ∷ pos b.x ∷ pos b.y ∷ pos c.x ∷ pos c.y ∷ pos d.x ∷ pos d.y ∷ []) tt

-- and back
sum_back : (a b c d : Point) → turn a b d +ℤ swing c d a b ≡ turn a b c
sum_back a b c d = rw (swing_on a b c d, swing_back a b c d) (solve (v 0 :+ (k (pos 0) :- v 1) :+ v 1) (v 0) (turn a b c ∷ swing c d a b ∷ []) tt)

module _ (at : ℕ → Point) where
  -- step j against step i; point j against step i
  abbrev bend : ℕ → ℕ → ℤ
  bend i j = swing (at i) (at (suc i)) (at j) (at (suc j))

  abbrev pub aside : ℕ → ℕ → ℤ
  aside i j = turn (at i) (at (suc i)) (at j)

  -- how far each step climbs in some direction
  pub record Climbs (K : ℕ → ℤ) : Type 0 where
    pub plane : (i j l : ℕ) → bend i j *ℤ K l +ℤ bend j l *ℤ K i +ℤ bend l i *ℤ K j ≡ pos 0

  pub climbs : (wx wy : ℤ) → Climbs (λ i. climb wx wy (at i) (at (suc i)))
  unfolding swing climb
  climbs wx wy = record {
    plane = λ i j l.
        solve (cross_e 2 4 :* (v 0 :* v 6 :+ v 1 :* v 7) :+ cross_e 4 6 :* (v 0 :* v 2 :+ v 1 :* v 3) :+ cross_e 6 2 :* (v 0 :* v 4 :+ v 1 :* v 5)) (k (pos 0))
        (wx ∷ wy ∷ dx (at i) (at (suc i)) ∷ dy (at i) (at (suc i)) ∷ dx (at j) (at (suc j)) ∷ dy (at j) (at (suc j)) ∷ dx (at l) (at (suc l)) ∷ dy (at l) (at (suc l)) ∷ []) tt;
  }

  pub climbs_back : {K : ℕ → ℤ} → Climbs K → Climbs (λ i. opp (K i))
  climbs_back {K} c = record {
    plane = λ i j l.
        solve (v 0 :* (k (pos 0) :- v 3) :+ v 1 :* (k (pos 0) :- v 4) :+ v 2 :* (k (pos 0) :- v 5)) (k (pos 0) :- (v 0 :* v 3 :+ v 1 :* v 4 :+ v 2 :* v 5))
        (bend i j ∷ bend j l ∷ bend l i ∷ K l ∷ K i ∷ K j ∷ []) tt ∙ ap opp (c.plane i j l);
  }

  module _ {K : ℕ → ℤ} (c : Climbs K) where
    abbrev ρ : ℕ → ℕ → ℕ → List ℤ
    ρ i j l = bend i j ∷ bend j l ∷ bend l i ∷ K l ∷ K i ∷ K j ∷ []

    -- three steps that climb
    left_left : (i j l : ℕ) → Pos (K i) → Pos (K j) → Pos (K l) → Non (bend i j) → Non (bend j l) → Non (bend i l)
    left_left i j l x y z g h = not_under _ (λ u.
        clash {ρ = ρ i j l} (strict (v 2) (pos_is (sym (swing_back _ _ _ _)) u) · strict (v 5) y)
        (loose (v 0) g ⊗ lax (strict (v 3) z) ⊕ loose (v 1) h ⊗ lax (strict (v 4) x) ⊕ k (negsuc 0) ⊙ exactly (v 0 :* v 3 :+ v 1 :* v 4 :+ v 2 :* v 5) (c.plane i j l)) tt)

    -- a step that climbs, and two that fall: the second is past it where the first is
    past_past : (i j l : ℕ) → Pos (K i) → Pos (opp (K j)) → Pos (opp (K l)) → Non (opp (bend i j)) → Non (bend j l) → Non (opp (bend i l))
    past_past i j l x y z g h = non_is (swing_back _ _ _ _) (not_under _ (λ u.
        clash {ρ = ρ i j l} (strict (k (pos 0) :- v 2) u · strict (k (pos 0) :- v 5) y)
        (loose (k (pos 0) :- v 0) g ⊗ lax (strict (k (pos 0) :- v 3) z) ⊕ loose (v 1) h ⊗ lax (strict (v 4) x) ⊕ k (negsuc 0) ⊙ exactly (v 0 :* v 3 :+ v 1 :* v 4 :+ v 2 :* v 5) (c.plane i j l)) tt))

  -- steps lo to hi climb, and turn left
  pub record Climbing (K : ℕ → ℤ) (lo hi : ℕ) : Type 0 where
    pub climbs_all : (i : ℕ) → lo ≤ i → i < hi → Pos (K i)
    pub bends : (i : ℕ) → lo ≤ i → suc i < hi → Non (bend i (suc i))

  module _ {K : ℕ → ℤ} (c : Climbs K) {lo hi : ℕ} (u : Climbing K lo hi) where
    ordered : (i j : ℕ) → lo ≤ i → i ≤ j → j < hi → Non (bend i j)
    ordered i zero a b l = let e : i ≡ 0 = omega arith in non_zero (ap (λ t. bend i t) (sym e) ∙ self_opposite _ (swing_back _ _ _ _))
    ordered i (suc j) a b l = step (ℕ_discrete i (suc j)) (ordered i j a)
      where
        step : Dec (i ≡ suc j) → (i ≤ j → j < hi → Non (bend i j)) → Non (bend i (suc j))
        step (yes e) ih = non_zero (ap (λ t. bend i t) (sym e) ∙ self_opposite _ (swing_back _ _ _ _))
        step (no f) ih =
            left_left c i j (suc j) (u.climbs_all i a (omega arith)) (u.climbs_all j (omega arith) (omega arith)) (u.climbs_all (suc j) (omega arith) l)
            (ih (omega arith) (omega arith)) (u.bends j (omega arith) l)

    -- no point of theirs lies right of one of them
    ahead : (i j : ℕ) → lo ≤ i → i < j → j ≤ hi → Non (aside i j)
    ahead i zero a b l = absurd (omega arith)
    ahead i (suc j) a b l = step (ℕ_discrete i j) (ahead i j a)
      where
        step : Dec (i ≡ j) → (i < j → j ≤ hi → Non (aside i j)) → Non (aside i (suc j))
        step (yes e) ih = non_zero (subst (λ t. aside i (suc t) ≡ pos 0) e (turn_zero (at i) (at (suc i))))
        step (no f) ih = non_is (sym (swing_on _ _ _ _)) (non_add (ih (omega arith) (omega arith)) (ordered i j a (omega arith) (omega arith)))

    behind : (d i j : ℕ) → j + d ≡ i → lo ≤ j → i < hi → Non (aside i j)
    behind zero i j e a l = let f : i ≡ j = omega arith in non_zero (subst (λ t. aside i t ≡ pos 0) f (turn_cycle _ _ _ ∙ turn_zero (at (suc i)) (at i)))
    behind (suc d) i j e a l = non_is (sum_back _ _ _ _) (non_add (behind d i (suc j) (omega arith) (omega arith) l) (ordered j i a (omega arith) l))

    near : (i j : ℕ) → lo ≤ i → i < hi → lo ≤ j → j ≤ hi → Non (aside i j)
    near i j a b x y = elim (dec_lt i j) [ yes l ↦ ahead i j a l y | no f ↦ behind (i - j) i j (omega arith) x b ]

  -- steps lo to hi fall, and turn left: none of their points lies right of a step that climbs, where the first and the last do not
  module _ {K : ℕ → ℤ} (c : Climbs K) {lo hi : ℕ} (d : Climbing (λ i. opp (K i)) lo hi) (i : ℕ) (up : Pos (K i)) (at-lo : Non (aside i lo)) (at-hi : Non (aside i hi)) where
    rest : (d j : ℕ) → j + d ≡ hi → ((l : ℕ) → j ≤ l → l < hi → Non (opp (bend i l))) → Non (aside i j)
    rest zero j e f = let h : hi ≡ j = omega arith in subst (λ t. Non (aside i t)) h at-hi
    rest (suc d) j e f =
        non_is (ap (λ t. t +ℤ opp (bend i j)) (swing_on _ _ _ _) ∙ solve (v 0 :+ v 1 :+ (k (pos 0) :- v 1)) (v 0) (aside i j ∷ bend i j ∷ []) tt)
        (non_add (rest d (suc j) (omega arith) (λ l a b. f l (omega arith) b)) (f j (omega arith) (omega arith)))

    over : (j : ℕ) → lo ≤ j → j ≤ hi → Non (aside i j)
    over zero a b = let e : lo ≡ 0 = omega arith in subst (λ t. Non (aside i t)) e at-lo
    over (suc j) a b = step (ℕ_discrete lo (suc j)) (over j)
      where
        next : lo ≤ j → Non (aside i j) → Pos (bend i j) ⊎ Non (opp (bend i j)) → Non (aside i (suc j))
        next a h (inl g) = non_is (sym (swing_on _ _ _ _)) (non_add h (weak g))
        next a h (inr g) =
            rest (hi - suc j) (suc j) (omega arith) (λ l x y.
            past_past c i j l up (d.climbs_all j a b) (d.climbs_all l (omega arith) y) g (ordered (climbs_back c) d j l a (omega arith) y))

        step : Dec (lo ≡ suc j) → (lo ≤ j → j ≤ hi → Non (aside i j)) → Non (aside i (suc j))
        step (yes e) ih = subst (λ t. Non (aside i t)) e at-lo
        step (no f) ih = next (omega arith) (ih (omega arith) (omega arith)) (either (bend i j))

  -- the row climbs to h, falls to m, and is closed
  module _ {K : ℕ → ℤ} (c : Climbs K) {h m : ℕ} (b : h ≤ m) (u : Climbing K 0 h) (d : Climbing (λ i. opp (K i)) h m) (closed : at m ≡ at 0) where
    pub convex : (i j : ℕ) → i < m → j ≤ m → Non (aside i j)
    convex i j a l = step (dec_lt i h) (dec_lt j h)
      where
        ends : (i : ℕ) → aside i m ≡ aside i 0
        ends i = ap (turn (at i) (at (suc i))) closed

        step : Dec (i < h) → Dec (j < h) → Non (aside i j)
        step (yes x) (yes y) = near c u i j (omega arith) x (omega arith) (omega arith)
        step (yes x) (no y) = over c d i (u.climbs_all i (omega arith) x) (near c u i h (omega arith) x (omega arith) (omega arith)) (non_is (sym (ends i)) (near c u i 0 (omega arith) x (omega arith) (omega arith))) j (omega arith) l
        step (no x) (yes y) =
            over (climbs_back c) (record { climbs_all = λ t p q. pos_is (twice _) (u.climbs_all t p q); bends = u.bends }) i (d.climbs_all i (omega arith) a)
            (non_is (ends i) (near (climbs_back c) d i m (omega arith) a b (omega arith))) (near (climbs_back c) d i h (omega arith) a (omega arith) b) j (omega arith) (omega arith)
        step (no x) (no y) = near (climbs_back c) d i j (omega arith) a (omega arith) l
