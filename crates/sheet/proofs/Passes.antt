-- Every acceptable office passes the quick tests: no circle holds a neighbour, and its rim turns left and has one lowest point. Assumes nothing.
use mathlib.Core.Path.{◌≡◌, sym, ap, subst, ◌∙◌}
use mathlib.Core.Bool.{not}
use mathlib.Core.List.{List, [], ◌∷◌}
use Prim.Native.Nat.{ℕ, ◌<◌}
use native.Mathlib.Decide.{dec_lt}
use native.Mathlib.Omega.{arith}
use lib.Dec.{ltb}
use lib.IntN.{ℤ, pos, negsuc, ◌-ℤ◌}
use Rattle.laws.specs.First.{any}
use Rattle.laws.proofs.Test.{plain}
use Rattle.laws.proofs.Rise.{no_last}
use Rattle.laws.proofs.Solve.{v, k, ◌:+◌, ◌:-◌, ◌:*◌, solve}
use Rattle.sheet.specs.Plane.{Point, turn}
use Rattle.sheet.specs.Office.{Office, points, point, tail, head, apex}
use Rattle.sheet.specs.Acceptable.{Acceptable}
use Rattle.sheet.specs.Quick.{Ringed, Half, Convex, Onward, key}
use Rattle.sheet.proofs.Sign.{Pos, Non, opp, pos_is, non_is, exact, gap_pos, strict, loose, exactly, lax, ◌·◌, ◌⊗◌, ◌⊕◌, ◌⊙◌, clash}
use Rattle.sheet.proofs.Cross.{turn_cycle, turn_swap}
use Rattle.sheet.proofs.Ray.{level, plucker}
use Rattle.sheet.proofs.Cancel.{Seek, hit, miss, seek}
use Rattle.sheet.proofs.Tiling.{Tiling, left_turn, hull_non, head_in, apex_in}
use Rattle.sheet.proofs.Tiled.{tiling}
use Rattle.sheet.proofs.Global.{locally}
use Rattle.sheet.proofs.Low.{key_single}

-- the key of q over that of b
above_key : (b q : Point) → pos (key q) -ℤ pos (key b) ≡ level b (pos 1) (negsuc 16383) q
unfolding level
above_key b q = solve (v 2 :* k (pos 16384) :+ v 3 :- (v 0 :* k (pos 16384) :+ v 1)) (k (pos 1) :* (v 3 :- v 1) :- k (negsuc 16383) :* (v 2 :- v 0)) (pos b.x ∷ pos b.y ∷ pos q.x ∷ pos q.y ∷ []) tt

-- a way a b c with b the lowest, and a point e strictly left of a b: no point that is not right of either side is lower still
module _ (a b c e p : Point) (ka : key b < key a) (kc : key b < key c) (kp : key p < key b)
    (abc : Non (turn a b c)) (abp : Non (turn a b p)) (bcp : Non (turn b c p)) (abe : Pos (turn a b e)) (bce : Non (turn b c e)) where
  abbrev K : Point → ℤ
  K q = level b (pos 1) (negsuc 16383) q

  up : (q : Point) → key b < key q → Pos (K q)
  up q l = pos_is (above_key b q) (gap_pos _ _ l)

  down : Pos (opp (K p))
  down = pos_is (solve (v 0 :- v 1) (k (pos 0) :- (v 1 :- v 0)) (pos (key b) ∷ pos (key p) ∷ []) tt ∙ ap opp (above_key b p)) (gap_pos _ _ kp)

  -- turns as plucker has them, from b
  abbrev ρ : Point → List ℤ
  ρ q = turn b c q ∷ turn b q a ∷ turn b a c ∷ K a ∷ K c ∷ K q ∷ []

  straight : turn a b c ≡ pos 0
  straight = exact abc (λ h.
      clash {ρ = ρ p} (strict (k (pos 0) :- v 2) (pos_is (turn_cycle a b c ∙ turn_swap b c a) h) · strict (k (pos 0) :- v 5) down)
      (loose (v 0) bcp ⊗ lax (strict (v 3) (up a ka)) ⊕ loose (v 1) (non_is (turn_cycle a b p) abp) ⊗ lax (strict (v 4) (up c kc))
      ⊕ k (negsuc 0) ⊙ exactly (v 0 :* v 3 :+ v 1 :* v 4 :+ v 2 :* v 5) (plucker b (pos 1) (negsuc 16383) c p a)) tt)

  pub no_lower : ⊥
  no_lower =
      clash {ρ = ρ e} (strict (v 1) (pos_is (turn_cycle a b e) abe) · strict (v 4) (up c kc))
      (loose (v 0) bce ⊗ lax (strict (v 3) (up a ka)) ⊕ v 5 ⊙ exactly (v 2) (turn_swap b a c ∙ ap opp (sym (turn_cycle a b c) ∙ straight))
      ⊕ k (negsuc 0) ⊙ exactly (v 0 :* v 3 :+ v 1 :* v 4 :+ v 2 :* v 5) (plucker b (pos 1) (negsuc 16383) c e a)) tt

module _ {o : Office} (a : Acceptable o) where
  abbrev τ : Tiling o
  τ = tiling a

  pub half_passes : Half o
  half_passes s r l b = locally o τ a.empty s r (omega arith) b

  abbrev key_of : ℕ → ℕ
  key_of p = key (point o p)

  least : (p : ℕ) × (p < points o) × ((q : ℕ) → q < points o → key_of q < key_of p → ⊥)
  least = step (seek (λ p. not (any (λ q. ltb (key_of q) (key_of p)) (points o))) (points o))
    where
      step : Seek (λ p. not (any (λ q. ltb (key_of q) (key_of p)) (points o))) (points o) → (p : ℕ) × (p < points o) × ((q : ℕ) → q < points o → key_of q < key_of p → ⊥)
      step (hit p l e) = (p, l, λ q b h. (simp plain at e) (q, b, h))
      step (miss f) = absurd (no_last (points o) (λ p. p < points o) (λ p q. key_of q < key_of p) (λ p h. omega arith) (λ p q r _ _ _ g h. omega arith) (λ p l _. let (q, b, h) = simp plain at (f p l) in (q, b, b, h)) 0 (let h = a.points_bound.0 in omega arith) (let h = a.points_bound.0 in omega arith))

  ringed_of : Ringed o
  ringed_of = record {
    whole = a.corners_bound.1;
    small = a.small;
    distinct = a.distinct;
    numbered = a.numbered;
    left = a.left;
    single = a.single;
    used = a.used;
    ring = a.ring;
  }

  pub convex_passes : Convex o
  convex_passes = record {
    bends = λ s r w. a.hull s (head o r) w.0 w.2 (head_in o τ r w.1);
    lowest = least.0;
    lows = λ s r w x y. elim (dec_lt (key_of least.0) (key_of (head o s))) [
      | yes h ↦ absurd (lower s r w x y h)
      | no f ↦ key_single o ringed_of (head o s) least.0 (head_in o τ s w.0) least.1 (let g = least.2 (head o s) (head_in o τ s w.0) in omega arith)
    ];
  }
    where
      lower : (s r : ℕ) → Onward o s r → key_of (head o s) < key_of (tail o s) → key_of (head o s) < key_of (head o r) → key_of least.0 < key_of (head o s) → ⊥
      lower s r w x y h =
          let next : (q : ℕ) → q < points o → Non (turn (point o (head o s)) (point o (head o r)) (point o q)) = λ q l. subst (λ t. Non (turn (point o t) (point o (head o r)) (point o q))) (sym w.4) (hull_non o τ r q w.1 w.3 l) in
          no_lower (point o (tail o s)) (point o (head o s)) (point o (head o r)) (point o (apex o s)) (point o least.0) x y h
          (hull_non o τ s (head o r) w.0 w.2 (head_in o τ r w.1)) (hull_non o τ s least.0 w.0 w.2 least.1) (next least.0 least.1)
          (left_turn o τ s w.0) (next (apex o s) (apex_in o τ s w.0))
