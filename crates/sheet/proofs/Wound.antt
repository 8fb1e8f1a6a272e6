-- A ray to the right leaves some triangles of a sheet once or not at all, once only where its start lies in one of them, edges counted, and
-- always where it does and is not on their border. Assumes nothing.
use mathlib.Core.Path.{◌≡◌, refl, sym, ap}
use mathlib.Core.Bool.{Bool, true, false, cond}
use mathlib.Core.Logic.{◌↔◌, ◌⊎◌, inl, inr}
use mathlib.Core.List.{[], ◌∷◌}
use Prim.Native.Nat.{ℕ, zero, suc, ◌*◌, ◌<◌}
use native.Mathlib.Omega.{arith}
use lib.IntN.{ℤ, pos, ◌-ℤ◌, ◌*ℤ◌}
use Rattle.laws.proofs.Solve.{v, k, ◌:+◌, ◌:-◌, ◌:*◌, solve}
use Rattle.sheet.specs.Plane.{Point}
use Rattle.sheet.specs.Office.{Office, sides, triangles, point, tail, head}
use Rattle.sheet.proofs.Sign.{Pos, Non, opp, pos_is, non_is, pos-add, non_add, pos_less, non_zero, either, both, never, exact, out_less}
use Rattle.sheet.proofs.Total.{total, total_non, total_pos}
use Rattle.sheet.proofs.Swap.{total_scaled}
use Rattle.sheet.proofs.Tiling.{Tiling, Even, at_triangle, area_pos}
use Rattle.sheet.proofs.Cancel.{Border}
use Rattle.sheet.proofs.Mesh.{triple, triples}
use Rattle.sheet.proofs.Cross.{turn_split}
use Rattle.sheet.proofs.Ray.{cross, around}
use Rattle.sheet.proofs.Wind.{once_around}
use Rattle.sheet.proofs.Spin.{Off}
use Rattle.sheet.proofs.AnyWay.{around_by, any_way}
use Rattle.sheet.proofs.Pierced.{Covers, left_covers, moves}
use Rattle.sheet.proofs.Middle.{aim}

-- a sum above 0 has something above 0
total_some : (f : ℕ → ℤ) (n : ℕ) → Pos (total f n) → (i : ℕ) × (i < n) × Pos (f i)
unfolding total
total_some f zero h = absurd (never h refl)
total_some f (suc n) h = step (either (f n)) (total_some f n)
  where
    step : Pos (f n) ⊎ Non (opp (f n)) → (Pos (total f n) → (i : ℕ) × (i < n) × Pos (f i)) → (i : ℕ) × (i < suc n) × Pos (f i)
    step (inl x) ih = (n, omega arith, x)
    step (inr x) ih = let (i, l, y) = ih (pos_is (solve (v 0 :+ v 1 :+ (k (pos 0) :- v 1)) (v 0) (total f n ∷ f n ∷ []) tt) (pos-add h x)) in (i, omega arith, y)

module _ (o : Office) (τ : Tiling o) (N : ℕ → Bool) (p : Point) where
  abbrev F : ℤ → ℤ → ℕ → ℕ → ℤ
  F wx wy i j = cross p wx wy (point o i) (point o j)

  -- how often a ray to the right leaves the triangles N
  abbrev W : ℤ
  W = around_by o N p (pos 1) (pos 0)

  -- how often a ray leaves one of them
  abbrev term : ℤ → ℤ → ℕ → ℤ
  term wx wy t = cond (N (t * 3)) (triple o (F wx wy) t) (pos 0)

  -- p lies in triangle t, edges counted
  abbrev pub Held : ℕ → Type 0
  Held = at_triangle o (λ a b c. Covers p (point o a) (point o b) (point o c))

  triple_non : (wx wy : ℤ) (t : ℕ) → t < triangles o → Non (triple o (F wx wy) t)
  triple_non wx wy t l = around p wx wy _ _ _ (pos_is (turn_split p _ _ _) (area_pos o τ t l))

  term_non : (wx wy : ℤ) (t : ℕ) → t < triangles o → Non (term wx wy t)
  term_non wx wy t l = step (N (t * 3)) (triple_non wx wy t l)
    where
      step : (b : Bool) {x : ℤ} → Non x → Non (cond b x (pos 0))
      step true h = h
      step false h = non_zero refl

  -- they are some of all triangles, which are left once at most
  once_at_most : Non (pos 1 -ℤ W)
  once_at_most =
      non_is (solve (k (pos 1) :- v 0 :+ (k (pos 1) :* v 0 :- v 1)) (k (pos 1) :- v 1) (total all (triangles o) ∷ W ∷ []) tt)
      (non_add (non_is (ap (λ z. pos 1 -ℤ z) (triples o τ (λ s. true) (F (pos 1) (pos 0)) (λ t. (refl, refl)))) (once_around o τ p (pos 1) (pos 0)))
      (total_scaled (pos 1) (term (pos 1) (pos 0)) all (triangles o) (λ t l. step (N (t * 3)) (triple_non (pos 1) (pos 0) t l))))
    where
      all : ℕ → ℤ
      all t = triple o (F (pos 1) (pos 0)) t

      step : (b : Bool) {x : ℤ} → Non x → Non (pos 1 *ℤ x -ℤ cond b x (pos 0))
      step true {x} h = non_zero (solve (k (pos 1) :* v 0 :- v 0) (k (pos 0)) (x ∷ []) tt)
      step false {x} h = non_is (solve (v 0) (k (pos 1) :* v 0 :- k (pos 0)) (x ∷ []) tt) h

  pub left_once : Pos W → W ≡ pos 1
  left_once h = out_less (exact (pos_less h) (λ x. both x (non_is (solve (k (pos 1) :- v 0) (k (pos 0) :- (v 0 :- k (pos 1))) (W ∷ []) tt) once_at_most)))

  pub not_left : (Pos W → ⊥) → W ≡ pos 0
  not_left = exact (total_non (term (pos 1) (pos 0)) (triangles o) (term_non (pos 1) (pos 0)))

  -- left through a triangle that p lies in
  pub left_held : Pos W → (t : ℕ) × (t < triangles o) × (N (t * 3) ≡ true) × Held t
  left_held h = let (t, l, x) = total_some (term (pos 1) (pos 0)) (triangles o) h in step t l (N (t * 3)) refl x
    where
      step : (t : ℕ) → t < triangles o → (b : Bool) → N (t * 3) ≡ b → Pos (cond b (triple o (F (pos 1) (pos 0)) t) (pos 0)) → (t : ℕ) × (t < triangles o) × (N (t * 3) ≡ true) × Held t
      step t l true e x = (t, l, e, left_covers p (pos 1) (pos 0) _ _ _ x)
      step t l false e x = absurd (never x refl)

  -- from a triangle that p lies in some ray leaves, so the ray to the right does
  pub held_left : Even N → (B : ℕ → Bool) → ((s : ℕ) → s < sides o → (B s ≡ true) ↔ Border o N s)
      → ((s : ℕ) → s < sides o → B s ≡ true → Off p (point o (tail o s)) (point o (head o s))) → (t : ℕ) → t < triangles o → N (t * 3) ≡ true → Held t → Pos W
  held_left even B border off t l e h =
      let (wx, wy, x) = aim p _ _ _ h (pos_is (turn_split p _ _ _) (area_pos o τ t l)) in
      pos_is (sym (any_way o τ N even B border p off wx wy (moves p wx wy _ _ _ x)))
      (total_pos (term wx wy) (triangles o) (term_non wx wy) t l (pos_is (sym (ap (λ b. cond b (triple o (F wx wy) t) (pos 0)) e)) x))
