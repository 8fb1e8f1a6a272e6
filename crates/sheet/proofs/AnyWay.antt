-- Which way a ray goes does not matter: from a point that is not on the border of some triangles, a ray leaves them as often in every direction;
-- the differences of one side cancel along the border. Assumes nothing.
use mathlib.Core.Path.{◌≡◌, refl, sym, ◌∙◌, ap, ap₂}
use mathlib.Core.Bool.{Bool, true, false, cond}
use mathlib.Core.Logic.{◌↔◌}
use mathlib.Core.List.{[], ◌∷◌}
use Prim.Native.Nat.{ℕ, ◌+◌, ◌*◌, ◌<◌}
use lib.IntN.{ℤ, pos, ◌+ℤ◌, ◌-ℤ◌, ◌*ℤ◌, +ℤ_idr}
use Rattle.laws.proofs.Solve.{v, k, ◌:+◌, ◌:-◌, ◌:*◌, solve}
use Rattle.sheet.specs.Plane.{Point}
use Rattle.sheet.specs.Office.{Office, sides, triangles, point, tail, head}
use Rattle.sheet.proofs.Sign.{Pos, Sign, above, null, under, sign, opp, pos_is, less_out}
use Rattle.sheet.proofs.Total.{total, total_same, total_add, total_zero}
use Rattle.sheet.proofs.Tiling.{Tiling, Even}
use Rattle.sheet.proofs.Cancel.{Border, border_total}
use Rattle.sheet.proofs.Mesh.{triple, triples}
use Rattle.sheet.proofs.Ray.{cross, cross_anti}
use Rattle.sheet.proofs.Spin.{Off, sector, differs}

-- how often a ray from p leaves the triangles N
abbrev pub around_by : Office → (ℕ → Bool) → Point → ℤ → ℤ → ℤ
around_by o N p wx wy = total (λ t. cond (N (t * 3)) (triple o (λ i j. cross p wx wy (point o i) (point o j)) t) (pos 0)) (triangles o)

-- ---- along the border B of the triangles N, which p does not lie on
module _ (o : Office) (τ : Tiling o) (N : ℕ → Bool) (even : Even N) (B : ℕ → Bool) (border : (s : ℕ) → s < sides o → (B s ≡ true) ↔ Border o N s) (p : Point)
    (off : (s : ℕ) → s < sides o → B s ≡ true → Off p (point o (tail o s)) (point o (head o s))) where
  abbrev F : ℤ → ℤ → ℕ → ℕ → ℤ
  F wx wy i j = cross p wx wy (point o i) (point o j)

  abbrev W : ℤ → ℤ → ℤ
  W wx wy = around_by o N p wx wy

  -- less than a half turn to the left
  one_turn : (ux uy vx vy : ℤ) → Pos (ux *ℤ vy -ℤ uy *ℤ vx) → W ux uy ≡ W vx vy
  one_turn ux uy vx vy left =
      total_same _ _ (triangles o) (λ t l. split (N (t * 3)) _ _ _ (parts (tail o (t * 3)) (tail o (t * 3 + 1)) (tail o (t * 3 + 2))))
      ∙ total_add _ _ (triangles o)
      ∙ ap (λ z. W vx vy +ℤ z) (sym (triples o τ N G even) ∙ border_total o N G anti τ.single B border ∙ total_zero _ (sides o) (λ s l. gone s l (B s) refl))
      ∙ +ℤ_idr (W vx vy)
    where
      φ : ℕ → ℤ
      φ i = sector p ux uy vx vy left (point o i)

      G : ℕ → ℕ → ℤ
      G i j = F ux uy i j -ℤ (F vx vy i j +ℤ (φ j -ℤ φ i))

      anti : (i j : ℕ) → G i j ≡ opp (G j i)
      anti i j =
          ap₂ (λ x y. x -ℤ (y +ℤ (φ j -ℤ φ i))) (cross_anti p ux uy (point o i) (point o j)) (cross_anti p vx vy (point o i) (point o j))
          ∙ solve (k (pos 0) :- v 0 :- (k (pos 0) :- v 1 :+ (v 3 :- v 2))) (k (pos 0) :- (v 0 :- (v 1 :+ (v 2 :- v 3)))) (F ux uy j i ∷ F vx vy j i ∷ φ i ∷ φ j ∷ []) tt

      parts : (i j l : ℕ) → F ux uy i j +ℤ F ux uy j l +ℤ F ux uy l i ≡ F vx vy i j +ℤ F vx vy j l +ℤ F vx vy l i +ℤ (G i j +ℤ G j l +ℤ G l i)
      parts i j l =
          solve (v 0 :+ v 1 :+ v 2) (v 3 :+ v 4 :+ v 5 :+ (v 0 :- (v 3 :+ (v 7 :- v 6)) :+ (v 1 :- (v 4 :+ (v 8 :- v 7))) :+ (v 2 :- (v 5 :+ (v 6 :- v 8)))))
          (F ux uy i j ∷ F ux uy j l ∷ F ux uy l i ∷ F vx vy i j ∷ F vx vy j l ∷ F vx vy l i ∷ φ i ∷ φ j ∷ φ l ∷ []) tt

      split : (b : Bool) (x y z : ℤ) → x ≡ y +ℤ z → cond b x (pos 0) ≡ cond b y (pos 0) +ℤ cond b z (pos 0)
      split true x y z e = e
      split false x y z e = refl

      gone : (s : ℕ) → s < sides o → (b : Bool) → B s ≡ b → cond b (G (tail o s) (head o s)) (pos 0) ≡ pos 0
      gone s l true e = less_out (differs p ux uy vx vy left (point o (tail o s)) (point o (head o s)) (off s l e))
      gone s l false e = refl

  -- any direction is as good as to the right
  pub any_way : (wx wy : ℤ) → (wx ≡ pos 0 → wy ≡ pos 0 → ⊥) → W (pos 1) (pos 0) ≡ W wx wy
  any_way wx wy moves = step (sign wy) (sign wx)
    where
      step : Sign wy → Sign wx → W (pos 1) (pos 0) ≡ W wx wy
      step (above h) s = one_turn (pos 1) (pos 0) wx wy (pos_is (solve (v 1) (k (pos 1) :* v 1 :- k (pos 0) :* v 0) (wx ∷ wy ∷ []) tt) h)
      step (under h) s = sym (one_turn wx wy (pos 1) (pos 0) (pos_is (solve (k (pos 0) :- v 1) (v 0 :* k (pos 0) :- v 1 :* k (pos 1)) (wx ∷ wy ∷ []) tt) h))
      step (null e) (null d) = absurd (moves d e)
      step (null e) (above h) = one_turn (pos 1) (pos 0) (pos 0) (pos 1) (record { by = 0; is = refl }) ∙ sym (one_turn wx wy (pos 0) (pos 1) (pos_is (solve (v 0) (v 0 :* k (pos 1) :- v 1 :* k (pos 0)) (wx ∷ wy ∷ []) tt) h))
      step (null e) (under h) = one_turn (pos 1) (pos 0) (pos 0) (pos 1) (record { by = 0; is = refl }) ∙ one_turn (pos 0) (pos 1) wx wy (pos_is (solve (k (pos 0) :- v 0) (k (pos 0) :* v 1 :- k (pos 1) :* v 0) (wx ∷ wy ∷ []) tt) h)
