-- The in-circle value is linear in x, y and x² + y²; how great its coefficients can be. Assumes nothing.
use mathlib.Core.Path.{◌≡◌, refl, sym, ap, subst, ◌∙◌}
use mathlib.Core.List.{List, [], ◌∷◌}
use Prim.Native.Nat.{ℕ, ◌+◌, ◌*◌, ◌<◌, ◌≤◌}
use native.Mathlib.Nat.{mul-le-mul}
use native.Mathlib.Omega.{arith}
use lib.IntN.{ℤ, pos, nat_abs, ◌+ℤ◌, ◌-ℤ◌, ◌*ℤ◌}
use lib.ListN.{get_or, take}
use lib.Signed.{lt_z}
use Rattle.laws.specs.First.{table}
use mir.Syntax.{w64}
use mir.Val.{to_z, of_z}
use mir.Facts.{to_z-of_z}
use Rattle.laws.proofs.Exact.{fits}
use Rattle.laws.proofs.Whole.{size_diff, size_add, size_sub, size_mul}
use Rattle.laws.proofs.Fill.{table_at}
use Rattle.laws.proofs.Solve.{Ex, v, ◌:+◌, ◌:-◌, ◌:*◌, solve}
use Rattle.sheet.specs.Plane.{Point, Small, spot, dx, dy, turn, squared, circle}
use Rattle.sheet.specs.Office.{Office, points, point, tail, inside}
use Rattle.sheet.specs.Code.{Plotted, At, height, Coefficients, raised, swept, linear}
use Rattle.sheet.proofs.AtPoint.{spot_at}
use Rattle.sheet.proofs.Length.{turn_bound}

-- what a call of a small number gives, in 64 bits, and a sum of three products of such
pub got : {r z : ℤ} → (r ≡ z) × (nat_abs r ≤ 536805378) → to_z w64 (of_z w64 r) ≡ z
got {r} h = to_z-of_z (fits w64 536805378 r r refl h.1 tt) ∙ h.0

pub weighed : {a u b v c w a' u' b' v' c' w' : ℤ} → a ≡ a' → u ≡ u' → b ≡ b' → v ≡ v' → c ≡ c' → w ≡ w'
    → a *ℤ u +ℤ b *ℤ v +ℤ c *ℤ w ≡ a' *ℤ u' +ℤ b' *ℤ v' +ℤ c' *ℤ w'
weighed e f g h i j = cc

-- a point is the index of its x
abbrev turn_e : ℕ → ℕ → ℕ → Ex
turn_e a b c = (v b :- v a) :* (v (c + 1) :- v (a + 1)) :- (v (b + 1) :- v (a + 1)) :* (v c :- v a)

abbrev squared_e : ℕ → ℕ → Ex
squared_e a b = (v b :- v a) :* (v b :- v a) :+ (v (b + 1) :- v (a + 1)) :* (v (b + 1) :- v (a + 1))

abbrev raised_e : ℕ → Ex
raised_e a = v a :* v a :+ v (a + 1) :* v (a + 1)

abbrev cross_e : ℕ → ℕ → Ex
cross_e a b = v a :* v (b + 1) :- v b :* v (a + 1)

module _ (a b c d : Point) where
  pub circle_linear : circle a b c d
      ≡ (raised a *ℤ dy c b +ℤ raised b *ℤ dy a c +ℤ raised c *ℤ dy b a) *ℤ pos d.x
      +ℤ (raised a *ℤ dx b c +ℤ raised b *ℤ dx c a +ℤ raised c *ℤ dx a b) *ℤ pos d.y
      +ℤ (raised a *ℤ swept b c +ℤ raised b *ℤ swept c a +ℤ raised c *ℤ swept a b)
      -ℤ turn a b c *ℤ raised d
  unfolding circle squared turn
  circle_linear =
      solve (squared_e 6 0 :* turn_e 6 2 4 :+ squared_e 6 2 :* turn_e 6 4 0 :+ squared_e 6 4 :* turn_e 6 0 2)
      ((raised_e 0 :* (v 3 :- v 5) :+ raised_e 2 :* (v 5 :- v 1) :+ raised_e 4 :* (v 1 :- v 3)) :* v 6
      :+ (raised_e 0 :* (v 4 :- v 2) :+ raised_e 2 :* (v 0 :- v 4) :+ raised_e 4 :* (v 2 :- v 0)) :* v 7
      :+ (raised_e 0 :* cross_e 2 4 :+ raised_e 2 :* cross_e 4 0 :+ raised_e 4 :* cross_e 0 2)
      :- turn_e 0 2 4 :* raised_e 6)
      (pos a.x ∷ pos a.y ∷ pos b.x ∷ pos b.y ∷ pos c.x ∷ pos c.y ∷ pos d.x ∷ pos d.y ∷ []) tt

  -- the same by the coefficients
  pub circle_by : {across up rest lift : ℤ} → Coefficients a b c across up rest lift → linear across up rest lift d.x d.y (d.x * d.x + d.y * d.y) ≡ circle a b c d
  circle_by f = let i = f.across_is in let j = f.up_is in let l = f.rest_is in let m = f.lift_is in let n = circle_linear in cc

-- how great the coefficients can be
pub record Bounded (across up rest lift : ℤ) : Type 0 where
  pub across_fits : nat_abs across ≤ 26383447523322
  pub up_fits : nat_abs up ≤ 26383447523322
  pub rest_fits : nat_abs rest ≤ 864480041549168652
  pub lift_fits : nat_abs lift ≤ 536805378

raised_fits : (a : Point) → Small a → nat_abs (raised a) ≤ 536805378
raised_fits a s = omega (arith, mul-le-mul s.0 s.0, mul-le-mul s.1 s.1)

cross_fits : (a b : Point) → Small a → Small b → nat_abs (swept a b) ≤ 536805378
cross_fits a b p q = size_sub (pos a.x *ℤ pos b.y) (pos b.x *ℤ pos a.y) (size_mul (pos a.x) (pos b.y) p.0 q.1) (size_mul (pos b.x) (pos a.y) q.0 p.1)

weighted_fits : {m n : ℕ} (a u b y c w : ℤ) → nat_abs a ≤ m → nat_abs u ≤ n → nat_abs b ≤ m → nat_abs y ≤ n → nat_abs c ≤ m → nat_abs w ≤ n
    → nat_abs (a *ℤ u +ℤ b *ℤ y +ℤ c *ℤ w) ≤ m * n + m * n + m * n
weighted_fits a u b y c w i j h l m n = size_add (a *ℤ u +ℤ b *ℤ y) (c *ℤ w) (size_add (a *ℤ u) (b *ℤ y) (size_mul a u i j) (size_mul b y h l)) (size_mul c w m n)

pub coefficients_fit : {a b c : Point} {across up rest lift : ℤ} → Small a → Small b → Small c → Coefficients a b c across up rest lift → Bounded across up rest lift
coefficients_fit {a} {b} {c} {across} {up} {rest} {lift} p q r f = record {
  across_fits = subst (λ z. nat_abs z ≤ 26383447523322) (sym f.across_is) (weighted_fits (raised a) (dy c b) (raised b) (dy a c) (raised c) (dy b a) (raised_fits a p) (size_diff b.y c.y q.1 r.1) (raised_fits b q) (size_diff c.y a.y r.1 p.1) (raised_fits c r) (size_diff a.y b.y p.1 q.1));
  up_fits = subst (λ z. nat_abs z ≤ 26383447523322) (sym f.up_is) (weighted_fits (raised a) (dx b c) (raised b) (dx c a) (raised c) (dx a b) (raised_fits a p) (size_diff c.x b.x r.0 q.0) (raised_fits b q) (size_diff a.x c.x p.0 r.0) (raised_fits c r) (size_diff b.x a.x q.0 p.0));
  rest_fits = subst (λ z. nat_abs z ≤ 864480041549168652) (sym f.rest_is) (weighted_fits (raised a) (swept b c) (raised b) (swept c a) (raised c) (swept a b) (raised_fits a p) (cross_fits b c q r) (raised_fits b q) (cross_fits c a r p) (raised_fits c r) (cross_fits a b p q));
  lift_fits = subst (λ z. nat_abs z ≤ 536805378) (sym f.lift_is) (turn_bound a b c p q r);
}

-- the test that the code makes at point p is whether it lies inside the circle of triangle t
pub inside_at : (o : Office) (t p : ℕ) (raised' : List ℕ) {ax ay bx by cx cy : ℕ} {across up rest lift : ℤ}
    → At o (tail o (t * 3)) ax ay → At o (tail o (t * 3 + 1)) bx by → At o (tail o (t * 3 + 2)) cx cy
    → Coefficients (spot ax ay) (spot bx by) (spot cx cy) across up rest lift
    → take (points o) raised' ≡ table (height o.xs o.ys) (points o) → p < points o
    → lt_z (pos 0) (linear across up rest lift (get_or o.xs p 0) (get_or o.ys p 0) (get_or raised' p 0)) ≡ inside o t p
inside_at o t p l {ax} {ay} {bx} {by} {cx} {cy} {across} {up} {rest} {lift} a b c f e r =
    let i = spot_at a in
    let j = spot_at b in
    let m = spot_at c in
    let h = table_at (height o.xs o.ys) (points o) l p e r in
    let z = circle_by _ _ _ (point o p) f in
    let w : circle (spot ax ay) (spot bx by) (spot cx cy) (point o p) ≡ circle (point o (tail o (t * 3))) (point o (tail o (t * 3 + 1))) (point o (tail o (t * 3 + 2))) (point o p) = cc in
    ap (λ n. lt_z (pos 0) (linear across up rest lift (get_or o.xs p 0) (get_or o.ys p 0) n)) h ∙ ap (lt_z (pos 0)) (z ∙ w)

pub height_fits : (o : Office) (p : ℕ) (raised' : List ℕ) → Plotted o → take (points o) raised' ≡ table (height o.xs o.ys) (points o) → p < points o → get_or raised' p 0 ≤ 536805378
height_fits o p l q e r = let s = q.small p r in let h = table_at (height o.xs o.ys) (points o) l p e r in omega (arith, mul-le-mul s.0 s.0, mul-le-mul s.1 s.1)
