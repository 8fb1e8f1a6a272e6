-- What a float is as a coordinate, and the two laws of judging and writing: a grid number's pattern is judged as that number, and a pattern
-- that is judged as a grid number is that number's. Assumes nothing.
use Rattle.std.proofs.Common.{◌≡◌, ℕ, ◌^◌, ◌<◌, ◌≤◌, Bool, true, false, cond, ◌&&◌, T, ◌⊎◌, ◌↔◌, ℤ, pos, sym, refl, ap, ◌∙◌, subst, inl, inr, arith}
use lib.Ieee.{Float, nan, inf, fin, binary64, fits, to_bits, of_bits, of_int, in_unsigned, to_unsigned, whole}
use lib.Ieee.Fits.{of_int-fits}
use lib.Ieee.Bits.{of_bits-to_bits, to_bits-of_bits, of_bits-fits}
use Rattle.std.specs.Float.{float_is_finite}
use Rattle.shape.specs.declared.Coordinate.TheVariants.{Grid, OffGrid, NotFinite}
use Rattle.shape.specs.Coordinates.{coordinate, encode}
use Rattle.shape.proofs.Floats.{comes_back, finite_no_nan, is_number, cut_lt}

-- the judgement of a float on the grid
pub judged_grid : (x : Float) → T (in_unsigned binary64 14 x) → coordinate x ≡ Grid (to_unsigned 14 x)
judged_grid nan t = absurd (unfold in_unsigned in t)
judged_grid (inf s) t = absurd (unfold in_unsigned in t)
judged_grid (fin s m e) t = go (in_unsigned binary64 14 (fin s m e)) t
  where
    go : (b : Bool) → T b → cond b (Grid (to_unsigned 14 (fin s m e))) (OffGrid (fin s m e)) ≡ Grid (to_unsigned 14 (fin s m e))
    go true u = refl
    go false u = absurd u

-- ... of a finite one off it, and of the others
pub judged_off : (x : Float) → in_unsigned binary64 14 x ≡ false → float_is_finite x ≡ true → OffGrid x ≡ coordinate x
unfolding float_is_finite
judged_off nan g a = cc
judged_off (inf s) g a = cc
judged_off (fin s m e) g a = sym (ap (λ (t : Bool). cond t (Grid (to_unsigned 14 (fin s m e))) (OffGrid (fin s m e))) g)

pub judged_infinite : (x : Float) → float_is_finite x ≡ false → NotFinite ≡ coordinate x
unfolding float_is_finite
judged_infinite nan b = refl
judged_infinite (inf s) b = refl
judged_infinite (fin s m e) b = cc

-- ---- the two laws of judging and writing

-- a grid number's pattern is judged as that number
pub judge_encode : (g : ℕ) → g < 2 ^ 14 → coordinate (of_bits binary64 (encode g)) ≡ Grid g
judge_encode g h =
    let b = comes_back 14 g h h in
    ap coordinate (of_bits-to_bits binary64 (of_int binary64 (pos g)) (of_int-fits binary64 (pos g))) ∙ judged_grid (of_int binary64 (pos g)) b.0 ∙ ap Grid b.1

grid_only : (x : Float) (g : ℕ) → coordinate x ≡ Grid g → T (in_unsigned binary64 14 x) × (to_unsigned 14 x ≡ g)
grid_only nan g e = let z : ◌≡◌ {A = ℕ} 0 1 = cc in absurd (omega arith)
grid_only (inf s) g e = let z : ◌≡◌ {A = ℕ} 0 1 = cc in absurd (omega arith)
grid_only (fin s m e) g q = go (in_unsigned binary64 14 (fin s m e)) q
  where
    go : (b : Bool) → cond b (Grid (to_unsigned 14 (fin s m e))) (OffGrid (fin s m e)) ≡ Grid g → T b × (to_unsigned 14 (fin s m e) ≡ g)
    go true p = (tt, cc)
    go false p = let z : ◌≡◌ {A = ℕ} 0 1 = cc in absurd (omega arith)

-- a pattern that is judged as a grid number is that number's pattern
pub encode_judge : (b g : ℕ) → b < 2 ^ 64 → coordinate (of_bits binary64 b) ≡ Grid g → (b ≡ encode g) × (g < 2 ^ 14)
encode_judge b g h e =
    let x : Float = of_bits binary64 b in
    let t = grid_only x g e in
    let n : of_int binary64 (pos g) ≡ x = ap (λ (k : ℕ). of_int binary64 (pos k)) (sym t.1) ∙ is_number x (of_bits-fits binary64 b) t.0 in
    (sym (to_bits-of_bits binary64 b h (finite_no_nan 14 x t.0)) ∙ ap (to_bits binary64) (sym n), subst (λ (k : ℕ). k < 2 ^ 14) t.1 (cut_lt 14 x t.0))

-- ---- what a coordinate is, exactly when

pub not_finite_exactly : (x : Float) → (coordinate x ≡ NotFinite) ↔ ((x ≡ nan) ⊎ ((s : Bool) × (x ≡ inf s)))
not_finite_exactly nan = ((λ e. inl refl), (λ h. refl))
not_finite_exactly (inf s) = ((λ e. inr (s, refl)), (λ h. refl))
not_finite_exactly (fin s m e) = (
  (λ q. absurd (never (in_unsigned binary64 14 (fin s m e)) q)),
  elim [ inl q ↦ absurd (let z : ◌≡◌ {A = ℕ} 0 1 = cc in omega arith) | inr q ↦ absurd (let p = q.1 in let z : ◌≡◌ {A = ℕ} 0 1 = cc in omega arith) ],
)
  where
    never : (b : Bool) → cond b (Grid (to_unsigned 14 (fin s m e))) (OffGrid (fin s m e)) ≡ NotFinite → ⊥
    never true q = let z : ◌≡◌ {A = ℕ} 0 1 = cc in omega arith
    never false q = let z : ◌≡◌ {A = ℕ} 0 1 = cc in omega arith

-- on the grid: the float is the number itself, so its sign bit is clear
pub grid_exactly : (x : Float) → T (fits binary64 x) → (g : ℕ) → (coordinate x ≡ Grid g) ↔ ((g ≤ 16383) × (x ≡ of_int binary64 (pos g)))
grid_exactly x f g = (
  (λ e.
      let t = grid_only x g e in
      let l : g < 2 ^ 14 = subst (λ (k : ℕ). k < 2 ^ 14) t.1 (cut_lt 14 x t.0) in
      (omega arith, sym (is_number x f t.0) ∙ ap (λ (k : ℕ). of_int binary64 (pos k)) t.1)),
  (λ h.
      let l = h.0 in
      let k : g < 2 ^ 14 = omega arith in
      let b = comes_back 14 g k k in
      ap coordinate h.1 ∙ judged_grid (of_int binary64 (pos g)) b.0 ∙ ap Grid b.1),
)

-- off the grid: the value is the float as it was read, and it is no grid number
pub off_grid_only : (x y : Float) → coordinate x ≡ OffGrid y → (x ≡ y) × ((g : ℕ) → g ≤ 16383 → x ≡ of_int binary64 (pos g) → ⊥)
off_grid_only nan y e = let z : ◌≡◌ {A = ℕ} 0 1 = cc in absurd (omega arith)
off_grid_only (inf s) y e = let z : ◌≡◌ {A = ℕ} 0 1 = cc in absurd (omega arith)
off_grid_only (fin s m e) y q = (
  same (in_unsigned binary64 14 (fin s m e)) q,
  (λ g l p.
      let k : g < 2 ^ 14 = omega arith in
      let b = comes_back 14 g k k in
      let n : coordinate (fin s m e) ≡ Grid (to_unsigned 14 (of_int binary64 (pos g))) = ap coordinate p ∙ judged_grid (of_int binary64 (pos g)) b.0 in
      let z : ◌≡◌ {A = ℕ} 0 1 = cc in absurd (omega arith)),
)
  where
    same : (b : Bool) → cond b (Grid (to_unsigned 14 (fin s m e))) (OffGrid (fin s m e)) ≡ OffGrid y → fin s m e ≡ y
    same true p = let z : ◌≡◌ {A = ℕ} 0 1 = cc in absurd (omega arith)
    same false p = cc

and-false : (b : Bool) → (b && false) ≡ false
and-false true = refl
and-false false = refl

-- with its sign bit set a finite value is off the grid, and stays as it was read: -0 stays -0
pub sign_off_grid : (m : ℕ) (e : ℤ) → coordinate (fin true m e) ≡ OffGrid (fin true m e)
unfolding in_unsigned
sign_off_grid m e =
    ap (λ (b : Bool). cond b (Grid (to_unsigned 14 (fin true m e))) (OffGrid (fin true m e))) (and-false (whole binary64 (fin true m e)))
