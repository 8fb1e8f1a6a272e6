-- Floats on the grid: the float of a grid number, and what the tests of `on_grid` say. Assumes nothing.
use Rattle.std.proofs.Common.{◌≡◌, ℕ, zero, suc, ◌+◌, ◌-◌, ◌*◌, ◌/◌, ◌%◌, ◌^◌, ◌<◌, ◌≤◌, Bool, true, false, cond, not, ◌&&◌, T, eqb, ltb, pos, sym, refl, ap, ◌∙◌, subst, div-lt_iff_lt-mul, mul-one, arith, lit<, lit≤, le→leb, eqb→eq, ltb→lt, lt→ltb}
use Prim.Native.Nat.{compare}
use lib.Ieee.{Format, prec, emax, low, Float, nan, inf, fin, binary64, up, down, lt, fits, is_nan, nan_bits, to_bits, of_bits, of_int, in_unsigned, in_float, to_unsigned, whole, odd, units, round, size, nearest}
use lib.Ieee.Fits.{and_r, round_is, of_int-fits, eq→eqb, down_pos}
use lib.Ieee.Bits.{of_bits-to_bits}
use lib.Ieee.Back.{unsigned_back, Float-back_unsigned}

pub same_test : (a b : Bool) → (T a → T b) → (T b → T a) → a ≡ b
same_test true true f g = refl
same_test true false f g = absurd (f tt)
same_test false true f g = absurd (g tt)
same_test false false f g = refl

pub holds : {b : Bool} → b ≡ true → T b
holds e = subst T (sym e) tt

pub fails : {b : Bool} → b ≡ false → T b → ⊥
fails e t = subst T e t

pub no_test : (b : Bool) → (T b → ⊥) → false ≡ b
no_test true f = absurd (f tt)
no_test false f = refl

-- a whole number up to 2 ^ 53 is a float
pub small_fits : (n : ℕ) → n < 2 ^ 14 → T (in_float binary64 (pos n))
unfolding in_float
small_fits n h = le→leb n (2 ^ 53) (omega arith)

-- ... and its float comes back as the number, at any width that it fits
pub comes_back : (w n : ℕ) → n < 2 ^ 14 → n < 2 ^ w → T (in_unsigned binary64 w (of_int binary64 (pos n))) × (to_unsigned w (of_int binary64 (pos n)) ≡ n)
comes_back w n h k = unsigned_back binary64 w n (small_fits n h) k

pub finite_no_nan : (w : ℕ) (x : Float) → T (in_unsigned binary64 w x) → T (not (is_nan x))
unfolding in_unsigned is_nan
finite_no_nan w nan t = absurd t
finite_no_nan w (inf s) t = absurd t
finite_no_nan w (fin s m e) t = tt

-- a float on the grid is the float of its number
module _ (x : Float) (f : T (fits binary64 x)) (t : T (in_unsigned binary64 14 x)) where
  pub is_number : of_int binary64 (pos (to_unsigned 14 x)) ≡ x
  is_number = (Float-back_unsigned binary64 14 x f t).1

pub cut_lt : (w : ℕ) (x : Float) → T (in_unsigned binary64 w x) → to_unsigned w x < 2 ^ w
cut_lt w x t = lib.Ieee.Casts.to_unsigned-lt w x

-- what x is at another width, once it is on the grid
pub at_width : (w : ℕ) (x : Float) → T (fits binary64 x) → T (in_unsigned binary64 14 x) → 14 ≤ w → T (in_unsigned binary64 w x) × (to_unsigned w x ≡ to_unsigned 14 x)
at_width w x f t h =
    let n = to_unsigned 14 x in
    let n-lt : n < 2 ^ 14 = cut_lt 14 x t in
    let wide : n < 2 ^ w = native.Mathlib.Nat.lt_of_lt_of_le n-lt (lib.Pow.pow_mono h) in
    let b = comes_back w n n-lt wide in (
      subst (λ (y : Float). T (in_unsigned binary64 w y)) (is_number x f t) b.0,
      ap (to_unsigned w) (sym (is_number x f t)) ∙ b.1,
    )

-- ---- the tests of on_grid

-- above -1 and below 2 ^ 14
pub above : (x : Float) → T (in_unsigned binary64 14 x) → T (lt (fin true 1 (pos 0)) x)
unfolding in_unsigned lt
above nan t = absurd t
above (inf s) t = absurd t
above (fin true m e) t = absurd (and_r (whole binary64 (fin true m e)) (false && ltb (m * up e / down e) (2 ^ 14)) t)
above (fin false m e) t = lt→ltb 0 (1 * 1 * down e + m * up e * 1) (omega (arith, down_pos e))

pub below : (x : Float) → T (in_unsigned binary64 14 x) → T (lt x (fin false 1 (pos 14)))
unfolding in_unsigned lt
below nan t = absurd t
below (inf s) t = absurd t
below (fin true m e) t = absurd (and_r (whole binary64 (fin true m e)) (false && ltb (m * up e / down e) (2 ^ 14)) t)
below (fin false m e) t =
    let q : m * up e / down e < 2 ^ 14 = ltb→lt (m * up e / down e) (2 ^ 14) (and_r (whole binary64 (fin false m e)) (true && ltb (m * up e / down e) (2 ^ 14)) t) in
    let p : m * up e < 2 ^ 14 * down e = (div-lt_iff_lt-mul (down_pos e)).0 q in
    lt→ltb (m * up e * 1) (1 * 2 ^ 14 * down e) (rw mul-one p)

-- a bound that is below another
pub looser : (x : Float) → T (lt x (fin false 1 (pos 14))) → T (lt x (fin false 1 (pos 64)))
unfolding lt
looser nan t = t
looser (inf s) t = t
looser (fin true m e) t = lt→ltb 0 (m * up e * 1 + 1 * 2 ^ 64 * down e) (omega (arith, down_pos e))
looser (fin false m e) t =
    let p : m * up e * 1 < 1 * 2 ^ 14 * down e = ltb→lt (m * up e * 1) (1 * 2 ^ 14 * down e) t in
    lt→ltb (m * up e * 1) (1 * 2 ^ 64 * down e) (omega arith)

-- the whole part of a float below 2 ^ 14
pub part_lt : (x : Float) → T (lt x (fin false 1 (pos 14))) → to_unsigned 64 x < 2 ^ 14
unfolding lt to_unsigned
part_lt nan t = absurd t
part_lt (inf true) t = lit< tt
part_lt (inf false) t = absurd t
part_lt (fin true m e) t = lit< tt
part_lt (fin false m e) t =
    let p : m * up e * 1 < 1 * 2 ^ 14 * down e = ltb→lt (m * up e * 1) (1 * 2 ^ 14 * down e) t in
    let q : m * up e / down e < 2 ^ 14 = (div-lt_iff_lt-mul (down_pos e)).1 (rw mul-one at p) in
    omega arith

-- the comparison of the two patterns
pub patterns : (x : Float) → T (fits binary64 x) → T (lt x (fin false 1 (pos 14)))
    → eqb (to_bits binary64 (of_int binary64 (pos (to_unsigned 64 x)))) (to_bits binary64 x) ≡ in_unsigned binary64 14 x
patterns x f l =
    let n : ℕ = to_unsigned 64 x in
    let to : T (eqb (to_bits binary64 (of_int binary64 (pos n))) (to_bits binary64 x)) → T (in_unsigned binary64 14 x) = λ t.
    let e : to_bits binary64 (of_int binary64 (pos n)) ≡ to_bits binary64 x = eqb→eq (to_bits binary64 (of_int binary64 (pos n))) (to_bits binary64 x) t in
    let same : of_int binary64 (pos n) ≡ x = sym (of_bits-to_bits binary64 (of_int binary64 (pos n)) (of_int-fits binary64 (pos n))) ∙ ap (of_bits binary64) e ∙ of_bits-to_bits binary64 x f in
    subst (λ (y : Float). T (in_unsigned binary64 14 y)) same (comes_back 14 n (part_lt x l) (part_lt x l)).0 in
    let from : T (in_unsigned binary64 14 x) → T (eqb (to_bits binary64 (of_int binary64 (pos n))) (to_bits binary64 x)) = λ t.
    eq→eqb (ap (λ (k : ℕ). to_bits binary64 (of_int binary64 (pos k))) (at_width 64 x f t (lit≤ tt)).1 ∙ ap (to_bits binary64) (is_number x f t)) in
    same_test (eqb (to_bits binary64 (of_int binary64 (pos n))) (to_bits binary64 x)) (in_unsigned binary64 14 x) to from

-- ---- patterns and grid numbers

odd_no_nan : (d : ℕ) (s : Bool) (q k l : ℕ) → T (not (is_nan (odd d s q k l)))
unfolding odd is_nan
odd_no_nan d s zero k l = tt
odd_no_nan d s (suc q) k l = tt

units_no_nan : (b : Bool) (s : Bool) (x : Float) → T (not (is_nan x)) → T (not (is_nan (cond b x (inf s))))
units_no_nan true s x t = t
units_no_nan false s x t = unfold is_nan in tt

rounded_no_nan : (f : Format) (s : Bool) (q k : ℕ) → T (not (is_nan (units f s q k)))
unfolding units
rounded_no_nan f s q k = units_no_nan (ltb (q * 2 ^ k) (2 ^ (low f + suc (emax f)))) s (odd (suc (prec f)) s q k (low f)) (odd_no_nan (suc (prec f)) s q k (low f))

round_no_nan : (f : Format) (s : Bool) (num den : ℕ) → T (not (is_nan (round f s num den)))
round_no_nan f s num den =
    let n : ℕ = num * 2 ^ low f in
    let k : ℕ = size (n / den) - prec f in
    rw (round_is f s num den) (rounded_no_nan f s (nearest (n / (den * 2 ^ k)) (compare (n % (den * 2 ^ k) * 2) (den * 2 ^ k))) k)

-- a number's float is no NaN
pub number_no_nan : (n : ℕ) → T (not (is_nan (of_int binary64 (pos n))))
unfolding of_int
number_no_nan n = round_no_nan binary64 false n 1
