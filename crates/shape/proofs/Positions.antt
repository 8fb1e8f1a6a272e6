-- The writer's loops: positions put one after the other, a whole polygon, and coordinates in range. Assumes nothing.
use Rattle.std.proofs.Common.{◌≡◌, ℕ, ◌+◌, ◌-◌, ◌*◌, ◌<◌, ◌≤◌, Bool, false, not, ◌&&◌, eqb, leb, List, ◌++◌, length, get_or, drop, pos, sym, ap, ◌∙◌, arith, drop_of_length-le, eqb-true, leb-true}
use borrow.Rule.Slice.PartMut.{mid_of, put_mid}
use borrow.Author.Tests.{not-false}
use lib.Seq.{sets, length-sets}
use lib.Ieee.{Float, binary64, to_bits, of_int}
use Rattle.laws.proofs.Test.{and_iff}
use Rattle.laws.proofs.Put.{sets-append, put_next, put_rest}
use Rattle.shape.specs.Coordinates.{encode}
use Rattle.shape.specs.Bytes.{low_bytes}
use Rattle.shape.specs.Writing.{position, positions, around, head, polygon, size}
use Rattle.shape.proofs.Lengths.{position_length, positions_step, no_positions, positions_close, positions_length, head_length}

-- a position put at `at`, and then the others
module _ (out out' : List ℕ) (at a b : ℕ) (put : out' ≡ sets out at (position 1 a b)) where
  pub put_then : (l : List ℕ) → sets out' (at + 16) l ≡ sets out at (position 1 a b ++ l)
  put_then l =
      ap (λ (o : List ℕ). sets o (at + 16) l) put
      ∙ ap (λ (k : ℕ). sets (sets out at (position 1 a b)) (at + k) l) (sym (position_length 1 a b))
      ∙ sym (sets-append (position 1 a b) l out at)

-- the position's floats are those of the grid numbers
pub placed : (out out' : List ℕ) (at a b : ℕ) (px py : Float) → px ≡ of_int binary64 (pos a) → py ≡ of_int binary64 (pos b)
    → out' ≡ sets out at (low_bytes 8 (to_bits binary64 px) ++ low_bytes 8 (to_bits binary64 py)) → out' ≡ sets out at (position 1 a b)
placed out out' at a b px py e f p =
    p ∙ ap (λ (x : Float). sets out at (low_bytes 8 (to_bits binary64 x) ++ low_bytes 8 (to_bits binary64 py))) e
    ∙ ap (λ (y : Float). sets out at (low_bytes 8 (encode a) ++ low_bytes 8 (to_bits binary64 y))) f

-- the writer's loop: with i positions put, what is left makes of the output what the whole makes of it
abbrev pub Putting : List ℕ → List ℕ → List ℕ → ℕ → List ℕ → Type 0
Putting x y first i out = sets out (16 * i) (positions 1 (drop i x) (drop i y)) ≡ sets first 0 (positions 1 x y)

module _ (x y first : List ℕ) (same : length x ≡ length y) where
  pub putting_next : (out out' : List ℕ) (i : ℕ) → i < length x → out' ≡ sets out (16 * i) (position 1 (get_or x i 0) (get_or y i 0)) → Putting x y first i out → Putting x y first (i + 1) out'
  putting_next out out' i h p inv =
      let k : i < length y = omega arith in
      let e : 16 * (i + 1) ≡ 16 * i + 16 = omega arith in
      ap (λ (n : ℕ). sets out' n (positions 1 (drop (i + 1) x) (drop (i + 1) y))) e
      ∙ put_then out out' (16 * i) (get_or x i 0) (get_or y i 0) p (positions 1 (drop (i + 1) x) (drop (i + 1) y))
      ∙ ap (sets out (16 * i)) (sym (positions_step 1 x y i h k)) ∙ inv

  pub putting_last : (out out' : List ℕ) (i : ℕ) → i ≡ length x → Putting x y first i out → out' ≡ sets out (16 * length x) (position 1 (get_or x 0 0) (get_or y 0 0))
      → out' ≡ sets first 0 (positions 1 (around x) (around y))
  putting_last out out' i is inv p =
      let a : ℕ = get_or x 0 0 in
      let b : ℕ = get_or y 0 0 in
      let ge : length x ≤ i = omega arith in
      let done : out ≡ sets first 0 (positions 1 x y) =
      ap (sets out (16 * i)) (sym (no_positions 1 (drop i y)) ∙ ap (λ (l : List ℕ). positions 1 l (drop i y)) (sym (drop_of_length-le x ge))) ∙ inv in
      let place : 16 * length x ≡ 0 + length (positions 1 x y) = omega (arith, positions_length 1 x y same) in
      p ∙ ap (λ (o : List ℕ). sets o (16 * length x) (position 1 a b)) done
      ∙ ap (λ (n : ℕ). sets (sets first 0 (positions 1 x y)) n (position 1 a b)) place
      ∙ sym (sets-append (positions 1 x y) (position 1 a b) first 0)
      ∙ ap (sets first 0) (sym (positions_close 1 x y a b same))

-- the head, and then the positions in the part from byte 13 on
pub put_polygon : (x y out o part : List ℕ) → length x ≡ length y → size (length x) ≤ length out
    → o ≡ sets out 0 (head 1 (length x)) → part ≡ sets (mid_of 13 (length o - 13) o) 0 (positions 1 (around x) (around y))
    → put_mid 13 (length o - 13) o part ≡ sets out 0 (polygon 1 x y)
put_polygon x y out o part e h p q =
    let same : length o ≡ length out = ap length p ∙ length-sets out 0 (head 1 (length x)) in
    ap (put_mid 13 (length o - 13) o) q
    ∙ put_rest 13 o (positions 1 (around x) (around y)) (omega arith)
    ∙ ap (λ (l : List ℕ). sets l 13 (positions 1 (around x) (around y))) p
    ∙ put_next out (head 1 (length x)) (positions 1 (around x) (around y)) 0 13 (head_length 1 (length x))

-- what the test of a ring says: r is its answer
pub ring_is : {r : Bool} (m n : ℕ) → r ≡ (eqb m n && (leb 3 m && leb m 1024)) → not r ≡ false → (m ≡ n) × (3 ≤ m) × (m ≤ 1024)
ring_is {r} m n is e =
    let t = and_iff.0 (sym is ∙ not-false r e) in
    let b = and_iff.0 t.1 in
    (eqb-true m n t.0, leb-true 3 m b.0, leb-true m 1024 b.1)
