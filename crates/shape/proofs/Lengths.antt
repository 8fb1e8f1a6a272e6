-- How long a polygon's parts are, in either byte order, and its positions one after the other. Assumes nothing.
use Rattle.std.proofs.Common.{◌≡◌, ℕ, suc, ◌+◌, ◌*◌, ◌<◌, Bool, true, false, eqb, List, [], ◌∷◌, ◌++◌, length, get_or, drop, sym, refl, ap, ◌∙◌, append_assoc, append-nil, arith, length-append, drop-cons}
use lib.ListN.{length-reverse}
use Rattle.shape.specs.Coordinates.{encode}
use Rattle.shape.specs.Bytes.{low_bytes, turned, in_order}
use Rattle.shape.specs.Writing.{position, positions, around, head, polygon, size}
use Rattle.shape.proofs.Octets.{low_length}

pub turned_length : (b : Bool) (l : List ℕ) → length (turned b l) ≡ length l
turned_length true l = length-reverse l
turned_length false l = refl

pub around_length : (l : List ℕ) → length (around l) ≡ length l + 1
around_length l = length-append l (get_or l 0 0 ∷ [])

pub around_same : (x y : List ℕ) → length x ≡ length y → length (around x) ≡ length (around y)
around_same x y e = around_length x ∙ ap (λ (n : ℕ). n + 1) e ∙ sym (around_length y)

module _ (order : ℕ) where
  pub order_length : (k n : ℕ) → length (in_order order k n) ≡ k
  order_length k n = turned_length (eqb order 0) (low_bytes k n) ∙ low_length k n

  pub position_length : (x y : ℕ) → length (position order x y) ≡ 16
  position_length x y =
      length-append (in_order order 8 (encode x)) (in_order order 8 (encode y)) ∙ omega (arith, order_length 8 (encode x), order_length 8 (encode y))

  pub positions_step : (x y : List ℕ) (i : ℕ) → i < length x → i < length y
      → positions order (drop i x) (drop i y) ≡ position order (get_or x i 0) (get_or y i 0) ++ positions order (drop (i + 1) x) (drop (i + 1) y)
  unfolding positions
  positions_step x y i h k =
      let e : i + 1 ≡ suc i = omega arith in
      rw (drop-cons x i 0 h, drop-cons y i 0 k, e)

  pub no_positions : (y : List ℕ) → positions order [] y ≡ []
  unfolding positions
  no_positions y = refl

  pub positions_close : (x y : List ℕ) (a b : ℕ) → length x ≡ length y → positions order (x ++ (a ∷ [])) (y ++ (b ∷ [])) ≡ positions order x y ++ position order a b
  unfolding positions
  positions_close [] [] a b e = append-nil (position order a b)
  positions_close [] (y ∷ ys) a b e = absurd (omega arith)
  positions_close (x ∷ xs) [] a b e = absurd (omega arith)
  positions_close (x ∷ xs) (y ∷ ys) a b e =
      let f : length xs ≡ length ys = omega arith in
      ap (λ (l : List ℕ). position order x y ++ l) (positions_close xs ys a b f) ∙ sym (append_assoc (position order x y) (positions order xs ys) (position order a b))

  pub positions_length : (x y : List ℕ) → length x ≡ length y → length (positions order x y) ≡ 16 * length x
  unfolding positions
  positions_length [] [] e = refl
  positions_length [] (y ∷ ys) e = absurd (omega arith)
  positions_length (x ∷ xs) [] e = absurd (omega arith)
  positions_length (x ∷ xs) (y ∷ ys) e =
      let f : length xs ≡ length ys = omega arith in
      length-append (position order x y) (positions order xs ys) ∙ omega (arith, position_length x y, positions_length xs ys f)

  pub head_length : (n : ℕ) → length (head order n) ≡ 13
  head_length n =
      let e : length (in_order order 4 3 ++ (in_order order 4 1 ++ in_order order 4 (n + 1))) ≡ 12 =
      length-append (in_order order 4 3) (in_order order 4 1 ++ in_order order 4 (n + 1))
      ∙ omega (arith, length-append (in_order order 4 1) (in_order order 4 (n + 1)), order_length 4 3, order_length 4 1, order_length 4 (n + 1)) in
      ap suc e

  pub polygon_length : (x y : List ℕ) → length x ≡ length y → length (polygon order x y) ≡ size (length x)
  polygon_length x y e =
      length-append (head order (length x)) (positions order (around x) (around y))
      ∙ omega (arith, head_length (length x), positions_length (around x) (around y) (around_same x y e), around_length x)
