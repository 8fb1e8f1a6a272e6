-- A polygon that the reader takes is, byte for byte, the polygon of its ring in its byte order: for little-endian blocks what the writer makes.
-- Assumes nothing.
use Prim.Native.Nat.{ℕ, zero, suc, ◌+◌, ◌*◌, ◌≤◌}
use mathlib.Core.Path.{◌≡◌, refl, sym, ap, ◌∙◌}
use mathlib.Core.Bool.{true}
use mathlib.Core.List.{List, [], ◌∷◌, ◌++◌, append_assoc, append-nil}
use native.Mathlib.Omega.{arith}
use borrow.Author.Tests.{leb-true}
use lib.Dec.{leb}
use lib.ListN.{length, drop, get_or, drop_of_length-le}
use lib.Seq.{drop-cons}
use Rattle.shape.specs.declared.Coordinate.{Coordinate}
use Rattle.shape.specs.declared.Coordinate.TheVariants.{Grid, OffGrid, NotFinite}
use Rattle.shape.specs.Answers.{gives, must}
use Rattle.shape.specs.Coordinates.{encode, coordinate_at, is_on_grid, grid_of, grid_at}
use Rattle.shape.specs.Bytes.{in_order, number_at}
use Rattle.shape.specs.Writing.{positions, around, head, polygon, low, size}
use Rattle.shape.specs.Reading.{row, grids, order_at, length_at, xs_at, ys_at, polygon_asks, end, read_answer}
use Rattle.shape.proofs.Judgements.{encode_judge}
use Rattle.shape.proofs.Scanned.{scanned, row_length}
use Rattle.shape.proofs.Heads.{Headed, coordinate_passed, passed_one, passed_all, passed_both}
use Rattle.shape.proofs.Polygons.{Ringed, polygon_good}
use Rattle.exchange.proofs.Words.{Octets, word_lt, word_of}
use Rattle.exchange.proofs.Lows.{low_more, low_none, low_front, grids_around}
use Rattle.exchange.proofs.ReadAfterWrite.{Writable}

on_the_grid : (c : Coordinate) → is_on_grid c ≡ true → c ≡ Grid (grid_of c)
on_the_grid (Grid g) e = refl
on_the_grid (OffGrid x) e = let z : ◌≡◌ {A = ℕ} 0 1 = cc in absurd (omega arith)
on_the_grid NotFinite e = let z : ◌≡◌ {A = ℕ} 0 1 = cc in absurd (omega arith)

module _ (order : ℕ) (s : List ℕ) (oct : Octets s) where
  -- a coordinate on the grid has its number's bytes
  coordinate_of : (at : ℕ) → at + 8 ≤ length s → is_on_grid (coordinate_at order s at) ≡ true
      → (drop at s ≡ in_order order 8 (encode (grid_at order s at)) ++ drop (at + 8) s) × (grid_at order s at ≤ 16383)
  coordinate_of at h e =
      let j = encode_judge (number_at 8 order s at) (grid_at order s at) (word_lt order s at 8 oct h) (on_the_grid (coordinate_at order s at) e) in
      (word_of order s at 8 oct h (encode (grid_at order s at)) j.0, omega (arith, j.1))

  positions_of : (k at : ℕ) → gives tt ≡ scanned (2 * k) order s at
      → (drop at s ≡ positions order (grids k order s at) (grids k order s (at + 8)) ++ drop (at + 16 * k) s) × (low (grids k order s at) ≡ true) × (low (grids k order s (at + 8)) ≡ true)
  unfolding row positions
  positions_of zero at e =
      let p : at ≡ at + 16 * 0 = omega arith in
      (ap (λ (n : ℕ). drop n s) p, low_none, low_none)
  positions_of (suc k) at e =
      let two : 2 * suc k ≡ suc (suc (2 * k)) = omega arith in
      let nx = coordinate_passed (suc (2 * k)) order s at tt (e ∙ ap (λ (n : ℕ). scanned n order s at) two) in
      let ny = coordinate_passed (2 * k) order s (at + 8) tt nx.2 in
      let p1 : at + 8 + 8 ≡ at + 16 = omega arith in
      let p2 : at + 16 + 8 ≡ at + 8 + 16 = omega arith in
      let p3 : at + 16 + 16 * k ≡ at + 16 * suc k = omega arith in
      let cx = coordinate_of at nx.0 nx.1 in
      let cy = coordinate_of (at + 8) ny.0 ny.1 in
      let ih = positions_of k (at + 16) (ny.2 ∙ ap (scanned (2 * k) order s) p1) in
      let bx : List ℕ = in_order order 8 (encode (grid_at order s at)) in
      let b-y : List ℕ = in_order order 8 (encode (grid_at order s (at + 8))) in
      let gx : List ℕ = grids k order s (at + 16) in
      let gy : List ℕ = grids k order s (at + 8 + 16) in
      let rest : drop (at + 8 + 8) s ≡ positions order gx gy ++ drop (at + 16 * suc k) s =
      ap (λ (n : ℕ). drop n s) p1 ∙ ih.0
      ∙ ap (λ (l : List ℕ). positions order gx l ++ drop (at + 16 + 16 * k) s) (ap (grids k order s) p2) ∙ ap (λ (n : ℕ). positions order gx gy ++ drop n s) p3 in (
        cx.0 ∙ ap (λ (l : List ℕ). bx ++ l) (cy.0 ∙ ap (λ (l : List ℕ). b-y ++ l) rest)
            ∙ sym (append_assoc bx b-y (positions order gx gy ++ drop (at + 16 * suc k) s))
            ∙ sym (append_assoc (bx ++ b-y) (positions order gx gy) (drop (at + 16 * suc k) s)),
        low_more (grid_at order s at) gx cx.1 ih.1,
        low_more (grid_at order s (at + 8)) gy cy.1 (ap low (ap (grids k order s) (sym p2)) ∙ ih.2),
      )

-- a polygon that is taken at a place
module _ (s : List ℕ) (oct : Octets s) (at room n : ℕ) (r : Ringed s at room n) where
  abbrev o : ℕ
  o = order_at s at

  abbrev x : List ℕ
  x = xs_at s at

  abbrev y : List ℕ
  y = ys_at s at

  h : Headed s at room n
  h = r.head

  is_length : length_at s at ≡ n
  is_length = omega (arith, h.counted)

  x_is : x ≡ grids n o s (at + 13)
  x_is = ap (λ (k : ℕ). grids k o s (at + 13)) is_length

  y_is : y ≡ grids n o s (at + 13 + 8)
  y_is = ap (λ (k : ℕ). grids k o s (at + 13 + 8)) is_length

  pub x_long : length x ≡ n
  x_long = row_length 16 (grid_at o s) (length_at s at) (at + 13) ∙ is_length

  y_long : length y ≡ n
  y_long = row_length 16 (grid_at o s) (length_at s at) (at + 13 + 8) ∙ is_length

  around_x : grids (n + 1) o s (at + 13) ≡ around x
  around_x = grids_around n o s (at + 13) (omega (arith, h.least)) r.same_x ∙ ap around (sym x_is)

  around_y : grids (n + 1) o s (at + 13 + 8) ≡ around y
  around_y =
      let q : at + 13 + 16 * n + 8 ≡ at + 13 + 8 + 16 * n = omega arith in
      grids_around n o s (at + 13 + 8) (omega (arith, h.least)) (r.same_y ∙ ap (grid_at o s) q) ∙ ap around (sym y_is)

  abbrev p : List ℕ
  p = positions o (around x) (around y)

  abbrev rest : List ℕ
  rest = drop (at + 13 + 16 * (n + 1)) s

  pos : (drop (at + 13) s ≡ p ++ rest) × (low (around x) ≡ true) × (low (around y) ≡ true)
  pos =
      let q = positions_of o s oct (n + 1) (at + 13) r.fine in (
        q.0 ∙ ap (λ (l : List ℕ). positions o l (grids (n + 1) o s (at + 13 + 8)) ++ rest) around_x ∙ ap (λ (l : List ℕ). positions o (around x) l ++ rest) around_y,
        ap low (sym around_x) ∙ q.1,
        ap low (sym around_y) ∙ q.2,
      )

  -- the bytes from there on are the ring's polygon, and what follows it
  pub polygon_there : drop at s ≡ polygon o x y ++ rest
  polygon_there =
      let there : at + 13 ≤ length s = h.there in
      let e1 : at + 1 ≡ suc at = omega arith in
      let e5 : at + 1 + 4 ≡ at + 5 = omega arith in
      let e9 : at + 5 + 4 ≡ at + 9 = omega arith in
      let e13 : at + 9 + 4 ≡ at + 13 = omega arith in
      let three : List ℕ = in_order o 4 3 in
      let one : List ℕ = in_order o 4 1 in
      let ln : List ℕ = in_order o 4 (length x + 1) in
      let w0 : drop at s ≡ o ∷ drop (at + 1) s = drop-cons s at 0 (omega arith) ∙ ap (λ (i : ℕ). o ∷ drop i s) (sym e1) in
      let w1 : drop (at + 1) s ≡ three ++ drop (at + 5) s = word_of o s (at + 1) 4 oct (omega arith) 3 h.three ∙ ap (λ (i : ℕ). three ++ drop i s) e5 in
      let w5 : drop (at + 5) s ≡ one ++ drop (at + 9) s = word_of o s (at + 5) 4 oct (omega arith) 1 h.one ∙ ap (λ (i : ℕ). one ++ drop i s) e9 in
      let w9 : drop (at + 9) s ≡ ln ++ drop (at + 13) s =
      word_of o s (at + 9) 4 oct (omega arith) (length x + 1) (h.counted ∙ ap (λ (k : ℕ). k + 1) (sym x_long)) ∙ ap (λ (i : ℕ). ln ++ drop i s) e13 in
      w0 ∙ ap (λ (l : List ℕ). o ∷ l)
      (w1 ∙ ap (λ (l : List ℕ). three ++ l)
      (w5 ∙ ap (λ (l : List ℕ). one ++ l) (w9 ∙ ap (λ (l : List ℕ). ln ++ l) pos.0)
      ∙ sym (append_assoc one ln (p ++ rest)))
      ∙ sym (append_assoc three (one ++ ln) (p ++ rest)))
      ∙ sym (append_assoc (head o (length x)) p rest)

  -- ... and the writer takes the ring
  pub ring_writable : Writable x y
  ring_writable = record {
    same = x_long ∙ sym y_long;
    least = omega (arith, x_long, h.least);
    most = omega (arith, x_long, h.most);
    low_x = low_front x (get_or x 0 0) pos.1;
    low_y = low_front y (get_or y 0 0) pos.2;
  }

-- a block that is read as a ring
pub record Block (s : List ℕ) (room n : ℕ) : Type 0 where
  pub ring : Ringed s 0 room n
  pub ends_there : length s ≡ size n

pub block_good : (s : List ℕ) (room n : ℕ) → read_answer s room ≡ gives n → Block s room n
block_good s room n e =
    let m : ℕ = length_at s 0 in
    let q1 = passed_both (polygon_asks s 0 room) (must (leb (length s) (end s 0)) 28 (end s 0) ∷ []) m m (sym e) in
    let q2 = passed_one (leb (length s) (end s 0)) 28 (end s 0) [] m q1.1 in
    let is : n ≡ m = passed_all m q2.1 in
    let r : Ringed s 0 room n = polygon_good s 0 room n (ap gives is ∙ q1.0) in
    let short : length s ≤ end s 0 = leb-true (length s) (end s 0) q2.0 in
    record { ring = r; ends_there = omega (arith, r.whole, r.head.counted, short) }

-- WHAT READS AS A RING is that ring's polygon in the block's byte order, and the writer takes the ring
pub write_after_read : (s : List ℕ) → Octets s → (room n : ℕ) → read_answer s room ≡ gives n
    → (s ≡ polygon (order_at s 0) (xs_at s 0) (ys_at s 0)) × Writable (xs_at s 0) (ys_at s 0)
write_after_read s oct room n e =
    let b = block_good s room n e in
    let none : drop (0 + 13 + 16 * (n + 1)) s ≡ [] = drop_of_length-le s {i = 0 + 13 + 16 * (n + 1)} (omega (arith, b.ends_there)) in
    let p : List ℕ = polygon (order_at s 0) (xs_at s 0) (ys_at s 0) in
    (polygon_there s oct 0 room n b.ring ∙ ap (λ (l : List ℕ). p ++ l) none ∙ append-nil p, ring_writable s oct 0 room n b.ring)
