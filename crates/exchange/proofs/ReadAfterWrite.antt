-- Reading a polygon that was written gives the ring back, in either byte order and wherever it stands in a block. Assumes nothing.
use Prim.Native.Nat.{ℕ, suc, ◌+◌, ◌*◌, ◌≤◌}
use mathlib.Core.Path.{◌≡◌, refl, sym, ap, ◌∙◌}
use mathlib.Core.Bool.{true}
use mathlib.Core.List.{List, [], ◌∷◌, ◌++◌, append_assoc, append-nil}
use native.Mathlib.Omega.{arith}
use lib.Dec.{lit<}
use lib.ListN.{length, drop, length-drop, length-append}
use Rattle.shape.specs.Answers.{gives}
use Rattle.shape.specs.Coordinates.{grid_of, grid_at}
use Rattle.shape.specs.Bytes.{in_order, number_at}
use Rattle.shape.specs.Writing.{position, positions, around, head, polygon, low}
use Rattle.shape.specs.Reading.{row, grids, order_at, length_at, xs_at, ys_at, read_answer}
use Rattle.shape.proofs.Scanned.{scanned, no_more}
use Rattle.shape.proofs.Lengths.{around_length, around_same, polygon_length}
use Rattle.shape.proofs.Heads.{Headed}
use Rattle.shape.proofs.Polygons.{Ringed, ringed_answer, all_read}
use Rattle.exchange.proofs.Words.{word_at, word_past}
use Rattle.exchange.proofs.Placed.{Begun, begun, position_back, placed_scanned}
use Rattle.exchange.proofs.Lows.{low_parts, low_around, around_back}

module _ (order : ℕ) where
  positions_back : (xs ys more s : List ℕ) (at : ℕ) → length xs ≡ length ys → low xs ≡ true → low ys ≡ true → drop at s ≡ positions order xs ys ++ more
      → (gives tt ≡ scanned (2 * length xs) order s at) × (grids (length xs) order s at ≡ xs) × (grids (length xs) order s (at + 8) ≡ ys)
  unfolding positions row
  positions_back [] [] more s at e a b d = (no_more order s at tt refl, refl, refl)
  positions_back [] (y ∷ ys) more s at e a b d = absurd (omega arith)
  positions_back (x ∷ xs) [] more s at e a b d = absurd (omega arith)
  positions_back (x ∷ xs) (y ∷ ys) more s at e a b d =
      let f : length xs ≡ length ys = omega arith in
      let lx = low_parts x xs a in
      let ly = low_parts y ys b in
      let tail : List ℕ = positions order xs ys ++ more in
      let p = position_back order s at x y tail lx.0 ly.0 (d ∙ append_assoc (position order x y) (positions order xs ys) more) in
      let p2 : at + 16 + 8 ≡ at + 8 + 16 = omega arith in
      let two : suc (suc (2 * length xs)) ≡ 2 * suc (length xs) = omega arith in
      let r = positions_back xs ys more s (at + 16) f lx.1 ly.1 p.after in (
        placed_scanned order s (2 * length xs) at x y tail p r.0 ∙ ap (λ (k : ℕ). scanned k order s at) two,
        ap (λ (g : ℕ). g ∷ grids (length xs) order s (at + 16)) (ap grid_of p.x_is) ∙ ap (λ (l : List ℕ). x ∷ l) r.1,
        ap (λ (g : ℕ). g ∷ grids (length xs) order s (at + 8 + 16)) (ap grid_of p.y_is) ∙ ap (λ (l : List ℕ). y ∷ l) (ap (grids (length xs) order s) (sym p2) ∙ r.2),
      )

-- a ring that the writer takes
pub record Writable (x y : List ℕ) : Type 0 where
  pub same : length x ≡ length y
  pub least : 3 ≤ length x
  pub most : length x ≤ 1024
  pub low_x : low x ≡ true
  pub low_y : low y ≡ true

-- a polygon that stands in a block at a place
module _ (order : ℕ) (two : order ≤ 1) (x y : List ℕ) (ok : Writable x y) (s : List ℕ) (at : ℕ) (more : List ℕ) (stands : drop at s ≡ polygon order x y ++ more) where
  abbrev n : ℕ
  n = length x

  abbrev p : List ℕ
  p = positions order (around x) (around y)

  whole : at + 13 + 16 * (n + 1) ≤ length s
  whole = omega (arith, length-drop at s, ap length stands, length-append (polygon order x y) more, polygon_length order x y ok.same)

  abbrev after : List ℕ
  after = p ++ more

  starts : Begun s at order 3 (in_order order 4 1 ++ (in_order order 4 (n + 1) ++ after))
  starts =
      begun s at order 3 (in_order order 4 1 ++ (in_order order 4 (n + 1) ++ after)) two (lit< tt)
      (stands ∙ append_assoc (head order n) p more
      ∙ ap (λ (l : List ℕ). order ∷ l)
      (append_assoc (in_order order 4 3) (in_order order 4 1 ++ in_order order 4 (n + 1)) after
      ∙ ap (λ (l : List ℕ). in_order order 4 3 ++ l) (append_assoc (in_order order 4 1) (in_order order 4 (n + 1)) after)))

  is_order : order_at s at ≡ order
  is_order = starts.is_order

  w5 : drop (at + 5) s ≡ in_order order 4 1 ++ (in_order order 4 (n + 1) ++ after)
  w5 = starts.after

  w9 : drop (at + 9) s ≡ in_order order 4 (n + 1) ++ after
  w9 =
      let e : at + 9 ≡ at + 5 + 4 = omega arith in
      ap (λ (i : ℕ). drop i s) e ∙ word_past order s (at + 5) 4 1 _ w5

  w13 : drop (at + 13) s ≡ after
  w13 =
      let e : at + 13 ≡ at + 9 + 4 = omega arith in
      ap (λ (i : ℕ). drop i s) e ∙ word_past order s (at + 9) 4 (n + 1) after w9

  headed : (room : ℕ) → n ≤ room → Headed s at room n
  headed room fits =
      let o = is_order in record {
        order = starts.typed.0.1;
        three = starts.typed.2;
        one = ap (λ (k : ℕ). number_at 4 k s (at + 5)) o ∙ word_at order s (at + 5) 4 1 _ w5 (lit< tt);
        counted = ap (λ (k : ℕ). number_at 4 k s (at + 9)) o ∙ word_at order s (at + 9) 4 (n + 1) after w9 (omega (arith, ok.most));
        there = omega (arith, whole);
        least = ok.least;
        most = ok.most;
        fits = fits;
      }

  h1 : 1 ≤ n
  h1 = omega (arith, ok.least)

  long : length (around x) ≡ n + 1
  long = around_length x

  scan : (gives tt ≡ scanned (2 * length (around x)) order s (at + 13)) × (grids (length (around x)) order s (at + 13) ≡ around x) × (grids (length (around x)) order s (at + 13 + 8) ≡ around y)
  scan = positions_back order (around x) (around y) more s (at + 13) (around_same x y ok.same) (low_around x h1 ok.low_x) (low_around y (omega (arith, h1, ok.same)) ok.low_y) w13

  back_x : (grids n order s (at + 13) ≡ x) × (grid_at order s (at + 13) ≡ grid_at order s (at + 13 + 16 * n))
  back_x = around_back n order s (at + 13) x refl h1 (ap (λ (k : ℕ). grids k order s (at + 13)) (sym long) ∙ scan.1)

  back_y : (grids n order s (at + 13 + 8) ≡ y) × (grid_at order s (at + 13 + 8) ≡ grid_at order s (at + 13 + 8 + 16 * n))
  back_y = around_back n order s (at + 13 + 8) y (sym ok.same) h1 (ap (λ (k : ℕ). grids k order s (at + 13 + 8)) (sym long) ∙ scan.2)

  -- it is read as the ring
  pub ring_back : (room : ℕ) → n ≤ room → Ringed s at room n
  ring_back room fits =
      let q : at + 13 + 8 + 16 * n ≡ at + 13 + 16 * n + 8 = omega arith in record {
        head = headed room fits;
        fine = scan.0 ∙ ap (λ (k : ℕ). scanned (2 * k) order s (at + 13)) long ∙ ap (λ (o : ℕ). scanned (2 * (n + 1)) o s (at + 13)) (sym is_order);
        same_x = ap (λ (o : ℕ). grid_at o s (at + 13)) is_order ∙ back_x.1 ∙ ap (λ (o : ℕ). grid_at o s (at + 13 + 16 * n)) (sym is_order);
        same_y =
            ap (λ (o : ℕ). grid_at o s (at + 13 + 8)) is_order ∙ back_y.1 ∙ ap (grid_at order s) q
            ∙ ap (λ (o : ℕ). grid_at o s (at + 13 + 16 * n + 8)) (sym is_order);
        whole = whole;
      }

  is_length : length_at s at ≡ n
  is_length = omega (arith, (headed n (omega arith)).counted)

  pub xs_back : xs_at s at ≡ x
  xs_back = ap (λ (k : ℕ). grids k (order_at s at) s (at + 13)) is_length ∙ ap (λ (o : ℕ). grids n o s (at + 13)) is_order ∙ back_x.0

  pub ys_back : ys_at s at ≡ y
  ys_back = ap (λ (k : ℕ). grids k (order_at s at) s (at + 13 + 8)) is_length ∙ ap (λ (o : ℕ). grids n o s (at + 13 + 8)) is_order ∙ back_y.0

-- READING WHAT WAS WRITTEN, into lists that have room, gives the ring's length and the ring
pub read_after_write : (order : ℕ) → order ≤ 1 → (x y : List ℕ) → Writable x y → (room : ℕ) → length x ≤ room
    → (read_answer (polygon order x y) room ≡ gives (length x)) × (xs_at (polygon order x y) 0 ≡ x) × (ys_at (polygon order x y) 0 ≡ y)
read_after_write order two x y ok room fits =
    let s : List ℕ = polygon order x y in
    let stands : drop 0 s ≡ s ++ [] = sym (append-nil s) in
    let r = ring_back order two x y ok s 0 [] stands room fits in (
      sym (all_read s room (length x) (ringed_answer s 0 room (length x) r) (omega (arith, polygon_length order x y ok.same))),
      xs_back order two x y ok s 0 [] stands,
      ys_back order two x y ok s 0 [] stands,
    )
