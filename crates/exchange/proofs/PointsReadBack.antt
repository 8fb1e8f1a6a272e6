-- A file of points reads as those points, whatever byte orders its head and its Points have. Assumes nothing.
use Prim.Native.Nat.{ℕ, suc, ◌+◌, ◌*◌, ◌<◌, ◌≤◌, suc-le-suc, zero-le}
use mathlib.Core.Path.{◌≡◌, refl, sym, ap, ◌∙◌}
use mathlib.Core.Bool.{true}
use mathlib.Core.List.{List, [], ◌∷◌, ◌++◌, append_assoc, append-nil}
use native.Mathlib.Omega.{arith}
use lib.Dec.{lit<}
use lib.ListN.{length, drop, get_or, length-drop}
use Rattle.shape.specs.Answers.{gives}
use Rattle.shape.specs.Bytes.{in_order, number_at}
use Rattle.shape.specs.Coordinates.{grid_of, grid_at}
use Rattle.shape.specs.Writing.{position, low}
use Rattle.shape.specs.Reading.{run, row, coordinates, order_at, type_asks}
use Rattle.shape.specs.Refusals.{Low}
use Rattle.shape.proofs.Asking.{fault, ends, passes_all}
use Rattle.shape.proofs.Scanned.{ran, scanned, no_more}
use Rattle.shape.proofs.Shapes.{typed_passes, sized_passes}
use Rattle.exchange.specs.Points.{point, points, point_file, point_count, point_asks, point_x, point_y, points_answer, points_xs, points_ys}
use Rattle.exchange.proofs.Words.{word_at, word_past, word_room}
use Rattle.exchange.proofs.Lows.{low_parts, low_exactly}
use Rattle.exchange.proofs.PointFiles.{size_passed, points_passed, all_read}
use Rattle.exchange.proofs.Placed.{begun, position_back, placed_scanned}

-- each is 0 or 1
abbrev pub Orders : List ℕ → Type 0
Orders orders = (i : ℕ) → i < length orders → get_or orders i 0 ≤ 1

-- ---- one Point

-- it is passed, and has its numbers
record Read (s : List ℕ) (at x y : ℕ) (more : List ℕ) : Type 0 where
  passed : gives tt ≡ fault (point_asks s at)
  x_is : point_x s at ≡ x
  y_is : point_y s at ≡ y
  after : drop (at + 21) s ≡ more

point_back : (s : List ℕ) (at order x y : ℕ) (more : List ℕ) → order ≤ 1 → x ≤ 16383 → y ≤ 16383 → drop at s ≡ point order x y ++ more → Read s at x y more
point_back s at order x y more two hx hy e =
    let b = begun s at order 1 (position order x y ++ more) two (lit< tt) (e ∙ ap (λ (l : List ℕ). order ∷ l) (append_assoc (in_order order 4 1) (position order x y) more)) in
    let o = b.is_order in
    let p = position_back order s (at + 5) x y more hx hy b.after in
    let fine : gives tt ≡ scanned 2 order s (at + 5) = placed_scanned order s 0 (at + 5) x y more p (no_more order s (at + 5 + 16) (tt {0}) refl) in
    let q : at + 13 ≡ at + 5 + 8 = omega arith in
    let r : at + 21 ≡ at + 5 + 16 = omega arith in
    record {
      passed =
          passes_all (type_asks s at 1 33) (coordinates 2 (order_at s at) s (at + 5)) (tt {0}) (tt {0}) (typed_passes s at 1 33 b.typed)
          (fine ∙ ap (λ (k : ℕ). scanned 2 k s (at + 5)) (sym o));
      x_is = ap (λ (k : ℕ). grid_at k s (at + 5)) o ∙ ap grid_of p.x_is;
      y_is = ap (λ (k : ℕ). grid_at k s (at + 13)) o ∙ ap (grid_at order s) q ∙ ap grid_of p.y_is;
      after = ap (λ (i : ℕ). drop i s) r ∙ p.after;
    }

-- ---- Points one after another

record AllRead (s : List ℕ) (at : ℕ) (xs ys more : List ℕ) : Type 0 where
  passed : gives tt ≡ ran 21 (point_asks s) (length xs) at
  xs_are : row 21 (point_x s) (length xs) at ≡ xs
  ys_are : row 21 (point_y s) (length xs) at ≡ ys
  after : drop (at + 21 * length xs) s ≡ more

points_back : (s : List ℕ) (orders xs ys more : List ℕ) (at : ℕ) → Orders orders → length orders ≡ length xs → length xs ≡ length ys → low xs ≡ true → low ys ≡ true
    → drop at s ≡ points orders xs ys ++ more → AllRead s at xs ys more
unfolding points row run
points_back s [] [] [] more at ok e f a b d =
    let z : at + 21 * 0 ≡ at = omega arith in
    record { passed = ends (tt {0}) refl; xs_are = refl; ys_are = refl; after = ap (λ (i : ℕ). drop i s) z ∙ d }
points_back s [] [] (y ∷ ys) more at ok e f a b d = absurd (omega arith)
points_back s [] (x ∷ xs) ys more at ok e f a b d = absurd (omega arith)
points_back s (o ∷ os) [] ys more at ok e f a b d = absurd (omega arith)
points_back s (o ∷ os) (x ∷ xs) [] more at ok e f a b d = absurd (omega arith)
points_back s (o ∷ os) (x ∷ xs) (y ∷ ys) more at ok e f a b d =
    let lx = low_parts x xs a in
    let ly = low_parts y ys b in
    let e2 : length os ≡ length xs = omega arith in
    let f2 : length xs ≡ length ys = omega arith in
    let tail : List ℕ = points os xs ys ++ more in
    let one = point_back s at o x y tail (ok 0 (suc-le-suc zero-le)) lx.0 ly.0 (d ∙ append_assoc (point o x y) (points os xs ys) more) in
    let rest = points_back s os xs ys more (at + 21) (λ i l. ok (suc i) (suc-le-suc l)) e2 f2 lx.1 ly.1 one.after in
    let p : at + 21 * suc (length xs) ≡ at + 21 + 21 * length xs = omega arith in
    record {
      passed = passes_all (point_asks s at) (run 21 (point_asks s) (length xs) (at + 21)) (tt {0}) (tt {0}) one.passed rest.passed;
      xs_are = ap (λ (g : ℕ). g ∷ row 21 (point_x s) (length xs) (at + 21)) one.x_is ∙ ap (λ (l : List ℕ). x ∷ l) rest.xs_are;
      ys_are = ap (λ (g : ℕ). g ∷ row 21 (point_y s) (length xs) (at + 21)) one.y_is ∙ ap (λ (l : List ℕ). y ∷ l) rest.ys_are;
      after = ap (λ (i : ℕ). drop i s) p ∙ rest.after;
    }

-- ---- the file

-- grid points that a file can hold, and a byte order for each
pub record Sendable (orders xs ys : List ℕ) : Type 0 where
  pub ordered : Orders orders
  pub order_each : length orders ≡ length xs
  pub same : length xs ≡ length ys
  pub least : 3 ≤ length xs
  pub most : length xs ≤ 1024
  pub low_x : Low xs
  pub low_y : Low ys

-- THE FILE OF SOME GRID POINTS, in any choice of byte orders, READS AS THOSE POINTS
pub point_file_reads_back : (order : ℕ) → order ≤ 1 → (orders xs ys : List ℕ) → Sendable orders xs ys → (room : ℕ) → length xs ≤ room
    → (points_answer (point_file order orders xs ys) room ≡ gives (length xs)) × (points_xs (point_file order orders xs ys) ≡ xs) × (points_ys (point_file order orders xs ys) ≡ ys)
point_file_reads_back order two orders xs ys ok room fits =
    let s : List ℕ = point_file order orders xs ys in
    let n : ℕ = length xs in
    let most = ok.most in
    let least = ok.least in
    let b = begun s 0 order 4 (in_order order 4 n ++ points orders xs ys) two (lit< tt) refl in
    let o = b.is_order in
    let count : point_count s ≡ n = ap (λ (k : ℕ). number_at 4 k s 5) o ∙ word_at order s 5 4 n (points orders xs ys) b.after (omega arith) in
    let w9 : drop 9 s ≡ points orders xs ys ++ [] = word_past order s 5 4 n (points orders xs ys) b.after ∙ sym (append-nil (points orders xs ys)) in
    let r = points_back s orders xs ys [] 9 ok.ordered ok.order_each ok.same ((low_exactly xs).1 ok.low_x) ((low_exactly ys).1 ok.low_y) w9 in
    let short : length s ≤ 9 + 21 * n = omega (arith, length-drop (9 + 21 * n) s, ap length r.after) in
    let nine : 9 ≤ length s = word_room order s 5 4 n (points orders xs ys) b.after (omega arith) in
    let head = size_passed s room (typed_passes s 0 4 22 b.typed)
    (sized_passes 0 (order_at s 0) s 5 room ((nine, omega (arith, count), omega (arith, count)), omega (arith, count))) in
    let all = points_passed s room n (ap gives (sym count) ∙ head) r.passed in (
      sym (all_read s room n all short),
      ap (λ (k : ℕ). row 21 (point_x s) k 9) count ∙ r.xs_are,
      ap (λ (k : ℕ). row 21 (point_y s) k 9) count ∙ r.ys_are,
    )
