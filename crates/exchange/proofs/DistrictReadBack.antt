-- A district's file reads as its rings, whatever byte orders its head and its polygons have. Assumes nothing.
use Prim.Native.Nat.{ℕ, suc, ◌+◌, ◌*◌, ◌-◌, ◌≤◌, suc-le-suc, zero-le}
use mathlib.Core.Path.{◌≡◌, refl, sym, ap, ◌∙◌}
use mathlib.Core.Bool.{true}
use mathlib.Core.List.{List, [], ◌∷◌, ◌++◌, append_assoc, append-nil}
use native.Mathlib.Omega.{arith}
use lib.Dec.{lit<}
use lib.ListN.{length, take, drop, get_or, length-drop, take-append-drop}
use lib.Seq.{length-take-le, drop_at, drop-drop, get_or-drop}
use Rattle.shape.specs.Answers.{gives, asked}
use Rattle.shape.specs.Bytes.{in_order, number_at}
use Rattle.shape.specs.Writing.{polygon, low}
use Rattle.shape.specs.Reading.{order_at, length_at, end, polygon_asks, xs_at, ys_at}
use Rattle.shape.specs.Refusals.{Low}
use Rattle.shape.proofs.Asking.{fault, ends, passes_all}
use Rattle.shape.proofs.Lengths.{polygon_length}
use Rattle.shape.proofs.Polygons.{ringed_answer}
use Rattle.exchange.specs.Districts.{polygons, district_file, total, rings, parts_asks, parts_end, part_lengths, parts_xs, parts_ys, ring_count, district_end, district_answer, district_lengths, district_xs, district_ys}
use Rattle.exchange.specs.DistrictRefusals.{Rings}
use Rattle.exchange.proofs.Words.{word_at, word_past, word_room}
use Rattle.exchange.proofs.Lows.{low_exactly}
use Rattle.exchange.proofs.Placed.{begun}
use Rattle.exchange.proofs.ReadAfterWrite.{Writable, ring_back, xs_back, ys_back}
use Rattle.exchange.proofs.PointsReadBack.{Orders}
use Rattle.exchange.proofs.DistrictLaws.{part_orders, district_orders, low_split, rings_parts, rings_exactly}
use Rattle.exchange.proofs.DistrictFiles.{district_given}

-- ---- one polygon

-- it is passed, and has its ring
record Read (s : List ℕ) (at room order : ℕ) (x y more : List ℕ) : Type 0 where
  order_is : order_at s at ≡ order
  passed : gives (length_at s at) ≡ asked (polygon_asks s at room) (length_at s at)
  length_is : length_at s at ≡ length x
  x_is : xs_at s at ≡ x
  y_is : ys_at s at ≡ y
  after : drop (end s at) s ≡ more

part_back : (s : List ℕ) (at room order : ℕ) (x y more : List ℕ) → order ≤ 1 → Writable x y → length x ≤ room → drop at s ≡ polygon order x y ++ more → Read s at room order x y more
part_back s at room order x y more two ok fits stands =
    let r = ring_back order two x y ok s at more stands room fits in
    let n : ℕ = length x in
    let counted = r.head.counted in
    let is : length_at s at ≡ n = omega arith in
    let e : end s at ≡ at + (29 + 16 * n) = omega arith in
    let here : at + 0 ≡ at = omega arith in
    record {
      order_is = ap (λ (i : ℕ). get_or s i 0) (sym here) ∙ sym (get_or-drop at s 0 0) ∙ ap (λ (l : List ℕ). get_or l 0 0) stands;
      passed = ap gives is ∙ ringed_answer s at room n r;
      length_is = is;
      x_is = xs_back order two x y ok s at more stands;
      y_is = ys_back order two x y ok s at more stands;
      after =
          ap (λ (i : ℕ). drop i s) e ∙ sym (drop-drop (29 + 16 * n) at s) ∙ ap (drop (29 + 16 * n)) stands
          ∙ drop_at (polygon order x y) more (29 + 16 * n) (polygon_length order x y ok.same);
    }

-- ---- polygons one after another

record AllRead (s : List ℕ) (at room : ℕ) (orders lengths xs ys more : List ℕ) : Type 0 where
  orders_are : part_orders s (length lengths) at ≡ orders
  passed : gives tt ≡ fault (parts_asks s (length lengths) at room)
  lengths_are : part_lengths s (length lengths) at ≡ lengths
  xs_are : parts_xs s (length lengths) at ≡ xs
  ys_are : parts_ys s (length lengths) at ≡ ys
  after : drop (parts_end s (length lengths) at) s ≡ more

parts_back : (s orders lengths xs ys more : List ℕ) (at room : ℕ) → Orders orders → length orders ≡ length lengths → total lengths ≡ length xs → length xs ≡ length ys
    → rings lengths ≡ true → low xs ≡ true → low ys ≡ true → length xs ≤ room → drop at s ≡ polygons orders lengths xs ys ++ more → AllRead s at room orders lengths xs ys more
unfolding polygons total parts_asks parts_end part_lengths parts_xs parts_ys part_orders
parts_back s [] [] [] [] more at room ok e t f r a b l d = record { orders_are = refl; passed = ends (tt {0}) refl; lengths_are = refl; xs_are = refl; ys_are = refl; after = d }
parts_back s [] [] [] (y ∷ ys) more at room ok e t f r a b l d = absurd (omega arith)
parts_back s [] [] (x ∷ xs) ys more at room ok e t f r a b l d = absurd (omega arith)
parts_back s [] (n ∷ ns) xs ys more at room ok e t f r a b l d = absurd (omega arith)
parts_back s (o ∷ os) [] xs ys more at room ok e t f r a b l d = absurd (omega arith)
parts_back s (o ∷ os) (n ∷ ns) xs ys more at room ok e t f r a b l d =
    let x : List ℕ = take n xs in
    let y : List ℕ = take n ys in
    let xr : List ℕ = drop n xs in
    let yr : List ℕ = drop n ys in
    let ex : length x ≡ n = length-take-le n xs (omega arith) in
    let ey : length y ≡ n = length-take-le n ys (omega arith) in
    let dx = length-drop n xs in
    let dy = length-drop n ys in
    let lx = low_split n xs a in
    let ly = low_split n ys b in
    let p = rings_parts n ns r in
    let w : Writable x y = record { same = ex ∙ sym ey; least = omega (arith, p.0); most = omega (arith, p.1); low_x = lx.0; low_y = ly.0 } in
    let tail : List ℕ = polygons os ns xr yr ++ more in
    let one = part_back s at room o x y tail (ok 0 (suc-le-suc zero-le)) w (omega arith) (d ∙ append_assoc (polygon o x y) (polygons os ns xr yr) more) in
    let is : length_at s at ≡ n = one.length_is ∙ ex in
    let e2 : length os ≡ length ns = omega arith in
    let rest = parts_back s os ns xr yr more (end s at) (room - length_at s at) (λ i h. ok (suc i) (suc-le-suc h)) e2 (omega arith) (omega arith) p.2 lx.1 ly.1 (omega arith) one.after in
    let k : ℕ = length ns in
    record {
      orders_are = ap (λ (i : ℕ). i ∷ part_orders s k (end s at)) one.order_is ∙ ap (λ (q : List ℕ). o ∷ q) rest.orders_are;
      passed = passes_all (polygon_asks s at room) (parts_asks s k (end s at) (room - length_at s at)) (length_at s at) (tt {0}) one.passed rest.passed;
      lengths_are = ap (λ (i : ℕ). i ∷ part_lengths s k (end s at)) is ∙ ap (λ (q : List ℕ). n ∷ q) rest.lengths_are;
      xs_are = ap (λ (q : List ℕ). q ++ parts_xs s k (end s at)) one.x_is ∙ ap (λ (q : List ℕ). x ++ q) rest.xs_are ∙ take-append-drop n xs;
      ys_are = ap (λ (q : List ℕ). q ++ parts_ys s k (end s at)) one.y_is ∙ ap (λ (q : List ℕ). y ++ q) rest.ys_are ∙ take-append-drop n ys;
      after = rest.after;
    }

-- ---- the file

-- rings that a file can hold, one after another in one pair of lists, and a byte order for the head and for each ring
pub record Mapped (order : ℕ) (orders lengths xs ys : List ℕ) : Type 0 where
  pub head_order : order ≤ 1
  pub ordered : Orders orders
  pub order_each : length orders ≡ length lengths
  pub least : 1 ≤ length lengths
  pub most : length lengths ≤ 32
  pub summed : total lengths ≡ length xs
  pub same : length xs ≡ length ys
  pub ringed : Rings lengths
  pub low_x : Low xs
  pub low_y : Low ys

-- what the reader makes of its file
pub record Back (s : List ℕ) (order : ℕ) (orders lengths xs ys : List ℕ) (places room : ℕ) : Type 0 where
  pub answer : district_answer s places room ≡ gives (length lengths)
  pub lengths_are : district_lengths s ≡ lengths
  pub xs_are : district_xs s ≡ xs
  pub ys_are : district_ys s ≡ ys
  pub head_order : order_at s 0 ≡ order
  pub orders_are : district_orders s ≡ orders

-- THE FILE OF SOME RINGS, in any choice of byte orders, READS AS THOSE RINGS in those byte orders
pub district_file_reads_back : (order : ℕ) (orders lengths xs ys : List ℕ) → Mapped order orders lengths xs ys → (places room : ℕ) → length lengths ≤ places → length xs ≤ room
    → Back (district_file order orders lengths xs ys) order orders lengths xs ys places room
district_file_reads_back order orders lengths xs ys ok places room fits roomy =
    let s : List ℕ = district_file order orders lengths xs ys in
    let n : ℕ = length lengths in
    let body : List ℕ = polygons orders lengths xs ys in
    let least = ok.least in
    let most = ok.most in
    let b = begun s 0 order 6 (in_order order 4 n ++ body) ok.head_order (lit< tt) (ap (λ (l : List ℕ). order ∷ l) (append_assoc (in_order order 4 6) (in_order order 4 n) body)) in
    let count : ring_count s ≡ n = ap (λ (k : ℕ). number_at 4 k s 5) b.is_order ∙ word_at order s 5 4 n body b.after (omega arith) in
    let w9 : drop 9 s ≡ body ++ [] = word_past order s 5 4 n body b.after ∙ sym (append-nil body) in
    let nine : 9 ≤ length s = word_room order s 5 4 n body b.after (omega arith) in
    let r = parts_back s orders lengths xs ys [] 9 room ok.ordered ok.order_each ok.summed ok.same ((rings_exactly lengths).1 ok.ringed)
    ((low_exactly xs).1 ok.low_x) ((low_exactly ys).1 ok.low_y) roomy w9 in
    let at_end : district_end s ≡ parts_end s n 9 = ap (λ (k : ℕ). parts_end s k 9) count in
    let short : length s ≤ parts_end s n 9 = omega (arith, length-drop (parts_end s n 9) s, ap length r.after) in
    record {
      answer =
          district_given s places room n record {
            head = ((b.typed, nine, omega (arith, count), omega (arith, count)), omega (arith, count));
            counted = sym count;
            fine = r.passed ∙ ap (λ (k : ℕ). fault (parts_asks s k 9 room)) (sym count);
            all_read = omega arith;
          };
      lengths_are = ap (λ (k : ℕ). part_lengths s k 9) count ∙ r.lengths_are;
      xs_are = ap (λ (k : ℕ). parts_xs s k 9) count ∙ r.xs_are;
      ys_are = ap (λ (k : ℕ). parts_ys s k 9) count ∙ r.ys_are;
      head_order = b.is_order;
      orders_are = ap (λ (k : ℕ). part_orders s k 9) count ∙ r.orders_are;
    }
