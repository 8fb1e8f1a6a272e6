-- A file of points: what it is that the reader takes, and how code that goes part by part comes to the answer. Assumes nothing.
use Prim.Native.Nat.{ℕ, ◌+◌, ◌*◌, ◌-◌, ◌<◌, ◌≤◌}
use mathlib.Core.Path.{◌≡◌, refl, sym, ap, ap₂, ◌∙◌, subst}
use mathlib.Core.Bool.{true, ◌||◌}
use mathlib.Core.Logic.{◌⊎◌, inl, inr}
use mathlib.Core.List.{List, [], ◌∷◌}
use native.Mathlib.Omega.{arith}
use borrow.Author.Tests.{eq-eqb, ne_eqb}
use lib.Dec.{leb, eqb}
use lib.ListN.{length}
use Rattle.laws.proofs.Test.{or_iff}
use Rattle.shape.specs.declared.block.ByteOrder.{ByteOrder}
use Rattle.shape.specs.Bytes.{code, order_of, number_at}
use Rattle.shape.specs.Answers.{Question, must, Answer, gives, refused, asked}
use Rattle.shape.specs.declared.Coordinate.{Coordinate}
use Rattle.shape.specs.Coordinates.{coordinate_at, ended, whole}
use Rattle.shape.specs.Reading.{run, coordinates, size_asks, order_at, type_asks}
use Rattle.shape.proofs.Asking.{fault, stops, passes, stops_above, passes_below, ends, passes_all, stops_first, refused_other, gives_other, given_is}
use Rattle.shape.proofs.Scanned.{ran}
use Rattle.shape.proofs.Heads.{passed_both, ran_there, coordinates_there}
use Rattle.shape.proofs.Shapes.{typed, sized, order_is}
use Rattle.exchange.specs.Points.{point_count, points_end, point_asks, points_head_asks, points_asks, points_answer, within, sent_answer, order_of as sent_order}
use Rattle.exchange.specs.PointRefusals.{GoodPointsHead}

-- ---- Points

pub point_there : (s : List ℕ) (at : ℕ) → gives tt ≡ fault (point_asks s at) → at + 21 ≤ length s
point_there s at e =
    let q = passed_both (type_asks s at 1 33) (coordinates 2 (order_at s at) s (at + 5)) (tt {0}) (tt {0}) e in
    let l = coordinates_there 2 (order_at s at) s (at + 5) (typed s at 1 33 q.0).1 q.1 in
    omega arith

-- ---- the head

module _ (s : List ℕ) (room : ℕ) where
  abbrev sizes : List Question
  sizes = size_asks 0 (order_at s 0) s 5 room

  module _ (g : gives tt ≡ fault (type_asks s 0 4 22)) where
    pub size_refused : (k p : ℕ) → refused k p ≡ fault sizes → refused k p ≡ asked (points_head_asks s room) (point_count s)
    size_refused k p e = passes_all (type_asks s 0 4 22) sizes tt (point_count s) g (refused_other sizes tt (point_count s) k p e refl)

    pub size_passed : gives tt ≡ fault sizes → gives (point_count s) ≡ asked (points_head_asks s room) (point_count s)
    size_passed e = passes_all (type_asks s 0 4 22) sizes tt (point_count s) g (gives_other sizes tt (point_count s) tt e refl)

  -- ... as the code finds it: the byte order, then the count; a fault of the head is the file's
  then_file : {x : Answer ℕ} {n p : ℕ} → refused n p ≡ asked (points_head_asks s room) (point_count s) → x ≡ refused n p → x ≡ asked (points_asks s room) (point_count s)
  then_file {x} {n} {p} e h = stops_first (points_head_asks s room) (run 21 (point_asks s) (point_count s) 9) (point_count s) (point_count s) n p e h

  pub type_refused : {x : Answer ℕ} {n p : ℕ} → refused n p ≡ asked (type_asks s 0 4 22) (order_of (order_at s 0)) → x ≡ refused n p
      → x ≡ asked (points_asks s room) (point_count s)
  type_refused {x} {n} {p} e h = then_file (stops_first (type_asks s 0 4 22) sizes (order_of (order_at s 0)) (point_count s) n p e refl) h

  module _ {order : ByteOrder} (found : gives order ≡ asked (type_asks s 0 4 22) (order_of (order_at s 0))) where
    sizes_are : asked (size_asks 0 (code order) s 5 room) (number_at 4 (code order) s 5) ≡ asked sizes (point_count s)
    sizes_are = ap (λ (o : ℕ). asked (size_asks 0 o s 5 room) (number_at 4 o s 5)) (order_is s 0 4 22 found)

    pub count_refused : {x : Answer ℕ} {n p : ℕ} → refused n p ≡ asked (size_asks 0 (code order) s 5 room) (number_at 4 (code order) s 5) → x ≡ refused n p
        → x ≡ asked (points_asks s room) (point_count s)
    count_refused e h = then_file (passes_all (type_asks s 0 4 22) sizes (order_of (order_at s 0)) (point_count s) found (e ∙ sizes_are)) h

    pub count_found : {n : ℕ} → gives n ≡ asked (size_asks 0 (code order) s 5 room) (number_at 4 (code order) s 5) → gives n ≡ asked (points_head_asks s room) (point_count s)
    count_found e = passes_all (type_asks s 0 4 22) sizes (order_of (order_at s 0)) (point_count s) found (e ∙ sizes_are)

-- a head that was read: its count is m
module _ (s : List ℕ) (room m : ℕ) (answer : gives m ≡ asked (points_head_asks s room) (point_count s)) where
  pub head_count : m ≡ point_count s
  head_count = given_is (points_head_asks s room) (point_count s) answer

  pub points_head : GoodPointsHead s room
  points_head =
      let q = passed_both (type_asks s 0 4 22) (sizes s room) (tt {0}) (point_count s) answer in
      (typed s 0 4 22 q.0, sized 0 (order_at s 0) s 5 room (gives_other (sizes s room) (point_count s) tt m q.1 refl))

  given : gives (point_count s) ≡ asked (points_head_asks s room) (point_count s)
  given = ap gives (sym head_count) ∙ answer

  counted : ran 21 (point_asks s) m 9 ≡ ran 21 (point_asks s) (point_count s) 9
  counted = ap (λ (k : ℕ). ran 21 (point_asks s) k 9) head_count

  -- a fault of a Point
  pub point_refused : (k p : ℕ) → refused k p ≡ ran 21 (point_asks s) m 9 → refused k p ≡ asked (points_asks s room) (point_count s)
  point_refused k p e =
      passes_all (points_head_asks s room) (run 21 (point_asks s) (point_count s) 9) (point_count s) (point_count s) given
      (refused_other (run 21 (point_asks s) (point_count s) 9) tt (point_count s) k p (e ∙ counted) refl)

  pub points_passed : gives tt ≡ ran 21 (point_asks s) m 9 → gives m ≡ asked (points_asks s room) (point_count s)
  points_passed e =
      passes_all (points_head_asks s room) (run 21 (point_asks s) (point_count s) 9) (point_count s) (point_count s) given
      (gives_other (run 21 (point_asks s) (point_count s) 9) tt (point_count s) tt (e ∙ counted) (ap gives head_count))

-- ---- the whole

-- a file whose n points are taken
pub record Pointing (s : List ℕ) (room n : ℕ) : Type 0 where
  pub head : GoodPointsHead s room
  pub counted : n ≡ point_count s
  pub fine : gives tt ≡ ran 21 (point_asks s) n 9
  pub most : n ≤ 1024
  pub fits : n ≤ room
  pub whole : 9 + 21 * n ≤ length s

pub points_good : (s : List ℕ) (room n : ℕ) → gives n ≡ asked (points_asks s room) (point_count s) → Pointing s room n
points_good s room n e =
    let m : ℕ = point_count s in
    let is : n ≡ m = given_is (points_asks s room) m e in
    let q = passed_both (points_head_asks s room) (run 21 (point_asks s) m 9) m m e in
    let f : gives tt ≡ ran 21 (point_asks s) m 9 = gives_other (run 21 (point_asks s) m 9) m tt n q.1 refl in
    let h : GoodPointsHead s room = points_head s room m q.0 in
    let hi : m ≤ 1024 = h.1.0.2 in
    let fit : m - 0 ≤ room = h.1.1 in
    let nine : 9 ≤ length s = h.1.0.0 in
    let there : 9 + 21 * m ≤ length s = ran_there 21 (point_asks s) s (point_there s) m 9 nine f in
    record {
      head = h;
      counted = is;
      fine = f ∙ ap (λ (k : ℕ). ran 21 (point_asks s) k 9) (sym is);
      most = omega arith;
      fits = omega arith;
      whole = omega arith;
    }

-- what was asked of one room, and that is another
pub for_room : {x : Answer ℕ} {room other : ℕ} (s : List ℕ) → room ≡ other → x ≡ asked (points_asks s room) (point_count s) → x ≡ asked (points_asks s other) (point_count s)
for_room s is e = e ∙ ap (λ (k : ℕ). asked (points_asks s k) (point_count s)) is

module _ (s : List ℕ) (room n : ℕ) (answer : gives n ≡ asked (points_asks s room) (point_count s)) where
  is : n ≡ point_count s
  is = given_is (points_asks s room) (point_count s) answer

  end_is : 9 + 21 * n ≡ points_end s
  end_is = ap (λ (k : ℕ). 9 + 21 * k) is

  then_end : {x : Answer ℕ} → x ≡ asked (must (leb (length s) (points_end s)) 28 (points_end s) ∷ []) (point_count s) → x ≡ points_answer s room
  then_end e = passes_all (points_asks s room) _ (point_count s) (point_count s) (ap gives (sym is) ∙ answer) e

  pub bytes_left : {x : Answer ℕ} {k p : ℕ} → refused k p ≡ asked (ended s (9 + 21 * n) ∷ []) (tt {0}) → x ≡ refused k p → x ≡ points_answer s room
  bytes_left {x} {k} {p} e h =
      then_end (refused_other (ended s (points_end s) ∷ []) (tt {0}) (point_count s) k p (e ∙ ap (λ (m : ℕ). asked (ended s m ∷ []) (tt {0})) end_is) h)

  pub all_read : length s ≤ 9 + 21 * n → gives n ≡ points_answer s room
  all_read h = then_end (passes_below (length s) (points_end s) 28 (points_end s) [] (point_count s) (omega (arith, end_is)) (ends (point_count s) (ap gives is)))

-- ---- the coordinate at a place, as the code finds it: w is how far the place lies within its Point

module _ (s : List ℕ) (place : ℕ) {w : ℕ} (is : w ≡ within place) where
  pub no_coordinate : {x : Answer Coordinate} → (w ≡ 5 → ⊥) → (w ≡ 13 → ⊥) → x ≡ refused 20 place → x ≡ sent_answer s place
  no_coordinate f g e =
      stops (eqb (within place) 5 || eqb (within place) 13) 20 place _ _
      (ap₂ ◌||◌ (ne_eqb (within place) 5 (λ q. f (is ∙ q))) (ne_eqb (within place) 13 (λ q. g (is ∙ q)))) e

  module _ (either : (w ≡ 5) ⊎ (w ≡ 13)) where
    abbrev own : ℕ
    own = order_at s (place - w)

    found_there : (eqb (within place) 5 || eqb (within place) 13) ≡ true
    found_there = or_iff.1 (elim either [ inl q ↦ inl (eq-eqb (within place) 5 (sym is ∙ q)) | inr q ↦ inr (eq-eqb (within place) 13 (sym is ∙ q)) ])

    own_is : own ≡ sent_order s place
    own_is = ap (λ (k : ℕ). order_at s (place - k)) is

    pub not_whole : {x : Answer Coordinate} {n p : ℕ} → refused n p ≡ asked (whole 8 s place ∷ []) (tt {0}) → x ≡ refused n p → x ≡ sent_answer s place
    not_whole {x} {n} {p} e h =
        passes (eqb (within place) 5 || eqb (within place) 13) 20 place _ _ found_there
        (stops_first (whole 8 s place ∷ []) (must (leb (sent_order s place) 1) 20 place ∷ []) (tt {0}) (coordinate_at (sent_order s place) s place) n p e h)

    module _ (long : place + 8 ≤ length s) where
      then_order : {x : Answer Coordinate} → x ≡ asked (must (leb (sent_order s place) 1) 20 place ∷ []) (coordinate_at (sent_order s place) s place) → x ≡ sent_answer s place
      then_order e =
          passes (eqb (within place) 5 || eqb (within place) 13) 20 place _ _ found_there
          (passes_below (place + 8) (length s) 20 place _ _ long e)

      pub no_order : {x : Answer Coordinate} → 1 < own → x ≡ refused 20 place → x ≡ sent_answer s place
      no_order h e = then_order (stops_above (sent_order s place) 1 20 place _ _ (subst (λ (k : ℕ). 1 < k) own_is h) e)

      pub sent_found : {c : Coordinate} {o : ℕ} → o ≡ own → own ≤ 1 → c ≡ coordinate_at o s place → gives c ≡ sent_answer s place
      sent_found f h e =
          then_order
          (passes_below (sent_order s place) 1 20 place _ _ (subst (λ (k : ℕ). k ≤ 1) own_is h)
          (ends (coordinate_at (sent_order s place) s place) (ap gives (e ∙ ap (λ (k : ℕ). coordinate_at k s place) (f ∙ own_is)))))
