-- What the reader of point files answers, exactly when: the count, or the number and the place of the first fault. Assumes nothing.
use Prim.Native.Nat.{ℕ, ◌+◌, ◌≤◌}
use mathlib.Core.Path.{◌≡◌, refl, sym, ap, ◌∙◌, subst}
use mathlib.Core.Logic.{◌↔◌}
use mathlib.Core.List.{List, [], ◌∷◌}
use native.Mathlib.Omega.{arith}
use borrow.Author.Tests.{leb-true, leb-false}
use lib.Dec.{leb}
use lib.ListN.{length}
use Rattle.shape.specs.Answers.{Question, must, gives, refused, asked}
use Rattle.shape.specs.Reading.{run, coordinate_asks, coordinates, size_asks, order_at, type_asks}
use Rattle.shape.specs.Refusals.{Good, Bad}
use Rattle.shape.proofs.Asking.{stops_above, fault, passes_all, stops_first, refused_other, ask_cases, part_cases}
use Rattle.shape.proofs.Heads.{passed_one, passed_all, passed_both}
use Rattle.shape.proofs.Runs.{nothing_left, Exact, coordinate_exact, steps, all_fine, fine_all, first_bad, bad_first}
use Rattle.shape.proofs.Shapes.{typed, typed_passes, type_fault, type_refuses, sized_passes, size_fault, size_refuses}
use Rattle.exchange.specs.Points.{point_count, points_end, point_asks, points_head_asks, points_asks, points_answer}
use Rattle.exchange.specs.PointRefusals.{GoodPoint, GoodPointsHead, Pointed, PointFault, other_shape, bad_x, bad_y, PointsFault, other_size, bad_point, left_over, PointsTaken}
use Rattle.exchange.proofs.PointFiles.{size_refused, size_passed, points_head, point_refused, points_passed, points_good, bytes_left, all_read}

module _ (s : List ℕ) (at : ℕ) where
  abbrev o : ℕ
  o = order_at s at

  -- the Point's x, and then its y
  abbrev x_asks : List Question
  x_asks = coordinate_asks o s (at + 5)

  abbrev y_asks : List Question
  y_asks = coordinates 1 o s (at + 5 + 8)

  y_place : at + 5 + 8 ≡ at + 13
  y_place = omega arith

  point_fine : gives tt ≡ fault (point_asks s at) → GoodPoint s at
  unfolding run
  point_fine e =
      let q = passed_both (type_asks s at 1 33) (coordinates 2 o s (at + 5)) (tt {0}) (tt {0}) e in
      let p = passed_both x_asks y_asks (tt {0}) (tt {0}) q.1 in
      let ok = coordinate_exact o s in
      (typed s at 1 33 q.0, ok.is_fine (at + 5) p.0, subst (Good o s) y_place (ok.is_fine (at + 5 + 8) p.1))

  fine_point : GoodPoint s at → gives tt ≡ fault (point_asks s at)
  unfolding run
  fine_point g =
      let ok = coordinate_exact o s in
      passes_all (type_asks s at 1 33) (coordinates 2 o s (at + 5)) (tt {0}) (tt {0}) (typed_passes s at 1 33 g.0)
      (passes_all x_asks y_asks (tt {0}) (tt {0}) (ok.fine_is (at + 5) g.1) (ok.fine_is (at + 5 + 8) (subst (Good o s) (sym y_place) g.2)))

  point_wrong : (n p : ℕ) → refused n p ≡ fault (point_asks s at) → PointFault s at n p
  unfolding run
  point_wrong n p e =
      let ok = coordinate_exact o s in
      part_cases (type_asks s at 1 33) (coordinates 2 o s (at + 5)) (tt {0}) (tt {0}) e
      (λ r. other_shape (type_fault s at 1 33 r))
      (λ g r.
      part_cases x_asks y_asks (tt {0}) (tt {0}) r
      (λ rx. let b = ok.is_wrong (at + 5) n p rx in subst (PointFault s at n) (sym b.1) (bad_x (typed s at 1 33 g) b.0))
      (λ gx ry.
      let b = ok.is_wrong (at + 5 + 8) n p ry in
      subst (PointFault s at n) (sym (b.1 ∙ y_place))
      (bad_y (typed s at 1 33 g) (ok.is_fine (at + 5) gx) (subst (λ (k : ℕ). Bad o s k n) y_place b.0))))

  wrong_point : (n p : ℕ) → PointFault s at n p → refused n p ≡ fault (point_asks s at)
  unfolding run
  wrong_point n p (other_shape f) = stops_first (type_asks s at 1 33) (coordinates 2 o s (at + 5)) (tt {0}) (tt {0}) n p (type_refuses s at 1 33 f) refl
  wrong_point n p (bad_x h b) =
      passes_all (type_asks s at 1 33) (coordinates 2 o s (at + 5)) (tt {0}) (tt {0}) (typed_passes s at 1 33 h)
      (stops_first x_asks y_asks (tt {0}) (tt {0}) n (at + 5) ((coordinate_exact o s).wrong_is (at + 5) n (at + 5) (b, refl)) refl)
  wrong_point n p (bad_y h g b) =
      passes_all (type_asks s at 1 33) (coordinates 2 o s (at + 5)) (tt {0}) (tt {0}) (typed_passes s at 1 33 h)
      (passes_all x_asks y_asks (tt {0}) (tt {0}) ((coordinate_exact o s).fine_is (at + 5) g)
      ((coordinate_exact o s).wrong_is (at + 5 + 8) n (at + 13) (subst (λ (k : ℕ). Bad o s k n) (sym y_place) b, sym y_place)))

-- A POINT AT A PLACE is good, or has its first fault, exactly as its questions say
pub point_exact : (s : List ℕ) → Exact (point_asks s) (GoodPoint s) (PointFault s)
point_exact s = record { is_fine = point_fine s; fine_is = fine_point s; is_wrong = point_wrong s; wrong_is = wrong_point s }

module _ (s : List ℕ) (room : ℕ) where
  abbrev m : ℕ
  m = point_count s

  abbrev sizes : List Question
  sizes = size_asks 0 (order_at s 0) s 5 room

  abbrev all : List Question
  all = run 21 (point_asks s) m 9

  abbrev last_question : List Question
  last_question = must (leb (length s) (points_end s)) 28 (points_end s) ∷ []

  pointed : gives m ≡ asked (points_asks s room) m → Pointed s room m
  pointed e =
      let r = points_good s room m e in
      (r.head, all_fine (point_asks s) (steps 21 (point_asks s)) (GoodPoint s) (PointFault s) (point_exact s) m 9 r.fine)

  head_given : GoodPointsHead s room → gives m ≡ asked (points_head_asks s room) m
  head_given h = size_passed s room (typed_passes s 0 4 22 h.0) (sized_passes 0 (order_at s 0) s 5 room h.1)

  points_given : Pointed s room m → gives m ≡ asked (points_asks s room) m
  points_given h =
      points_passed s room m (head_given h.0) (fine_all (point_asks s) (steps 21 (point_asks s)) (GoodPoint s) (PointFault s) (point_exact s) m 9 h.1)

  from_head : {n p : ℕ} → refused n p ≡ asked (points_head_asks s room) m → PointsFault s room n p
  from_head {n} {p} e =
      part_cases (type_asks s 0 4 22) sizes (tt {0}) m e
      (λ r. other_shape (type_fault s 0 4 22 r))
      (λ g r. other_size (typed s 0 4 22 g) (size_fault 0 (order_at s 0) s 5 room (refused_other sizes m (tt {0}) n p r refl)))

  refused_to : {n p : ℕ} → refused n p ≡ points_answer s room → PointsFault s room n p
  refused_to {n} {p} e =
      part_cases (points_asks s room) last_question m m e
      (λ r.
      part_cases (points_head_asks s room) all m m r from_head
      (λ g q.
      let f = first_bad (point_asks s) (steps 21 (point_asks s)) (GoodPoint s) (PointFault s) (point_exact s) m 9 n p (refused_other all m (tt {0}) n p q refl) in
      bad_point f.i f.within (points_head s room m g, f.before) f.bad))
      (λ g r.
      ask_cases (PointsFault s room) (leb (length s) (points_end s)) 28 (points_end s) [] m r
      (λ f. left_over (pointed g) (leb-false (length s) (points_end s) f))
      (λ t q. absurd (nothing_left m q)))

  refused_from : {n p : ℕ} → PointsFault s room n p → refused n p ≡ points_answer s room
  refused_from {n} {p} (other_shape f) =
      stops_first (points_asks s room) last_question m m n p
      (stops_first (points_head_asks s room) all m m n p (stops_first (type_asks s 0 4 22) sizes (tt {0}) m n p (type_refuses s 0 4 22 f) refl) refl) refl
  refused_from {n} {p} (other_size h f) =
      stops_first (points_asks s room) last_question m m n p
      (stops_first (points_head_asks s room) all m m n p
      (size_refused s room (typed_passes s 0 4 22 h) n p (size_refuses 0 (order_at s 0) s 5 room f)) refl) refl
  refused_from {n} {p} (bad_point i l h f) =
      stops_first (points_asks s room) last_question m m n p
      (point_refused s room m (head_given h.0) n p
      (bad_first (point_asks s) (steps 21 (point_asks s)) (GoodPoint s) (PointFault s) (point_exact s) i m 9 n p l h.1 f)) refl
  refused_from (left_over h l) = bytes_left s room m (points_given h) (stops_above (length s) (points_end s) 28 (points_end s) [] (tt {0}) l refl) refl

-- THE READER REFUSES with a number and a place exactly when that is the file's first fault
pub points_refused_exactly : (s : List ℕ) (room number place : ℕ) → (points_answer s room ≡ refused number place) ↔ PointsFault s room number place
points_refused_exactly s room number place = ((λ e. refused_to s room (sym e)), (λ f. sym (refused_from s room f)))

-- ... and gives a count exactly when the file is that many good Points and nothing else
pub points_taken_exactly : (s : List ℕ) (room n : ℕ) → (points_answer s room ≡ gives n) ↔ PointsTaken s room n
points_taken_exactly s room n = (
  (λ e.
      let q1 = passed_both (points_asks s room) (last_question s room) (m s room) (m s room) (sym e) in
      let q2 = passed_one (leb (length s) (points_end s)) 28 (points_end s) [] (m s room) q1.1 in
      let short : length s ≤ points_end s = leb-true (length s) (points_end s) q2.0 in
      let r = points_good s room (m s room) q1.0 in
      let long : points_end s ≤ length s = r.whole in
      (pointed s room q1.0, omega arith, passed_all (m s room) q2.1)),
  (λ h.
      let l : length s ≡ points_end s = h.1 in
      sym (ap gives h.2 ∙ all_read s room (m s room) (points_given s room h.0) (omega arith))),
)
