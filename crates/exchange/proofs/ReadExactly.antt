-- What the reader answers, exactly when: a ring, or the number and the place of the first fault. Assumes nothing.
use Prim.Native.Nat.{ℕ, ◌+◌, ◌*◌, ◌≤◌}
use mathlib.Core.Path.{◌≡◌, refl, sym, ap, ◌∙◌}
use mathlib.Core.Logic.{◌↔◌}
use mathlib.Core.List.{List, [], ◌∷◌}
use native.Mathlib.Omega.{arith}
use borrow.Author.Tests.{leb-true, leb-false, eq-eqb}
use lib.Dec.{leb}
use lib.ListN.{length}
use Rattle.laws.proofs.Test.{and_iff}
use Rattle.shape.specs.Answers.{Question, must, gives, refused, asked}
use Rattle.shape.specs.Coordinates.{grid_at}
use Rattle.shape.specs.Reading.{count, order_at, length_at, end, polygon_asks, read_answer}
use Rattle.shape.specs.Refusals.{GoodHead, Closed, ReadFault, within, left_over, Taken}
use Rattle.shape.proofs.Asking.{stops_above, passes, passes_below, ends, passes_all, stops_first, ask_cases, part_cases}
use Rattle.shape.proofs.Scanned.{scanned}
use Rattle.shape.proofs.Heads.{passed_one, passed_all, passed_both}
use Rattle.shape.proofs.Polygons.{Ringed, polygon_good}
use Rattle.shape.proofs.Runs.{nothing_left, all_good}
use Rattle.exchange.proofs.Refused.{from_answer, from_fault, pass_runs}

-- ---- a polygon at a place that is taken

to_closed : (s : List ℕ) (at room n : ℕ) → Ringed s at room n → Closed s at room
to_closed s at room n r =
    let h = r.head in
    let o : ℕ = order_at s at in
    let c : ℕ = count o s at in
    let there = h.there in
    let is : length_at s at ≡ n = omega (arith, h.counted) in
    let twice : 2 * (n + 1) ≡ 2 * c = omega (arith, h.counted) in
    let good : GoodHead s at room = (
      (((omega arith, h.order), omega arith, h.three), omega arith, h.one),
      ((omega arith, omega (arith, h.counted, h.least), omega (arith, h.counted, h.most)), omega (arith, h.counted, h.fits)),
    ) in (
      (good, all_good o s (2 * c) (at + 13) (r.fine ∙ ap (λ (k : ℕ). scanned k o s (at + 13)) twice)),
      r.same_x ∙ ap (λ (k : ℕ). grid_at o s (at + 13 + 16 * k)) (sym is),
      r.same_y ∙ ap (λ (k : ℕ). grid_at o s (at + 13 + 16 * k + 8)) (sym is),
    )

from_closed : (s : List ℕ) (at room : ℕ) → Closed s at room → gives (length_at s at) ≡ asked (polygon_asks s at room) (length_at s at)
from_closed s at room h =
    pass_runs s at room h.0 (passes _ _ _ _ _ (and_iff.1 (eq-eqb _ _ h.1, eq-eqb _ _ h.2)) (ends (length_at s at) refl))

-- A POLYGON AT A PLACE gives its ring's length exactly when its head is good, its positions are on the grid and the last is the first
pub polygon_taken_exactly : (s : List ℕ) (at room n : ℕ) → (asked (polygon_asks s at room) (length_at s at) ≡ gives n) ↔ (Closed s at room × (n ≡ length_at s at))
polygon_taken_exactly s at room n = (
  (λ e.
      let r = polygon_good s at room n (sym e) in
      (to_closed s at room n r, omega (arith, r.head.counted))),
  (λ h. sym (ap gives h.1 ∙ from_closed s at room h.0)),
)

-- ---- a block

module _ (s : List ℕ) (room : ℕ) where
  abbrev m : ℕ
  m = length_at s 0

  abbrev last_question : List Question
  last_question = must (leb (length s) (end s 0)) 28 (end s 0) ∷ []

  whole_there : Closed s 0 room → end s 0 ≤ length s
  whole_there h =
      let r = polygon_good s 0 room m (from_closed s 0 room h) in
      omega (arith, r.whole, r.head.counted)

  closed_of : gives m ≡ asked (polygon_asks s 0 room) m → Closed s 0 room
  closed_of e = ((polygon_taken_exactly s 0 room m).0 (sym e)).0

  refused_to : {n p : ℕ} → refused n p ≡ read_answer s room → ReadFault s room n p
  refused_to {n} {p} e =
      part_cases (polygon_asks s 0 room) last_question m m e
      (λ r. within n p (from_answer s 0 room r))
      (λ g r. ask_cases (ReadFault s room) (leb (length s) (end s 0)) 28 (end s 0) [] m r
      (λ f. left_over (closed_of g) (leb-false (length s) (end s 0) f))
      (λ t r2. absurd (nothing_left m r2)))

  refused_from : {n p : ℕ} → ReadFault s room n p → refused n p ≡ read_answer s room
  refused_from (within n p f) = stops_first (polygon_asks s 0 room) last_question m m n p (from_fault s 0 room f) refl
  refused_from (left_over h l) =
      passes_all (polygon_asks s 0 room) last_question m m (from_closed s 0 room h) (stops_above (length s) (end s 0) _ _ _ _ l refl)

-- THE READER REFUSES with a number and a place exactly when that is the block's first fault
pub read_refused_exactly : (s : List ℕ) (room number place : ℕ) → (read_answer s room ≡ refused number place) ↔ ReadFault s room number place
read_refused_exactly s room number place = ((λ e. refused_to s room (sym e)), (λ f. sym (refused_from s room f)))

-- ... and gives a ring's length exactly when the block is a polygon of that ring and nothing else
pub read_taken_exactly : (s : List ℕ) (room n : ℕ) → (read_answer s room ≡ gives n) ↔ Taken s room n
read_taken_exactly s room n = (
  (λ e.
      let q1 = passed_both (polygon_asks s 0 room) (last_question s room) (m s room) (m s room) (sym e) in
      let q2 = passed_one (leb (length s) (end s 0)) 28 (end s 0) [] (m s room) q1.1 in
      let closed = closed_of s room q1.0 in
      let short : length s ≤ end s 0 = leb-true (length s) (end s 0) q2.0 in
      let long = whole_there s room closed in
      (closed, omega arith, passed_all (m s room) q2.1)),
  (λ h.
      let l = h.1 in
      sym (ap gives h.2
      ∙ passes_all (polygon_asks s 0 room) (last_question s room) (m s room) (m s room) (from_closed s 0 room h.0)
      (passes_below (length s) (end s 0) _ _ _ _ (omega arith) (ends (m s room) refl)))),
)
