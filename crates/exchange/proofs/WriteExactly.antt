-- What the writer and the separate call answer, exactly when. Assumes nothing.
use Prim.Native.Nat.{ℕ, ◌+◌, ◌≤◌}
use mathlib.Core.Path.{◌≡◌, refl, sym, ap, ◌∙◌}
use mathlib.Core.Logic.{◌↔◌}
use mathlib.Core.Bool.{Bool, true, ◌&&◌}
use mathlib.Core.List.{List, []}
use borrow.Author.Tests.{leb-true, leb-false, le-leb, eqb-true, eq-eqb}
use lib.Dec.{leb, eqb}
use lib.ListN.{length}
use Rattle.laws.proofs.Test.{and_iff, false_iff}
use Rattle.shape.specs.declared.Coordinate.{Coordinate}
use Rattle.shape.specs.Answers.{gives, refused}
use Rattle.shape.specs.Coordinates.{coordinate_at, judgement}
use Rattle.shape.specs.Writing.{low, size, writing}
use Rattle.shape.specs.Refusals.{Ring, Low, WriteFault, no_ring, too_high, too_short, JudgeFault, other_order, cut}
use Rattle.shape.proofs.Asking.{stops, stops_above, passes, passes_below, ends, ask_cases}
use Rattle.shape.proofs.Heads.{passed_one, passed_all}
use Rattle.shape.proofs.Runs.{nothing_left}
use Rattle.exchange.proofs.Lows.{low_exactly}

-- ---- the writer

module _ (xs ys : List ℕ) (room : ℕ) where
  abbrev ring : Bool
  ring = eqb (length xs) (length ys) && (leb 3 (length xs) && leb (length xs) 1024)

  ring_exactly : (ring ≡ true) ↔ Ring xs ys
  ring_exactly = (
    (λ e.
        let a = and_iff.0 e in
        let b = and_iff.0 a.1 in
        (eqb-true _ _ a.0, leb-true 3 (length xs) b.0, leb-true (length xs) 1024 b.1)),
    (λ h. and_iff.1 (eq-eqb _ _ h.0, and_iff.1 (le-leb 3 (length xs) h.1, le-leb (length xs) 1024 h.2))),
  )

  pub lows_exactly : ((low xs && low ys) ≡ true) ↔ (Low xs × Low ys)
  lows_exactly = (
    (λ e. let a = and_iff.0 e in ((low_exactly xs).0 a.0, (low_exactly ys).0 a.1)),
    (λ h. and_iff.1 ((low_exactly xs).1 h.0, (low_exactly ys).1 h.1)),
  )

  to_fault : {n p : ℕ} → refused n p ≡ writing xs ys room → WriteFault xs ys room n p
  to_fault e =
      ask_cases (WriteFault xs ys room) ring 30 0 _ _ e
      (λ f. no_ring (λ h. false_iff.0 f (ring_exactly.1 h)))
      (λ t e. let h = ring_exactly.0 t in
      ask_cases (WriteFault xs ys room) (low xs && low ys) 31 0 _ _ e
      (λ f. too_high h (λ l. false_iff.0 f (lows_exactly.1 l)))
      (λ t e. let l = lows_exactly.0 t in
      ask_cases (WriteFault xs ys room) (leb (size (length xs)) room) 32 0 [] _ e
      (λ f. too_short h l (leb-false (size (length xs)) room f))
      (λ t e. absurd (nothing_left (size (length xs)) e))))

  from_fault : {n p : ℕ} → WriteFault xs ys room n p → refused n p ≡ writing xs ys room
  from_fault (no_ring f) = stops _ _ _ _ _ (false_iff.1 (λ t. f (ring_exactly.0 t))) refl
  from_fault (too_high h f) = passes _ _ _ _ _ (ring_exactly.1 h) (stops _ _ _ _ _ (false_iff.1 (λ t. f (lows_exactly.0 t))) refl)
  from_fault (too_short h l g) =
      passes _ _ _ _ _ (ring_exactly.1 h) (passes _ _ _ _ _ (lows_exactly.1 l) (stops_above (size (length xs)) room _ _ _ _ g refl))

-- THE WRITER REFUSES with a number exactly when that is the first rule that is broken; the place is 0
pub write_refused_exactly : (xs ys : List ℕ) (room number place : ℕ) → (writing xs ys room ≡ refused number place) ↔ WriteFault xs ys room number place
write_refused_exactly xs ys room number place = ((λ e. to_fault xs ys room (sym e)), (λ f. sym (from_fault xs ys room f)))

-- ... and writes a number of bytes exactly when the lists are a ring on the grid that has room; it is 29 and 16 for each position
pub write_taken_exactly : (xs ys : List ℕ) (room n : ℕ)
    → (writing xs ys room ≡ gives n) ↔ (Ring xs ys × (Low xs × Low ys) × (size (length xs) ≤ room) × (n ≡ size (length xs)))
write_taken_exactly xs ys room n = (
  (λ e.
      let q1 = passed_one (ring xs ys room) 30 0 _ _ (sym e) in
      let q2 = passed_one (low xs && low ys) 31 0 _ _ q1.1 in
      let q3 = passed_one (leb (size (length xs)) room) 32 0 [] (size (length xs)) q2.1 in
      ((ring_exactly xs ys room).0 q1.0, (lows_exactly xs ys room).0 q2.0, leb-true (size (length xs)) room q3.0, passed_all (size (length xs)) q3.1)),
  (λ h. sym (ap gives h.3
      ∙ passes _ _ _ _ _ ((ring_exactly xs ys room).1 h.0)
      (passes _ _ _ _ _ ((lows_exactly xs ys room).1 h.1) (passes_below (size (length xs)) room _ _ _ _ h.2 (ends (size (length xs)) refl))))),
)

-- ---- the separate call

-- THE SEPARATE CALL REFUSES with 21 at place 0 for another byte order, and then with 20 at the place asked where eight bytes are not there
pub judge_refused_exactly : (s : List ℕ) (order at number place : ℕ) → (judgement s order at ≡ refused number place) ↔ JudgeFault s order at number place
judge_refused_exactly s order at number place = (
  (λ e.
      ask_cases (JudgeFault s order at) (leb order 1) 21 0 _ _ (sym e)
      (λ f. other_order (leb-false order 1 f))
      (λ t e. ask_cases (JudgeFault s order at) (leb (at + 8) (length s)) 20 at [] _ e
      (λ f. cut (leb-true order 1 t) (leb-false (at + 8) (length s) f))
      (λ t e. absurd (nothing_left (coordinate_at order s at) e)))),
  (λ f. sym (back f)),
)
  where
    back : {n p : ℕ} → JudgeFault s order at n p → refused n p ≡ judgement s order at
    back (other_order h) = stops_above order 1 _ _ _ _ h refl
    back (cut h g) = passes_below order 1 _ _ _ _ h (stops_above (at + 8) (length s) _ _ _ _ g refl)

-- ... and says what the eight bytes are exactly when the order is 0 or 1 and they are there
pub judge_taken_exactly : (s : List ℕ) (order at : ℕ) (c : Coordinate)
    → (judgement s order at ≡ gives c) ↔ ((order ≤ 1) × (at + 8 ≤ length s) × (c ≡ coordinate_at order s at))
judge_taken_exactly s order at c = (
  (λ e.
      let q1 = passed_one (leb order 1) 21 0 _ _ (sym e) in
      let q2 = passed_one (leb (at + 8) (length s)) 20 at [] (coordinate_at order s at) q1.1 in
      (leb-true order 1 q1.0, leb-true (at + 8) (length s) q2.0, passed_all (coordinate_at order s at) q2.1)),
  (λ h. sym (ap gives h.2 ∙ passes_below order 1 _ _ _ _ h.0 (passes_below (at + 8) (length s) _ _ _ _ h.1 (ends (coordinate_at order s at) refl)))),
)
