-- What the reader and the writer of district files answer, exactly when. Assumes nothing.
use Prim.Native.Nat.{ℕ, zero, suc, ◌+◌, ◌-◌, ◌≤◌}
use mathlib.Core.Path.{◌≡◌, refl, sym, ap, ◌∙◌}
use mathlib.Core.Logic.{◌↔◌, inl, inr}
use mathlib.Core.Bool.{Bool, true, ◌&&◌}
use mathlib.Core.List.{List, [], ◌∷◌, ◌++◌}
use native.Mathlib.Omega.{arith}
use borrow.Author.Tests.{leb-true, leb-false, le-leb, lt-leb, eqb-true, eq-eqb}
use lib.Dec.{leb, eqb}
use lib.ListN.{length}
use Rattle.laws.proofs.Test.{and_iff, false_iff}
use Rattle.shape.specs.Answers.{Question, must, Answer, gives, refused, asked}
use Rattle.shape.specs.Writing.{low}
use Rattle.shape.specs.Reading.{type_asks, length_at, end, polygon_asks}
use Rattle.shape.specs.Refusals.{Closed, PolygonFault, Low}
use Rattle.shape.proofs.Asking.{fault, stops, passes, stops_above, passes_below, ends, passes_all, stops_first, refused_other, gives_other, ask_cases, part_cases}
use Rattle.shape.proofs.Heads.{passed_one, passed_all, passed_both}
use Rattle.shape.proofs.Polygons.{polygon_good}
use Rattle.shape.proofs.Runs.{nothing_left, Exact, Row, all_fine, fine_all, first_bad, bad_first}
use Rattle.shape.proofs.Shapes.{not_both, either_fails, typed, typed_passes, type_fault, type_refuses}
use Rattle.exchange.specs.Districts.{total, rings, district_size, district_writing, parts_asks, parts_end, part_lengths, ring_count, ring_count_asks, district_head_asks, district_asks, district_answer, district_end}
use Rattle.exchange.specs.DistrictRefusals.{Few, Summed, Rings, Divided, DistrictWriteFault, other_count, other_sum, no_rings, too_high, too_short, GoodDistrictHead, Parted, DistrictFault, other_shape, no_count, no_places, bad_part, left_over, DistrictTaken}
use Rattle.exchange.proofs.Refused.{polygon_refused_exactly}
use Rattle.exchange.proofs.ReadExactly.{polygon_taken_exactly}
use Rattle.exchange.proofs.WriteExactly.{lows_exactly}
use Rattle.exchange.proofs.DistrictLaws.{rings_exactly}
use Rattle.exchange.proofs.DistrictFiles.{district_head_good, district_head_passes, district_good, district_given}

-- ---- polygons one after another

module _ (s : List ℕ) where
  -- a place, and the room that is left there
  abbrev Spot : Type 0
  Spot = ℕ × ℕ

  abbrev spot_asks : Spot → List Question
  spot_asks p = polygon_asks s p.0 p.1

  abbrev Fine : Spot → Type 0
  Fine p = Closed s p.0 p.1

  abbrev Wrong : Spot → ℕ → ℕ → Type 0
  Wrong p = PolygonFault s p.0 p.1

  spot_exact : Exact spot_asks Fine Wrong
  spot_exact = record {
    is_fine = λ p e.
        let m = length_at s p.0 in
        ((polygon_taken_exactly s p.0 p.1 m).0 (sym (gives_other (spot_asks p) (tt {0}) m (tt {0}) e refl))).0;
    fine_is = λ p h.
        let m = length_at s p.0 in
        gives_other (spot_asks p) m (tt {0}) m (sym ((polygon_taken_exactly s p.0 p.1 m).1 (h, refl))) refl;
    is_wrong = λ p n q e.
        (polygon_refused_exactly s p.0 p.1 n q).0 (sym (refused_other (spot_asks p) (tt {0}) (length_at s p.0) n q e refl));
    wrong_is = λ p n q f.
        refused_other (spot_asks p) (length_at s p.0) (tt {0}) n q (sym ((polygon_refused_exactly s p.0 p.1 n q).1 f)) refl;
  }

  abbrev next : Spot → Spot
  next p = (end s p.0, p.1 - length_at s p.0)

  abbrev nth : ℕ → Spot → Spot
  nth i p = (parts_end s i p.0, p.1 - total (part_lengths s i p.0))

  spot_here : (p : Spot) → p ≡ nth 0 p
  unfolding parts_end part_lengths total
  spot_here p = let e : p.1 ≡ p.1 - 0 = omega arith in ap (λ (r : ℕ). (p.0, r)) e

  spot_later : (p : Spot) (i : ℕ) → nth i (next p) ≡ nth (suc i) p
  unfolding parts_end part_lengths total
  spot_later p i =
      let at = p.0 in
      let t = total (part_lengths s i (end s at)) in
      let e : p.1 - length_at s at - t ≡ p.1 - (length_at s at + t) = omega arith in
      ap (λ (r : ℕ). (parts_end s i (end s at), r)) e

  spot_none : (p : Spot) → parts_asks s 0 p.0 p.1 ≡ []
  unfolding parts_asks
  spot_none p = refl

  spot_more : (k : ℕ) (p : Spot) → parts_asks s (suc k) p.0 p.1 ≡ spot_asks p ++ parts_asks s k (end s p.0) (p.1 - length_at s p.0)
  unfolding parts_asks
  spot_more k p = refl

  abbrev spots : Row spot_asks
  spots = record { next = next; nth = nth; all = λ k p. parts_asks s k p.0 p.1; here = spot_here; later = spot_later; none = spot_none; more = spot_more }

  -- all that are passed are there
  pub parts_there : (k at room : ℕ) → at ≤ length s → gives tt ≡ fault (parts_asks s k at room) → parts_end s k at ≤ length s
  unfolding parts_asks parts_end
  parts_there zero at room l e = l
  parts_there (suc k) at room l e =
      let q = passed_both (polygon_asks s at room) (parts_asks s k (end s at) (room - length_at s at)) (length_at s at) (tt {0}) e in
      let r = polygon_good s at room (length_at s at) q.0 in
      parts_there k (end s at) (room - length_at s at) (omega (arith, r.whole, r.head.counted)) q.1

-- ---- the reader

module _ (s : List ℕ) (places room : ℕ) where
  abbrev m : ℕ
  m = ring_count s

  abbrev Fault : ℕ → ℕ → Type 0
  Fault = DistrictFault s places room

  abbrev all : List Question
  all = parts_asks s m 9 room

  abbrev last_question : List Question
  last_question = must (leb (length s) (district_end s)) 28 (district_end s) ∷ []

  -- the polygons behind a good head
  then_parts : {x : Answer ℕ} → GoodDistrictHead s places → x ≡ asked all m → x ≡ asked (district_asks s places room) m
  then_parts h e = passes_all (district_head_asks s places) all m m (district_head_passes s places h) e

  parted : gives m ≡ asked (district_asks s places room) m → Parted s places room m
  parted e =
      let q = passed_both (district_head_asks s places) all m m e in (
        district_head_good s places q.0,
        all_fine (spot_asks s) (spots s) (Fine s) (Wrong s) (spot_exact s) m (9, room) (gives_other all m (tt {0}) m q.1 refl),
      )

  parts_given : Parted s places room m → gives m ≡ asked (district_asks s places room) m
  parts_given h =
      then_parts h.0 (gives_other all (tt {0}) m (tt {0}) (fine_all (spot_asks s) (spots s) (Fine s) (Wrong s) (spot_exact s) m (9, room) h.1) refl)

  from_head : {n p : ℕ} → refused n p ≡ asked (district_head_asks s places) m → Fault n p
  from_head {n} {p} e =
      part_cases (type_asks s 0 6 22) (ring_count_asks s places) (tt {0}) m e
      (λ r. other_shape (type_fault s 0 6 22 r))
      (λ g e. let t = typed s 0 6 22 g in
      ask_cases Fault (leb 9 (length s)) 20 5 _ m e
      (λ f. no_count t (leb-false 9 (length s) f))
      (λ t1 e. let l = leb-true 9 (length s) t1 in
      ask_cases Fault (leb 1 m && leb m 32) 35 5 _ m e
      (λ f. other_count t l (elim (not_both (leb 1 m) (leb m 32) f) [ inl q ↦ inl (leb-false 1 m q) | inr q ↦ inr (leb-false m 32 q) ]))
      (λ t2 e. let b = and_iff.0 t2 in
      ask_cases Fault (leb m places) 29 5 [] m e
      (λ f. no_places (t, l, leb-true 1 m b.0, leb-true m 32 b.1) (leb-false m places f))
      (λ t3 e. absurd (nothing_left m e)))))

  refused_to : {n p : ℕ} → refused n p ≡ district_answer s places room → Fault n p
  refused_to {n} {p} e =
      part_cases (district_asks s places room) last_question m m e
      (λ r.
      part_cases (district_head_asks s places) all m m r from_head
      (λ g q.
      let f = first_bad (spot_asks s) (spots s) (Fine s) (Wrong s) (spot_exact s) m (9, room) n p (refused_other all m (tt {0}) n p q refl) in
      bad_part f.i f.within (district_head_good s places g, f.before) f.bad))
      (λ g r.
      ask_cases Fault (leb (length s) (district_end s)) 28 (district_end s) [] m r
      (λ f. left_over (parted g) (leb-false (length s) (district_end s) f))
      (λ t q. absurd (nothing_left m q)))

  -- a fault of the head
  stops_head : (n p : ℕ) → refused n p ≡ asked (district_head_asks s places) m → refused n p ≡ district_answer s places room
  stops_head n p e = stops_first (district_asks s places room) last_question m m n p (stops_first (district_head_asks s places) all m m n p e refl) refl

  refused_from : {n p : ℕ} → Fault n p → refused n p ≡ district_answer s places room
  refused_from {n} {p} (other_shape f) = stops_head n p (stops_first (type_asks s 0 6 22) (ring_count_asks s places) (tt {0}) m n p (type_refuses s 0 6 22 f) refl)
  refused_from (no_count t l) =
      stops_head 20 5 (passes_all (type_asks s 0 6 22) (ring_count_asks s places) (tt {0}) m (typed_passes s 0 6 22 t) (stops_above 9 (length s) _ _ _ _ l refl))
  refused_from (other_count t l f) =
      stops_head 35 5 (passes_all (type_asks s 0 6 22) (ring_count_asks s places) (tt {0}) m (typed_passes s 0 6 22 t)
      (passes_below 9 (length s) _ _ _ _ l
      (stops _ _ _ _ _ (either_fails (leb 1 m) (leb m 32) (elim f [ inl q ↦ inl (lt-leb 1 m q) | inr q ↦ inr (lt-leb m 32 q) ])) refl)))
  refused_from (no_places h l) =
      stops_head 29 5 (passes_all (type_asks s 0 6 22) (ring_count_asks s places) (tt {0}) m (typed_passes s 0 6 22 h.0)
      (passes_below 9 (length s) _ _ _ _ h.1
      (passes _ _ _ _ _ (and_iff.1 (le-leb 1 m h.2, le-leb m 32 h.3)) (stops_above m places _ _ _ _ l refl))))
  refused_from {n} {p} (bad_part i l h f) =
      stops_first (district_asks s places room) last_question m m n p
      (then_parts h.0 (refused_other all (tt {0}) m n p
      (bad_first (spot_asks s) (spots s) (Fine s) (Wrong s) (spot_exact s) i m (9, room) n p l h.1 f) refl)) refl
  refused_from (left_over h l) =
      passes_all (district_asks s places room) last_question m m (parts_given h) (stops_above (length s) (district_end s) _ _ _ _ l refl)

-- THE READER REFUSES with a number and a place exactly when that is the file's first fault
pub district_refused_exactly : (s : List ℕ) (places room number place : ℕ)
    → (district_answer s places room ≡ refused number place) ↔ DistrictFault s places room number place
district_refused_exactly s places room number place = ((λ e. refused_to s places room (sym e)), (λ f. sym (refused_from s places room f)))

-- ... and gives a number of rings exactly when the file is that many good polygons and nothing else
pub district_taken_exactly : (s : List ℕ) (places room n : ℕ) → (district_answer s places room ≡ gives n) ↔ DistrictTaken s places room n
district_taken_exactly s places room n = (
  (λ e.
      let k : ℕ = ring_count s in
      let g = district_good s places room n e in
      let long : district_end s ≤ length s = parts_there s k 9 room g.head.0.1 g.fine in
      let short : length s ≤ district_end s = g.all_read in
      ((g.head, all_fine (spot_asks s) (spots s) (Fine s) (Wrong s) (spot_exact s) k (9, room) g.fine), omega arith, g.counted)),
  (λ h.
      let l : length s ≡ district_end s = h.1 in
      district_given s places room n record {
        head = h.0.0;
        counted = h.2;
        fine = fine_all (spot_asks s) (spots s) (Fine s) (Wrong s) (spot_exact s) (ring_count s) (9, room) h.0.1;
        all_read = omega arith;
      }),
)

-- ---- the writer

module _ (xs ys lengths : List ℕ) (room : ℕ) where
  abbrev k : ℕ
  k = length lengths

  abbrev few : Bool
  few = leb 1 k && leb k 32

  abbrev same : Bool
  same = eqb (length xs) (length ys) && rings lengths

  abbrev Bad : ℕ → ℕ → Type 0
  Bad = DistrictWriteFault xs ys lengths room

  few_exactly : (few ≡ true) ↔ Few lengths
  few_exactly = (
    (λ e. let b = and_iff.0 e in (leb-true 1 k b.0, leb-true k 32 b.1)),
    (λ h. and_iff.1 (le-leb 1 k h.0, le-leb k 32 h.1)),
  )

  same_exactly : (same ≡ true) ↔ ((length xs ≡ length ys) × Rings lengths)
  same_exactly = (
    (λ e. let b = and_iff.0 e in (eqb-true _ _ b.0, (rings_exactly lengths).0 b.1)),
    (λ h. and_iff.1 (eq-eqb _ _ h.0, (rings_exactly lengths).1 h.1)),
  )

  to_fault : {n p : ℕ} → refused n p ≡ district_writing xs ys lengths room → Bad n p
  to_fault e =
      ask_cases Bad few 35 0 _ _ e
      (λ f. other_count (λ h. false_iff.0 f (few_exactly.1 h)))
      (λ t e. let h = few_exactly.0 t in
      ask_cases Bad (eqb (total lengths) (length xs)) 36 0 _ _ e
      (λ f. other_sum h (λ q. false_iff.0 f (eq-eqb _ _ q)))
      (λ t e. let summed : Summed xs lengths = (h, eqb-true _ _ t) in
      ask_cases Bad same 30 0 _ _ e
      (λ f. no_rings summed (λ q. false_iff.0 f (same_exactly.1 q)))
      (λ t e. let q = same_exactly.0 t in let divided : Divided xs ys lengths = (summed, q.0, q.1) in
      ask_cases Bad (low xs && low ys) 31 0 _ _ e
      (λ f. too_high divided (λ l. false_iff.0 f ((lows_exactly xs ys room).1 l)))
      (λ t e. let l = (lows_exactly xs ys room).0 t in
      ask_cases Bad (leb (district_size lengths) room) 32 0 [] _ e
      (λ f. too_short divided l (leb-false (district_size lengths) room f))
      (λ t e. absurd (nothing_left (district_size lengths) e))))))

  pass_few : {x : Answer ℕ} → Few lengths → (qs : List Question) → x ≡ asked qs (district_size lengths) → x ≡ asked (must few 35 0 ∷ qs) (district_size lengths)
  pass_few h qs e = passes _ _ _ _ _ (few_exactly.1 h) e

  abbrev sum_asks : Question
  sum_asks = must (eqb (total lengths) (length xs)) 36 0

  pass_sum : {x : Answer ℕ} → Summed xs lengths → (qs : List Question) → x ≡ asked qs (district_size lengths) → x ≡ asked (must few 35 0 ∷ sum_asks ∷ qs) (district_size lengths)
  pass_sum h qs e = pass_few h.0 (sum_asks ∷ qs) (passes _ _ _ _ _ (eq-eqb _ _ h.1) e)

  pass_rings : {x : Answer ℕ} → Divided xs ys lengths → (qs : List Question) → x ≡ asked qs (district_size lengths)
      → x ≡ asked (must few 35 0 ∷ sum_asks ∷ must same 30 0 ∷ qs) (district_size lengths)
  pass_rings h qs e = pass_sum h.0 (must same 30 0 ∷ qs) (passes _ _ _ _ _ (same_exactly.1 (h.1, h.2)) e)

  from_fault : {n p : ℕ} → Bad n p → refused n p ≡ district_writing xs ys lengths room
  from_fault (other_count f) = stops _ _ _ _ _ (false_iff.1 (λ t. f (few_exactly.0 t))) refl
  from_fault (other_sum h f) = pass_few h _ (stops _ _ _ _ _ (false_iff.1 (λ t. f (eqb-true _ _ t))) refl)
  from_fault (no_rings h f) = pass_sum h _ (stops _ _ _ _ _ (false_iff.1 (λ t. f (same_exactly.0 t))) refl)
  from_fault (too_high h f) = pass_rings h _ (stops _ _ _ _ _ (false_iff.1 (λ t. f ((lows_exactly xs ys room).0 t))) refl)
  from_fault (too_short h l g) =
      pass_rings h _ (passes _ _ _ _ _ ((lows_exactly xs ys room).1 l) (stops_above (district_size lengths) room _ _ _ _ g refl))

-- THE WRITER REFUSES with a number exactly when that is the first rule that is broken; the place is 0
pub write_district_refused_exactly : (xs ys lengths : List ℕ) (room number place : ℕ)
    → (district_writing xs ys lengths room ≡ refused number place) ↔ DistrictWriteFault xs ys lengths room number place
write_district_refused_exactly xs ys lengths room number place = ((λ e. to_fault xs ys lengths room (sym e)), (λ f. sym (from_fault xs ys lengths room f)))

-- ... and writes a number of bytes exactly when the lists hold 1 to 32 rings on the grid that have room
pub write_district_taken_exactly : (xs ys lengths : List ℕ) (room n : ℕ)
    → (district_writing xs ys lengths room ≡ gives n) ↔ (Divided xs ys lengths × (Low xs × Low ys) × (district_size lengths ≤ room) × (n ≡ district_size lengths))
write_district_taken_exactly xs ys lengths room n = (
  (λ e.
      let size = district_size lengths in
      let q1 = passed_one (few xs ys lengths room) 35 0 _ _ (sym e) in
      let q2 = passed_one (eqb (total lengths) (length xs)) 36 0 _ _ q1.1 in
      let q3 = passed_one (same xs ys lengths room) 30 0 _ _ q2.1 in
      let q4 = passed_one (low xs && low ys) 31 0 _ _ q3.1 in
      let q5 = passed_one (leb size room) 32 0 [] size q4.1 in
      let h = (same_exactly xs ys lengths room).0 q3.0 in
      ((((few_exactly xs ys lengths room).0 q1.0, eqb-true _ _ q2.0), h.0, h.1), (lows_exactly xs ys room).0 q4.0, leb-true size room q5.0, passed_all size q5.1)),
  (λ h. sym (ap gives h.3
      ∙ pass_rings xs ys lengths room h.0 _
      (passes _ _ _ _ _ ((lows_exactly xs ys room).1 h.1) (passes_below (district_size lengths) room _ _ _ _ h.2 (ends (district_size lengths) refl))))),
)
