-- The coordinate at a place of a point file, as it was sent: exactly when there is one; and that a refused coordinate is shown. Assumes nothing.
use Prim.Native.Nat.{ℕ, ◌+◌, ◌*◌, ◌-◌, ◌/◌, ◌≤◌}
use mathlib.Core.Path.{◌≡◌, refl, sym, ap, ◌∙◌, subst}
use mathlib.Core.Bool.{Bool, true, ◌||◌}
use mathlib.Core.Logic.{◌↔◌, ◌⊎◌, inl, inr}
use mathlib.Core.List.{List, []}
use native.Mathlib.Omega.{arith}
use borrow.Author.Tests.{leb-true, eqb-true, eq-eqb}
use lib.Dec.{leb, eqb}
use lib.ListN.{length}
use Rattle.laws.proofs.Test.{or_iff}
use Rattle.shape.specs.declared.Coordinate.{Coordinate}
use Rattle.shape.specs.Answers.{Answer, gives, refused}
use Rattle.shape.specs.Coordinates.{coordinate_at, refusal_of}
use Rattle.shape.specs.Reading.{order_at}
use Rattle.shape.specs.Refusals.{Bad, cut, not_finite, off_grid, Typed, TypeFault, no_order, other_order, no_type, other_type, SizeFault, no_count, other_count, no_room}
use Rattle.shape.proofs.Asking.{passes, passes_below, ends, ask_cases}
use Rattle.shape.proofs.Heads.{passed_one, passed_all}
use Rattle.shape.proofs.Runs.{nothing_left}
use Rattle.exchange.specs.Points.{within, order_of, sent_answer, points_answer}
use Rattle.exchange.specs.PointRefusals.{PointFault, other_shape, bad_x, bad_y, PointsFault, other_size, bad_point, left_over, Sent}
use Rattle.exchange.proofs.PointsExactly.{points_refused_exactly}

module _ (s : List ℕ) (place : ℕ) where
  abbrev w : ℕ
  w = within place

  abbrev o : ℕ
  o = order_of s place

  abbrev inside : Bool
  inside = eqb w 5 || eqb w 13

  starts : (w ≡ 5) ⊎ (w ≡ 13) → (place ≡ 9 + 21 * ((place - 9) / 21) + w) × (place - w ≡ 9 + 21 * ((place - 9) / 21))
  starts (inl e) = (omega arith, omega arith)
  starts (inr e) = (omega arith, omega arith)

  sent_to : (c : Coordinate) → sent_answer s place ≡ gives c → Sent s place c
  sent_to c e =
      let a : Coordinate = coordinate_at o s place in
      let q1 = passed_one inside 20 place _ a (sym e) in
      let q2 = passed_one (leb (place + 8) (length s)) 20 place _ a q1.1 in
      let q3 = passed_one (leb o 1) 20 place [] a q2.1 in
      let at : (w ≡ 5) ⊎ (w ≡ 13) = elim ((or_iff {a = eqb w 5} {b = eqb w 13}).0 q1.0) [ inl q ↦ inl (eqb-true _ _ q) | inr q ↦ inr (eqb-true _ _ q) ] in
      let st = starts at in
      record {
        i = (place - 9) / 21;
        offset = w;
        x_or_y = at;
        there = st.0;
        ordered = subst (λ (p : ℕ). order_at s p ≤ 1) st.1 (leb-true o 1 q3.0);
        whole = leb-true (place + 8) (length s) q2.0;
        is = passed_all a q3.1 ∙ ap (λ (p : ℕ). coordinate_at (order_at s p) s place) st.1;
      }

  offset_is : (i k : ℕ) → (k ≡ 5) ⊎ (k ≡ 13) → place ≡ 9 + 21 * i + k → (inside ≡ true) × (place - w ≡ 9 + 21 * i)
  offset_is i k (inl e) p = let v : w ≡ 5 = omega arith in ((or_iff {a = eqb w 5} {b = eqb w 13}).1 (inl (eq-eqb _ _ v)), omega arith)
  offset_is i k (inr e) p = let v : w ≡ 13 = omega arith in ((or_iff {a = eqb w 5} {b = eqb w 13}).1 (inr (eq-eqb _ _ v)), omega arith)

  sent_from : (c : Coordinate) → Sent s place c → gives c ≡ sent_answer s place
  sent_from c h =
      let f = offset_is h.i h.offset h.x_or_y h.there in
      passes inside 20 place _ (coordinate_at o s place) f.0
      (passes_below (place + 8) (length s) _ _ _ _ h.whole
      (passes_below o 1 _ _ _ _ (subst (λ (p : ℕ). order_at s p ≤ 1) (sym f.1) h.ordered)
      (ends (coordinate_at o s place) (ap gives (h.is ∙ ap (λ (p : ℕ). coordinate_at (order_at s p) s place) (sym f.1))))))

  refusal_is : {n p : ℕ} → refused n p ≡ sent_answer s place → (n ≡ 20) × (p ≡ place)
  refusal_is e =
      let a : Coordinate = coordinate_at o s place in
      let P : ℕ → ℕ → Type 0 = (λ (n p : ℕ). (n ≡ 20) × (p ≡ place)) in
      ask_cases P inside 20 place _ a e
      (λ f. (refl, refl))
      (λ t r.
      ask_cases P (leb (place + 8) (length s)) 20 place _ a r
      (λ f. (refl, refl))
      (λ t q.
      ask_cases P (leb o 1) 20 place [] a q
      (λ f. (refl, refl))
      (λ t z. absurd (nothing_left a z))))

  no_more_given : {n p : ℕ} (c : Coordinate) → sent_answer s place ≡ refused n p → gives c ≡ sent_answer s place → ⊥
  no_more_given {n} {p} c e g = let y : gives c ≡ refused n p = g ∙ e in let z : ◌≡◌ {A = ℕ} 0 1 = cc in absurd (omega arith)

  none_refused : (x : Answer Coordinate) → sent_answer s place ≡ x → ((c : Coordinate) → Sent s place c → ⊥) → x ≡ refused 20 place
  none_refused (gives c) e f = absurd (f c (sent_to c e))
  none_refused (refused n p) e f =
      let r = refusal_is (sym e) in
      ap (λ (k : ℕ). refused k p) r.0 ∙ ap (refused 20) r.1

-- A COORDINATE IS SHOWN exactly when it is x or y of some Point there, in that Point's byte order
pub sent_exactly : (s : List ℕ) (place : ℕ) (c : Coordinate) → (sent_answer s place ≡ gives c) ↔ Sent s place c
sent_exactly s place c = (sent_to s place c, (λ h. sym (sent_from s place c h)))

-- ... and else 20 is given, with the place
pub sent_refused_exactly : (s : List ℕ) (place number at : ℕ)
    → (sent_answer s place ≡ refused number at) ↔ ((number ≡ 20) × (at ≡ place) × ((c : Coordinate) → Sent s place c → ⊥))
sent_refused_exactly s place number at = (
  (λ e. let r = refusal_is s place (sym e) in (r.0, r.1, (λ c h. no_more_given s place c e (sent_from s place c h)))),
  (λ h. none_refused s place (sent_answer s place) refl h.2 ∙ ap (λ (k : ℕ). refused k place) (sym h.0) ∙ ap (refused number) (sym h.1)),
)

-- ---- what the surveyor sees

-- the numbers of a refused coordinate
abbrev Off : ℕ → Type 0
Off n = (n ≡ 25) ⊎ (n ≡ 26)

other : (n k : ℕ) → Off n → n ≡ k → (k ≡ 25 → ⊥) → (k ≡ 26 → ⊥) → ⊥
other n k (inl e) q f g = f (sym q ∙ e)
other n k (inr e) q f g = g (sym q ∙ e)

no_type_number : {s : List ℕ} {at type number n p : ℕ} → Off n → (number ≡ 25 → ⊥) → (number ≡ 26 → ⊥) → TypeFault s at type number n p → ⊥
no_type_number {n} off f g (no_order h) = other n 20 off refl (λ e. omega arith) (λ e. omega arith)
no_type_number {n} off f g (other_order h k) = other n 21 off refl (λ e. omega arith) (λ e. omega arith)
no_type_number {n} off f g (no_type h k) = other n 20 off refl (λ e. omega arith) (λ e. omega arith)
no_type_number {n} off f g (other_type h k q) = other n n off refl f g

no_size_number : {repeated order : ℕ} {s : List ℕ} {at room n p : ℕ} → Off n → SizeFault repeated order s at room n p → ⊥
no_size_number {n} off (no_count h) = other n 20 off refl (λ e. omega arith) (λ e. omega arith)
no_size_number {n} off (other_count h k) = other n 24 off refl (λ e. omega arith) (λ e. omega arith)
no_size_number {n} off (no_room h k) = other n 29 off refl (λ e. omega arith) (λ e. omega arith)

-- the coordinate that is shown at a place, and the number that it is refused with
abbrev Shown : List ℕ → ℕ → ℕ → Type 0
Shown s place n = (c : Coordinate) × (sent_answer s place ≡ gives c) × (refusal_of c ≡ n)

module _ (s : List ℕ) (i k place : ℕ) (is : (k ≡ 5) ⊎ (k ≡ 13)) (there : place ≡ 9 + 21 * i + k) (h : Typed s (9 + 21 * i) 1) where
  shown : (c : Coordinate) (n : ℕ) → place + 8 ≤ length s → coordinate_at (order_at s (9 + 21 * i)) s place ≡ c → refusal_of c ≡ n → Shown s place n
  shown c n l e r = (c, sym (sent_from s place c (record { i = i; offset = k; x_or_y = is; there = there; ordered = h.0.1; whole = l; is = sym e })), r)

  bad_shown : {n : ℕ} → Off n → Bad (order_at s (9 + 21 * i)) s place n → Shown s place n
  bad_shown {n} off (cut l) = absurd (other n 20 off refl (λ e. omega arith) (λ e. omega arith))
  bad_shown off (not_finite l e) = shown _ 25 l e refl
  bad_shown off (off_grid l x e) = shown _ 26 l e refl

-- THE SURVEYOR SEES THE VALUE THEY SENT: where a file is refused because of a coordinate, that coordinate is shown at the refusal's place
pub refused_coordinate_shown : (s : List ℕ) (room number place : ℕ) → points_answer s room ≡ refused number place → (number ≡ 25) ⊎ (number ≡ 26)
    → (c : Coordinate) × (sent_answer s place ≡ gives c) × (refusal_of c ≡ number)
refused_coordinate_shown s room number place e off = of_fault number place off ((points_refused_exactly s room number place).0 e)
  where
    of_point : (i n p : ℕ) → Off n → PointFault s (9 + 21 * i) n p → Shown s p n
    of_point i n p off (other_shape f) = absurd (no_type_number off (λ e. omega arith) (λ e. omega arith) f)
    of_point i n p off (bad_x h b) = bad_shown s i 5 p (inl refl) refl h off b
    of_point i n p off (bad_y h g b) = bad_shown s i 13 p (inr refl) refl h off b

    of_fault : (n p : ℕ) → Off n → PointsFault s room n p → Shown s p n
    of_fault n p off (other_shape f) = absurd (no_type_number off (λ e. omega arith) (λ e. omega arith) f)
    of_fault n p off (other_size h f) = absurd (no_size_number off f)
    of_fault n p off (bad_point i l h f) = of_point i n p off f
    of_fault n p off (left_over h l) = absurd (other n 28 off refl (λ e. omega arith) (λ e. omega arith))
