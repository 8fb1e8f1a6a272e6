-- Each refusal of the reader exactly when: the answer is the number and the place of the first fault, from left to right. Assumes nothing.
use Prim.Native.Nat.{ℕ, ◌+◌, ◌*◌, ◌≤◌}
use mathlib.Core.Path.{◌≡◌, refl, sym, subst}
use mathlib.Core.Logic.{◌↔◌, inl, inr}
use mathlib.Core.List.{List, [], ◌∷◌, ◌++◌}
use native.Mathlib.Omega.{arith}
use borrow.Author.Tests.{leb-true, leb-false, eqb-true, eqb-false, eq-eqb, ne_eqb}
use lib.Dec.{leb, eqb}
use lib.ListN.{length}
use Rattle.shape.specs.Answers.{Question, must, Answer, refused, asked}
use Rattle.shape.specs.Bytes.{number_at}
use Rattle.shape.specs.Coordinates.{grid_at, whole}
use Rattle.shape.specs.Reading.{coordinate_asks, coordinates, count, size_asks, type_asks, order_at, length_at, last, head_asks, closes, polygon_asks}
use Rattle.shape.specs.Refusals.{Good, Typed, OneRing, GoodHead, Gridded, PolygonFault, other_shape, no_rings, other_rings, other_size, bad_coordinate, left_open}
use Rattle.shape.proofs.Asking.{stops, passes, stops_above, passes_below, passes_all, stops_first, ask_cases, part_cases}
use Rattle.shape.proofs.Runs.{nothing_left, BadAt, coordinate_exact, all_good, steps, fine_all, first_bad, bad_first}
use Rattle.shape.proofs.Shapes.{not_both, either_fails, typed, typed_passes, type_fault, type_refuses, sized, sized_passes, size_fault, size_refuses}

module _ (s : List ℕ) (at room : ℕ) where
  abbrev o : ℕ
  o = order_at s at

  abbrev c : ℕ
  c = count o s at

  abbrev m : ℕ
  m = length_at s at

  abbrev runs : List Question
  runs = coordinates (2 * c) o s (at + 13)

  abbrev Fault : ℕ → ℕ → Type 0
  Fault = PolygonFault s at room

  -- ---- from the answer to the fault

  abbrev rings : List Question
  rings = whole 4 s (at + 5) ∷ must (eqb (number_at 4 o s (at + 5)) 1) 23 (at + 5) ∷ []

  abbrev sizes : List Question
  sizes = size_asks 1 o s (at + 9) room

  from_runs : {n p : ℕ} → GoodHead s at room → refused n p ≡ asked (runs ++ (closes s at ∷ [])) m → Fault n p
  from_runs {n} {p} h e =
      part_cases runs (closes s at ∷ []) tt m e
      (λ r.
      let f = first_bad (coordinate_asks o s) (steps 8 (coordinate_asks o s)) (Good o s) (BadAt o s) (coordinate_exact o s) (2 * c) (at + 13) n p r in
      subst (Fault n) (sym f.bad.1) (bad_coordinate f.i f.within (h, f.before) n f.bad.0))
      (λ g r.
      let all : Gridded s at room (2 * c) = (h, all_good o s (2 * c) (at + 13) g) in
      ask_cases Fault (closes s at).holds 27 (last s at) [] m r
      (λ f. left_open all (elim (not_both (eqb (grid_at o s (at + 13)) (grid_at o s (last s at))) (eqb (grid_at o s (at + 13 + 8)) (grid_at o s (last s at + 8))) f) [
        | inl q ↦ inl (eqb-false _ _ q)
        | inr q ↦ inr (eqb-false _ _ q)
      ]))
      (λ t r2. absurd (nothing_left m r2)))

  from_counts : {n p : ℕ} → Typed s at 3 → refused n p ≡ asked (rings ++ (sizes ++ (runs ++ (closes s at ∷ [])))) m → Fault n p
  from_counts h e =
      ask_cases Fault (leb (at + 5 + 4) (length s)) 20 (at + 5) _ m e
      (λ f. no_rings h (let l = leb-false (at + 5 + 4) (length s) f in omega arith))
      (λ t5 e. let l5 : at + 9 ≤ length s = (let l = leb-true (at + 5 + 4) (length s) t5 in omega arith) in
      ask_cases Fault (eqb (number_at 4 o s (at + 5)) 1) 23 (at + 5) _ m e
      (λ f. other_rings h l5 (eqb-false _ _ f))
      (λ t6 e. let one : OneRing s at = (h, l5, eqb-true _ _ t6) in
      part_cases sizes (runs ++ (closes s at ∷ [])) tt m e
      (λ r. other_size one (size_fault 1 o s (at + 9) room r))
      (λ g r. from_runs (one, sized 1 o s (at + 9) room g) r)))

  pub from_answer : {n p : ℕ} → refused n p ≡ asked (polygon_asks s at room) m → Fault n p
  from_answer e =
      part_cases (type_asks s at 3 22) (rings ++ (sizes ++ (runs ++ (closes s at ∷ [])))) tt m e
      (λ r. other_shape (type_fault s at 3 22 r))
      (λ g r. from_counts (typed s at 3 22 g) r)

  -- ---- from the fault to the answer: each stage that holds is passed

  pass_type : {x : Answer ℕ} → Typed s at 3 → (qs : List Question) → x ≡ asked qs m → x ≡ asked (type_asks s at 3 22 ++ qs) m
  pass_type h qs e = passes_all (type_asks s at 3 22) qs tt m (typed_passes s at 3 22 h) e

  pass_rings : {x : Answer ℕ} → OneRing s at → (qs : List Question) → x ≡ asked qs m → x ≡ asked (type_asks s at 3 22 ++ (rings ++ qs)) m
  pass_rings h qs e =
      let l : at + 9 ≤ length s = h.1 in
      pass_type h.0 (rings ++ qs) (passes_below (at + 5 + 4) (length s) _ _ _ _ (omega arith) (passes _ _ _ _ _ (eq-eqb _ _ h.2) e))

  pass_head : {x : Answer ℕ} → GoodHead s at room → (qs : List Question) → x ≡ asked qs m → x ≡ asked (head_asks s at room ++ qs) m
  pass_head h qs e = pass_rings h.0 (sizes ++ qs) (passes_all sizes qs tt m (sized_passes 1 o s (at + 9) room h.1) e)

  pub pass_runs : {x : Answer ℕ} → Gridded s at room (2 * c) → x ≡ asked (closes s at ∷ []) m → x ≡ asked (polygon_asks s at room) m
  pass_runs h e =
      pass_head h.0 _ (passes_all runs (closes s at ∷ []) tt m
      (fine_all (coordinate_asks o s) (steps 8 (coordinate_asks o s)) (Good o s) (BadAt o s) (coordinate_exact o s) (2 * c) (at + 13) h.1) e)

  pub from_fault : {n p : ℕ} → Fault n p → refused n p ≡ asked (polygon_asks s at room) m
  from_fault {n} {p} (other_shape f) = stops_first (type_asks s at 3 22) _ tt m n p (type_refuses s at 3 22 f) refl
  from_fault (no_rings h g) = pass_type h _ (stops_above (at + 5 + 4) (length s) _ _ _ _ (omega arith) refl)
  from_fault (other_rings h g f) = pass_type h _ (passes_below (at + 5 + 4) (length s) _ _ _ _ (omega arith) (stops _ _ _ _ _ (ne_eqb _ _ f) refl))
  from_fault {n} {p} (other_size h f) = pass_rings h _ (stops_first sizes _ tt m n p (size_refuses 1 o s (at + 9) room f) refl)
  from_fault (bad_coordinate i l h number b) =
      pass_head h.0 _ (stops_first runs (closes s at ∷ []) tt m number (at + 13 + 8 * i)
      (bad_first (coordinate_asks o s) (steps 8 (coordinate_asks o s)) (Good o s) (BadAt o s) (coordinate_exact o s) i (2 * c) (at + 13) number (at + 13 + 8 * i) l h.1 (b, refl)) refl)
  from_fault (left_open h f) =
      pass_runs h (stops _ _ _ _ _
      (either_fails (eqb (grid_at o s (at + 13)) (grid_at o s (last s at))) (eqb (grid_at o s (at + 13 + 8)) (grid_at o s (last s at + 8)))
      (elim f [ inl q ↦ inl (ne_eqb _ _ q) | inr q ↦ inr (ne_eqb _ _ q) ])) refl)

-- A POLYGON AT A PLACE is refused with a number and a place exactly when that is its first fault
pub polygon_refused_exactly : (s : List ℕ) (at room number place : ℕ)
    → (asked (polygon_asks s at room) (length_at s at) ≡ refused number place) ↔ PolygonFault s at room number place
polygon_refused_exactly s at room number place = ((λ e. from_answer s at room (sym e)), (λ f. sym (from_fault s at room f)))
