-- What a shape begins with, exactly when: its byte order and type, and its count. One law for every shape. Assumes nothing.
use Rattle.std.proofs.Common.{◌≡◌, ℕ, zero, suc, ◌+◌, ◌-◌, ◌<◌, ◌≤◌, Bool, true, false, ◌&&◌, eqb, leb, ◌⊎◌, List, [], ◌∷◌, length, take, drop, sym, refl, ap, ◌∙◌, inl, inr, arith, eq-eqb, ne_eqb, eqb-true, le-leb, leb-false, leb-true}
use borrow.Author.Tests.{lt-leb, eqb-false}
use Rattle.laws.proofs.Test.{and_iff}
use Rattle.shape.specs.Answers.{Question, must, Answer, gives, refused, asked}
use Rattle.std.specs.Prelude.{Result, Ok, Err}
use Rattle.sheet.specs.declared.refusal.Rule.{Rule}
use Rattle.sheet.specs.Refusal.{number}
use Rattle.shape.specs.declared.block.ByteOrder.{ByteOrder}
use Rattle.shape.specs.declared.block.ByteOrder.TheVariants.{Big, Little}
use Rattle.shape.specs.Bytes.{low_first, turned, code, byte_order, order_of, order_asks, number_at}
use Rattle.shape.specs.Coordinates.{whole}
use Rattle.shape.specs.Reading.{order_at, type_asks, size_asks}
use Rattle.shape.specs.Refusals.{Ordered, Typed, TypeFault, no_order, other_order, no_type, other_type, Counted, Roomy, SizeFault, no_count, other_count, no_room}
use Rattle.shape.proofs.Asking.{at_place, stops, passes, stops_above, passes_below, stops_other, passes_same, ends, ask_cases, fault, passes_all, stops_first, gives_other, given_is}
use Rattle.shape.proofs.Heads.{passed_one}
use Rattle.shape.proofs.Runs.{nothing_left}

-- a conjunction that fails
pub not_both : (a b : Bool) → (a && b) ≡ false → (a ≡ false) ⊎ (b ≡ false)
not_both true b e = inr e
not_both false b e = inl refl

pub either_fails : (a b : Bool) → (a ≡ false) ⊎ (b ≡ false) → (a && b) ≡ false
either_fails a b (inl e) = ap (λ (t : Bool). t && b) e
either_fails true b (inr e) = e
either_fails false b (inr e) = refl

-- ---- a byte order and a type

module _ (s : List ℕ) (at type number : ℕ) where
  abbrev o : ℕ
  o = order_at s at

  abbrev types : Answer (Unit {0})
  types = fault (type_asks s at type number)

  pub typed : gives tt ≡ types → Typed s at type
  typed e =
      let q1 = passed_one (leb (at + 1) (length s)) 20 at _ tt e in
      let q2 = passed_one (leb o 1) 21 at _ tt q1.1 in
      let q3 = passed_one (leb (at + 1 + 4) (length s)) 20 (at + 1) _ tt q2.1 in
      let q4 = passed_one (eqb (number_at 4 o s (at + 1)) type) number (at + 1) [] tt q3.1 in
      let l = leb-true (at + 1 + 4) (length s) q3.0 in
      ((leb-true (at + 1) (length s) q1.0, leb-true o 1 q2.0), omega arith, eqb-true _ _ q4.0)

  pub typed_passes : Typed s at type → gives tt ≡ types
  typed_passes h =
      let l : at + 5 ≤ length s = h.1 in
      passes_below (at + 1) (length s) _ _ _ _ h.0.0
      (passes_below o 1 _ _ _ _ h.0.1
      (passes_below (at + 1 + 4) (length s) _ _ _ _ (omega arith)
      (passes _ _ _ _ _ (eq-eqb _ _ h.2) (ends tt refl))))

  pub type_fault : {n p : ℕ} → refused n p ≡ types → TypeFault s at type number n p
  type_fault e =
      ask_cases (TypeFault s at type number) (leb (at + 1) (length s)) 20 at _ tt e
      (λ f. no_order (leb-false (at + 1) (length s) f))
      (λ t1 e. let l1 = leb-true (at + 1) (length s) t1 in
      ask_cases (TypeFault s at type number) (leb o 1) 21 at _ tt e
      (λ f. other_order l1 (leb-false o 1 f))
      (λ t2 e. let ordered : Ordered s at = (l1, leb-true o 1 t2) in
      ask_cases (TypeFault s at type number) (leb (at + 1 + 4) (length s)) 20 (at + 1) _ tt e
      (λ f. no_type ordered (let l = leb-false (at + 1 + 4) (length s) f in omega arith))
      (λ t3 e. let l3 : at + 5 ≤ length s = (let l = leb-true (at + 1 + 4) (length s) t3 in omega arith) in
      ask_cases (TypeFault s at type number) (eqb (number_at 4 o s (at + 1)) type) number (at + 1) [] tt e
      (λ f. other_type ordered l3 (eqb-false _ _ f))
      (λ t4 e. absurd (nothing_left tt e)))))

  pub type_refuses : {n p : ℕ} → TypeFault s at type number n p → refused n p ≡ types
  type_refuses (no_order h) = stops_above (at + 1) (length s) _ _ _ _ h refl
  type_refuses (other_order h g) = passes_below (at + 1) (length s) _ _ _ _ h (stops_above o 1 _ _ _ _ g refl)
  type_refuses (no_type h g) =
      passes_below (at + 1) (length s) _ _ _ _ h.0 (passes_below o 1 _ _ _ _ h.1 (stops_above (at + 1 + 4) (length s) _ _ _ _ (omega arith) refl))
  type_refuses (other_type h g f) =
      passes_below (at + 1) (length s) _ _ _ _ h.0
      (passes_below o 1 _ _ _ _ h.1
      (passes_below (at + 1 + 4) (length s) _ _ _ _ (omega arith) (stops _ _ _ _ _ (ne_eqb _ _ f) refl)))

-- ---- ... as the code finds them

-- a number is read in the byte order that a byte stands for
pub same_number : (k byte : ℕ) (s : List ℕ) (at : ℕ) → number_at k (code (order_of byte)) s at ≡ number_at k byte s at
same_number k zero s at = refl
same_number k (suc n) s at = sym (ap (λ (b : Bool). low_first (turned b (take k (drop at s)))) (ne_eqb (suc n) 0 (λ e. omega arith)))

pub code_is : (byte : ℕ) → byte ≤ 1 → code (order_of byte) ≡ byte
code_is zero h = refl
code_is (suc zero) h = refl
code_is (suc (suc n)) h = absurd (omega arith)

-- the byte order that a byte at a place stands for, or the rule that it breaks
pub order_judged : (byte place : ℕ) → at_place place (byte_order byte) ≡ asked (order_asks byte place) (order_of byte)
unfolding asked
order_judged zero place = refl
order_judged (suc zero) place = refl
order_judged (suc (suc n)) place = stops (leb (suc (suc n)) 1) 21 place [] Little (lt-leb (suc (suc n)) 1 (omega arith)) refl

pub order_found : {order : ByteOrder} (byte place : ℕ) → gives order ≡ asked (order_asks byte place) (order_of byte) → code order ≡ byte
order_found byte place e =
    ap code (given_is (order_asks byte place) (order_of byte) e) ∙ code_is byte (leb-true byte 1 (passed_one (leb byte 1) 21 place [] (order_of byte) e).0)

-- a byte order that is known to be there
pub code_of : {r : Result ByteOrder Rule} {order : ByteOrder} (byte : ℕ) → r ≡ byte_order byte → r ≡ Ok order → code order ≡ byte
code_of {r} {order} zero e f = let g : order ≡ Big = cc in ap code g
code_of {r} {order} (suc zero) e f = let g : order ≡ Little = cc in ap code g
code_of (suc (suc n)) e f = cc

pub ordered_low : {r : Result ByteOrder Rule} {order : ByteOrder} (byte : ℕ) → r ≡ byte_order byte → r ≡ Ok order → byte ≤ 1
ordered_low zero e f = omega arith
ordered_low (suc zero) e f = omega arith
ordered_low (suc (suc n)) e f = cc

-- ... or not to be
pub unordered : {r : Result ByteOrder Rule} {rule : Rule} (byte : ℕ) → r ≡ byte_order byte → r ≡ Err rule → 1 < byte
unordered zero e f = cc
unordered (suc zero) e f = cc
unordered (suc (suc n)) e f = omega arith

abbrev then_asks : List ℕ → ℕ → ℕ → ℕ → List Question
then_asks s at type number = whole 4 s (at + 1) ∷ must (eqb (number_at 4 (order_at s at) s (at + 1)) type) number (at + 1) ∷ []

pub other_order_found : {x : Answer ByteOrder} {n p : ℕ} (s : List ℕ) (at type number : ℕ) → at + 1 ≤ length s
    → refused n p ≡ asked (order_asks (order_at s at) at) (order_of (order_at s at)) → x ≡ refused n p → x ≡ asked (type_asks s at type number) (order_of (order_at s at))
other_order_found {x} {n} {p} s at type number there e h =
    passes_below (at + 1) (length s) 20 at _ _ there
    (stops_first (order_asks (order_at s at) at) (then_asks s at type number) (order_of (order_at s at)) (order_of (order_at s at)) n p e h)

module _ (s : List ℕ) (at type number : ℕ) {order : ByteOrder} (there : at + 1 ≤ length s)
    (found : gives order ≡ asked (order_asks (order_at s at) at) (order_of (order_at s at))) where
  found_is : order ≡ order_of (order_at s at)
  found_is = given_is (order_asks (order_at s at) at) (order_of (order_at s at)) found

  pub then_type : {x : Answer ByteOrder} → x ≡ asked (then_asks s at type number) (order_of (order_at s at)) → x ≡ asked (type_asks s at type number) (order_of (order_at s at))
  then_type e =
      passes_below (at + 1) (length s) 20 at _ _ there
      (passes_all (order_asks (order_at s at) at) (then_asks s at type number) (order_of (order_at s at)) (order_of (order_at s at)) found e)

  module _ {n : ℕ} (long : at + 1 + 4 ≤ length s) (is : n ≡ number_at 4 (code order) s (at + 1)) where
    read_is : n ≡ number_at 4 (order_at s at) s (at + 1)
    read_is = is ∙ ap (λ (o : ByteOrder). number_at 4 (code o) s (at + 1)) found_is ∙ same_number 4 (order_at s at) s (at + 1)

    pub other_type_found : {x : Answer ByteOrder} → (n ≡ type → ⊥) → x ≡ refused number (at + 1) → x ≡ asked (type_asks s at type number) (order_of (order_at s at))
    other_type_found f e = then_type (passes_below (at + 1 + 4) (length s) 20 (at + 1) _ _ long (stops_other _ _ _ _ _ _ read_is f e))

    pub type_found : n ≡ type → gives order ≡ asked (type_asks s at type number) (order_of (order_at s at))
    type_found e = then_type (passes_below (at + 1 + 4) (length s) 20 (at + 1) _ _ long (passes_same _ _ _ _ _ _ read_is e (ends _ (ap gives found_is))))

-- what a type that was found says
module _ (s : List ℕ) (at type number : ℕ) {order : ByteOrder} (found : gives order ≡ asked (type_asks s at type number) (order_of (order_at s at))) where
  pub found_typed : Typed s at type
  found_typed = typed s at type number (gives_other (type_asks s at type number) (order_of (order_at s at)) (tt {0}) order found refl)

  pub order_is : code order ≡ order_at s at
  order_is =
      ap code (given_is (type_asks s at type number) (order_of (order_at s at)) found) ∙ code_is (order_at s at) found_typed.0.1

-- ---- a count

module _ (repeated order : ℕ) (s : List ℕ) (at room : ℕ) where
  abbrev c : ℕ
  c = number_at 4 order s at

  abbrev lo : ℕ
  lo = 3 + repeated

  abbrev hi : ℕ
  hi = 1024 + repeated

  abbrev sizes : Answer (Unit {0})
  sizes = fault (size_asks repeated order s at room)

  pub sized : gives tt ≡ sizes → Roomy repeated order s at room
  sized e =
      let q1 = passed_one (leb (at + 4) (length s)) 20 at _ tt e in
      let q2 = passed_one (leb lo c && leb c hi) 24 at _ tt q1.1 in
      let q3 = passed_one (leb (c - repeated) room) 29 at [] tt q2.1 in
      let b = and_iff.0 q2.0 in
      ((leb-true (at + 4) (length s) q1.0, leb-true lo c b.0, leb-true c hi b.1), leb-true (c - repeated) room q3.0)

  pass_count : {x : Answer (Unit {0})} → Counted repeated order s at → (qs : List Question) → x ≡ fault qs
      → x ≡ fault (whole 4 s at ∷ must (leb lo c && leb c hi) 24 at ∷ qs)
  pass_count h qs e = passes_below (at + 4) (length s) _ _ _ _ h.0 (passes _ _ _ _ _ (and_iff.1 (le-leb lo c h.1, le-leb c hi h.2)) e)

  pub sized_passes : Roomy repeated order s at room → gives tt ≡ sizes
  sized_passes h = pass_count h.0 _ (passes_below (c - repeated) room _ _ _ _ h.1 (ends tt refl))

  pub size_fault : {n p : ℕ} → refused n p ≡ sizes → SizeFault repeated order s at room n p
  size_fault e =
      ask_cases (SizeFault repeated order s at room) (leb (at + 4) (length s)) 20 at _ tt e
      (λ f. no_count (leb-false (at + 4) (length s) f))
      (λ t1 e. let l1 = leb-true (at + 4) (length s) t1 in
      ask_cases (SizeFault repeated order s at room) (leb lo c && leb c hi) 24 at _ tt e
      (λ f. other_count l1 (elim (not_both (leb lo c) (leb c hi) f) [ inl q ↦ inl (leb-false lo c q) | inr q ↦ inr (leb-false c hi q) ]))
      (λ t2 e. let b = and_iff.0 t2 in let counted : Counted repeated order s at = (l1, leb-true lo c b.0, leb-true c hi b.1) in
      ask_cases (SizeFault repeated order s at room) (leb (c - repeated) room) 29 at [] tt e
      (λ f. no_room counted (leb-false (c - repeated) room f))
      (λ t3 e. absurd (nothing_left tt e))))

  pub size_refuses : {n p : ℕ} → SizeFault repeated order s at room n p → refused n p ≡ sizes
  size_refuses (no_count h) = stops_above (at + 4) (length s) _ _ _ _ h refl
  size_refuses (other_count h f) =
      passes_below (at + 4) (length s) _ _ _ _ h
      (stops _ _ _ _ _ (either_fails (leb lo c) (leb c hi) (elim f [ inl q ↦ inl (lt-leb lo c q) | inr q ↦ inr (lt-leb c hi q) ])) refl)
  size_refuses (no_room h g) = pass_count h _ (stops_above (c - repeated) room _ _ _ _ g refl)
