-- From what the check and the work on an accepted office promise to what draw and list promise. Assumes nothing.
use mathlib.Core.Path.{◌≡◌, sym, ap, subst, ◌∙◌}
use mathlib.Core.Bool.{Bool, true, ◌&&◌}
use mathlib.Core.List.{List, []}
use Prim.Native.Nat.{ℕ, ◌+◌, ◌-◌, ◌/◌, ◌≤◌}
use native.Mathlib.Omega.{arith}
use lib.Dec.{leb}
use lib.ListN.{length}
use Rattle.laws.proofs.Test.{and_iff, leb_iff}
use Rattle.sheet.specs.Office.{Office, office, points, triangles}
use Rattle.sheet.specs.Verdict.{verdict}
use Rattle.rim.specs.declared.office.Taken.{Taken}
use Rattle.rim.specs.Values.{office_of}
use Rattle.rim.specs.Accepting.{told_hull}
use Rattle.std.specs.Prelude.{Result, Ok, Err}
use Rattle.sheet.specs.declared.refusal.Refusal.{Refusal}
use Rattle.rim.specs.Peel.{drawn, peeled as peeled_of, doubled, rims as rims_of}
use Rattle.peel.specs.List.{entries}
use Rattle.peel.specs.Answer.{tally, count, draw_answer, draw_room, list_room, drawing, listing, DrawPromise, ListPromise}
use Rattle.rim.specs.declared.Tally.{Tally}
use Rattle.peel.specs.Code.{Lent, Outlined, Written}
use Rattle.sheet.proofs.Accepted.{accepted_lent}
use Rattle.peel.proofs.Outcomes.{draw_given, draw_refused, list_given, list_refused}

-- the room found is the definition's, and what the check answers is the verdict
by_verdict : (o : Office) {room enough : Bool} {x y : Result Taken Refusal} → room ≡ enough → told_hull x ≡ verdict room o → x ≡ y → verdict enough o ≡ told_hull y
by_verdict o t e f = ap (λ b. verdict b o) (sym t) ∙ sym e ∙ ap told_hull f

draw_enough : (o : Office) (kept rim round : List ℕ) → draw_room o kept rim round ≡ true → (triangles o ≤ length kept) × (points o ≤ length rim) × (points o ≤ length round)
draw_enough o kept rim round e =
    let (h, z) = (and_iff {a = leb (triangles o) (length kept) && leb (points o) (length rim)}).0 e in
    let (x, y) = (and_iff {a = leb (triangles o) (length kept)}).0 h in
    (leb_iff.0 x, leb_iff.0 y, leb_iff.0 z)

list_enough : (o : Office) (kept rim round least peeled area : List ℕ) → list_room o kept rim round least peeled area ≡ true
    → (draw_room o kept rim round ≡ true) × (points o ≤ length least + 2) × (points o ≤ length peeled + 2) × (points o ≤ length area + 2)
list_enough o kept rim round least peeled area h =
    let (i, w) = (and_iff {a = draw_room o kept rim round && leb (points o - 2) (length least) && leb (points o - 2) (length peeled)}).0 h in
    let (j, v) = (and_iff {a = draw_room o kept rim round && leb (points o - 2) (length least)}).0 i in
    let (d, u) = (and_iff {a = draw_room o kept rim round}).0 j in
    (d, omega (arith, (leb_iff {a = points o - 2}).0 u), omega (arith, (leb_iff {a = points o - 2}).0 v), omega (arith, (leb_iff {a = points o - 2}).0 w))

module _ (xs ys corners : List ℕ) where
  abbrev o : Office
  o = office xs ys corners

  module _ (limit : ℕ) (kept rim round : List ℕ) {room : Bool} {x : Result Taken Refusal} (t : room ≡ draw_room (office xs [] corners) kept rim round) (e : told_hull x ≡ verdict room o) where
    pub draw_not : (r : Refusal) → x ≡ Err r → DrawPromise xs ys corners limit kept rim round (Err r) kept rim round
    unfolding drawing
    draw_not r f =
        let g = draw_refused xs ys corners limit kept rim round (by_verdict o t e f) in
        record { answers = sym (ap (λ a. a.answer) g); kept_is = sym (ap (λ a. a.kept) g); rim_is = sym (ap (λ a. a.rim) g); ring_is = sym (ap (λ a. a.ring) g) }

    pub draw_may : (a : Taken) → x ≡ Ok a → office_of a.sheet ≡ o → (length a.sheet.corners.now / 3 ≤ length kept) × (length a.sheet.xs.now ≤ length rim) × (length a.sheet.xs.now ≤ length round)
    draw_may a f g =
        let (h, _, _) = (accepted_lent (draw_room o kept rim round) o a.hull).0 (by_verdict o t e f) in
        let (u, v, w) = draw_enough o kept rim round h in
        rw (ap (λ p. p.corners) g, ap (λ p. p.xs) g) (u, v, w)

    pub draw_done : (a : Taken) → x ≡ Ok a → office_of a.sheet ≡ o → (n : Tally) {kept' rim' round' : List ℕ} → Outlined (office_of a.sheet) (drawn (office_of a.sheet) limit) kept rim round kept' rim' round' n.peeled n.area n.ring
        → DrawPromise xs ys corners limit kept rim round (Ok n) kept' rim' round'
    unfolding drawing
    draw_done a f i n {kept'} {rim'} {round'} h =
        let d = subst (λ p. Outlined p (drawn p limit) kept rim round kept' rim' round' n.peeled n.area n.ring) i h in
        let g = draw_given xs ys corners limit kept rim round (by_verdict o t e f) in
        let z : draw_answer (Ok n) ≡ tally (peeled_of o (drawn o limit)) (doubled o (drawn o limit)) (rims_of o (drawn o limit)) = cc in
        record {
          answers = z ∙ sym (ap (λ a. a.answer) g);
          kept_is = d.lent.marks ∙ sym (ap (λ a. a.kept) g);
          rim_is = d.lent.on ∙ sym (ap (λ a. a.rim) g);
          ring_is = d.lent.goes ∙ sym (ap (λ a. a.ring) g);
        }

  module _ (kept rim round least peeled area : List ℕ) {room : Bool} {x : Result Taken Refusal} (t : room ≡ list_room (office xs [] corners) kept rim round least peeled area) (e : told_hull x ≡ verdict room o) where
    pub list_not : (r : Refusal) → x ≡ Err r → ListPromise xs ys corners kept rim round least peeled area (Err r) kept rim round least peeled area
    unfolding listing
    list_not r f =
        let g = list_refused xs ys corners kept rim round least peeled area (by_verdict o t e f) in
        record {
          answers = sym (ap (λ a. a.answer) g);
          kept_is = sym (ap (λ a. a.kept) g);
          rim_is = sym (ap (λ a. a.rim) g);
          ring_is = sym (ap (λ a. a.ring) g);
          least_is = sym (ap (λ a. a.least) g);
          peeled_is = sym (ap (λ a. a.peeled) g);
          area_is = sym (ap (λ a. a.area) g);
        }

    pub list_may : (a : Taken) → x ≡ Ok a → office_of a.sheet ≡ o
        → ((length a.sheet.corners.now / 3 ≤ length kept) × (length a.sheet.xs.now ≤ length rim) × (length a.sheet.xs.now ≤ length round))
        × ((length a.sheet.xs.now ≤ length least + 2) × (length a.sheet.xs.now ≤ length peeled + 2) × (length a.sheet.xs.now ≤ length area + 2))
    list_may a f g =
        let (h, _, _) = (accepted_lent (list_room o kept rim round least peeled area) o a.hull).0 (by_verdict o t e f) in
        let (d, x, y, z) = list_enough o kept rim round least peeled area h in
        let (u, v, w) = draw_enough o kept rim round d in
        rw (ap (λ p. p.corners) g, ap (λ p. p.xs) g) ((u, v, w), (x, y, z))

    pub list_done : (a : Taken) → x ≡ Ok a → office_of a.sheet ≡ o → (n : ℕ) {kept' rim' round' least' peeled' area' : List ℕ} → Lent (office_of a.sheet) (drawn (office_of a.sheet) 0) kept rim round kept' rim' round'
        → Written (entries (office_of a.sheet)) least peeled area least' peeled' area' n → ListPromise xs ys corners kept rim round least peeled area (Ok n) kept' rim' round' least' peeled' area'
    unfolding listing drawing
    list_done a f i n {kept'} {rim'} {round'} {least'} {peeled'} {area'} h b =
        let d = subst (λ p. Lent p (drawn p 0) kept rim round kept' rim' round') i h in
        let w = subst (λ p. Written (entries p) least peeled area least' peeled' area' n) i b in
        let g = list_given xs ys corners kept rim round least peeled area (by_verdict o t e f) in
        record {
          answers = ap count w.counts ∙ sym (ap (λ a. a.answer) g);
          kept_is = d.marks ∙ sym (ap (λ a. a.kept) g);
          rim_is = d.on ∙ sym (ap (λ a. a.rim) g);
          ring_is = d.goes ∙ sym (ap (λ a. a.ring) g);
          least_is = w.leasts ∙ sym (ap (λ a. a.least) g);
          peeled_is = w.peels ∙ sym (ap (λ a. a.peeled) g);
          area_is = w.areas ∙ sym (ap (λ a. a.area) g);
        }
