-- What the promises of draw and list say of each answer: where it is a tally or a count, the check accepts and the lists are written; where it is
-- a refusal, it is the check's, and the lists are as lent. Assumes nothing.
use Rattle.rim.specs.declared.Tally.{Tally}
use Rattle.sheet.specs.declared.refusal.Refusal.{Refusal}
use Rattle.std.specs.Prelude.{Result}
use mathlib.Core.Path.{◌≡◌, refl, sym, ap, ◌∙◌}
use mathlib.Core.List.{List}
use Prim.Native.Nat.{ℕ}
use native.Mathlib.Omega.{arith}
use lib.ListN.{length}
use Rattle.sheet.specs.Office.{Office, office}
use Rattle.sheet.specs.Verdict.{Verdict, accepted, refused, verdict}
use Rattle.rim.specs.Peel.{drawn, rims, peeled, doubled}
use Rattle.peel.specs.List.{entries}
use Rattle.peel.specs.Answer.{tally, count, refusal, draw_answer, list_answer, drawing, listing, draw_room, list_room, column, DrawPromise, ListPromise}
use Rattle.peel.specs.Code.{Lent}
use Rattle.peel.proofs.Outcomes.{draw_given, draw_refused, list_given, list_refused}

tally_not : {p a m n q : ℕ} → tally p a m ≡ refusal n q → ⊥
tally_not e = let z : ◌≡◌ {A = ℕ} 0 1 = cc in omega arith

pub count-not : {c n q : ℕ} → count c ≡ refusal n q → ⊥
count-not e = let z : ◌≡◌ {A = ℕ} 0 1 = cc in omega arith

pub same_refused : {c p n q : ℕ} → refusal c p ≡ refusal n q → refused c p ≡ refused n q
same_refused e = cc

module _ {xs ys corners : List ℕ} {limit : ℕ} {kept rim round : List ℕ} {r : Result Tally Refusal} {k i g : List ℕ} (d : DrawPromise xs ys corners limit kept rim round r k i g) where
  abbrev o : Office
  o = office xs ys corners

  abbrev v : Verdict
  v = verdict (draw_room o kept rim round) o

  pub draw_lent : {h : ℕ} → v ≡ accepted h
      → (draw_answer r ≡ tally (peeled o (drawn o limit)) (doubled o (drawn o limit)) (rims o (drawn o limit))) × Lent o (drawn o limit) kept rim round k i g
  unfolding drawing
  draw_lent w =
      let e = draw_given xs ys corners limit kept rim round w in
      (d.answers ∙ ap (λ x. x.answer) e, record { marks = d.kept_is ∙ ap (λ x. x.kept) e; on = d.rim_is ∙ ap (λ x. x.rim) e; goes = d.ring_is ∙ ap (λ x. x.ring) e })

  draw_unlent : {n q : ℕ} → v ≡ refused n q → (draw_answer r ≡ refusal n q) × (k ≡ kept) × (i ≡ rim) × (g ≡ round)
  unfolding drawing
  draw_unlent w =
      let e = draw_refused xs ys corners limit kept rim round w in
      (d.answers ∙ ap (λ x. x.answer) e, d.kept_is ∙ ap (λ x. x.kept) e, d.rim_is ∙ ap (λ x. x.rim) e, d.ring_is ∙ ap (λ x. x.ring) e)

  pub draw_accepted : {p a m : ℕ} → draw_answer r ≡ tally p a m → (h : ℕ) × (v ≡ accepted h)
  draw_accepted e = by v refl
    where
      by : (w : Verdict) → v ≡ w → (h : ℕ) × (v ≡ accepted h)
      by (accepted h) w = (h, w)
      by (refused c q) w = absurd (tally_not (sym e ∙ (draw_unlent w).0))

  pub draw_refuses : {n q : ℕ} → draw_answer r ≡ refusal n q → (v ≡ refused n q) × (k ≡ kept) × (i ≡ rim) × (g ≡ round)
  draw_refuses {n} {q} e = by v refl
    where
      by : (w : Verdict) → v ≡ w → (v ≡ refused n q) × (k ≡ kept) × (i ≡ rim) × (g ≡ round)
      by (accepted h) w = absurd (tally_not (sym (draw_lent w).0 ∙ e))
      by (refused c p) w = let (f, x, y, z) = draw_unlent w in (w ∙ same_refused (sym f ∙ e), x, y, z)

module _ {xs ys corners kept rim round least peels area : List ℕ} {r : Result ℕ Refusal} {k i g l p a : List ℕ} (d : ListPromise xs ys corners kept rim round least peels area r k i g l p a) where
  abbrev u : Office
  u = office xs ys corners

  abbrev check : Verdict
  check = verdict (list_room u kept rim round least peels area) u

  pub list_lent : {h : ℕ} → check ≡ accepted h → (list_answer r ≡ count (length (entries u))) × Lent u (drawn u 0) kept rim round k i g
      × (l ≡ column u (λ e. e.least) least) × (p ≡ column u (λ e. e.outline.peels) peels) × (a ≡ column u (λ e. e.outline.area) area)
  unfolding listing drawing
  list_lent w =
      let e = list_given xs ys corners kept rim round least peels area w in (
        d.answers ∙ ap (λ x. x.answer) e,
        record { marks = d.kept_is ∙ ap (λ x. x.kept) e; on = d.rim_is ∙ ap (λ x. x.rim) e; goes = d.ring_is ∙ ap (λ x. x.ring) e },
        d.least_is ∙ ap (λ x. x.least) e,
        d.peeled_is ∙ ap (λ x. x.peeled) e,
        d.area_is ∙ ap (λ x. x.area) e,
      )

  list_unlent : {n q : ℕ} → check ≡ refused n q → (list_answer r ≡ refusal n q) × (k ≡ kept) × (i ≡ rim) × (g ≡ round) × (l ≡ least) × (p ≡ peels) × (a ≡ area)
  unfolding listing
  list_unlent w =
      let e = list_refused xs ys corners kept rim round least peels area w in (
        d.answers ∙ ap (λ x. x.answer) e,
        d.kept_is ∙ ap (λ x. x.kept) e,
        d.rim_is ∙ ap (λ x. x.rim) e,
        d.ring_is ∙ ap (λ x. x.ring) e,
        d.least_is ∙ ap (λ x. x.least) e,
        d.peeled_is ∙ ap (λ x. x.peeled) e,
        d.area_is ∙ ap (λ x. x.area) e,
      )

  pub list_accepted : {c : ℕ} → list_answer r ≡ count c → (h : ℕ) × (check ≡ accepted h)
  list_accepted e = by check refl
    where
      by : (w : Verdict) → check ≡ w → (h : ℕ) × (check ≡ accepted h)
      by (accepted h) w = (h, w)
      by (refused n q) w = absurd (count-not (sym e ∙ (list_unlent w).0))

  pub list_refuses : {n q : ℕ} → list_answer r ≡ refusal n q → (check ≡ refused n q) × (k ≡ kept) × (i ≡ rim) × (g ≡ round) × (l ≡ least) × (p ≡ peels) × (a ≡ area)
  list_refuses {n} {q} e = by check refl
    where
      by : (w : Verdict) → check ≡ w → (check ≡ refused n q) × (k ≡ kept) × (i ≡ rim) × (g ≡ round) × (l ≡ least) × (p ≡ peels) × (a ≡ area)
      by (accepted h) w = absurd (count-not (sym (list_lent w).0 ∙ e))
      by (refused c j) w = let (f, x, y, z, s, t, m) = list_unlent w in (w ∙ same_refused (sym f ∙ e), x, y, z, s, t, m)
