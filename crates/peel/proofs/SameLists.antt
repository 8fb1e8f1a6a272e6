-- Document 02, 2/13, of the calls: what list promises of two exports of an office. Assumes nothing.
use Rattle.sheet.specs.declared.refusal.Refusal.{Refusal}
use Rattle.std.specs.Prelude.{Result}
use mathlib.Core.Path.{◌≡◌, refl, sym, ap, ◌∙◌}
use mathlib.Core.Bool.{true}
use mathlib.Core.List.{List, map}
use Prim.Native.Nat.{ℕ}
use lib.ListN.{length, take, drop, length-map}
use lib.Seq.{take_at}
use Rattle.sheet.specs.Office.{Office, office, rims as hull_sides}
use Rattle.sheet.specs.Renumbered.{Renumbered}
use Rattle.sheet.proofs.Accepted.{accepted_lent}
use Rattle.rim.specs.Peel.{drawn, rims}
use Rattle.peel.specs.List.{Entry, entries}
use Rattle.peel.specs.Answer.{count, list_answer, list_room, column, ListPromise}
use Rattle.peel.proofs.Answered.{list_lent, list_accepted}
use Rattle.peel.proofs.MatchedList.{paired_length, same_column}
use Rattle.peel.proofs.SameDraws.{SameLent, same, again, lent_same}

-- the entries' numbers stand in front
column_front : (o : Office) (number : Entry → ℕ) (list : List ℕ) {l : List ℕ} {c : ℕ} → c ≡ length (entries o) → l ≡ column o number list → take c l ≡ map number (entries o)
column_front o number list {l} {c} e f = ap (take c) f ∙ take_at (map number (entries o)) (drop (length (entries o)) list) c (length-map (entries o) number ∙ sym e)

-- where one export's list answers a count, the other's does, if its lent lists have room: as many entries, with the same least limits, peels and areas
pub list_same : {xs ys corners xs' ys' corners' : List ℕ} (re : Renumbered (office xs ys corners) (office xs' ys' corners'))
    {kept rim round least peels area kept' rim' round' least' peels' area' : List ℕ} {r r' : Result ℕ Refusal} {k i g l p a k' i' g' l' p' a' : List ℕ} {c : ℕ}
    → ListPromise xs ys corners kept rim round least peels area r k i g l p a → ListPromise xs' ys' corners' kept' rim' round' least' peels' area' r' k' i' g' l' p' a'
    → list_answer r ≡ count c → list_room (office xs' ys' corners') kept' rim' round' least' peels' area' ≡ true
    → (list_answer r' ≡ count c) × (take c l' ≡ take c l) × (take c p' ≡ take c p) × (take c a' ≡ take c a)
    × SameLent re (rims (office xs ys corners) (drawn (office xs ys corners) 0)) k i g k' i' g'
list_same {xs} {ys} {corners} {xs'} {ys'} {corners'} re {kept} {rim} {round} {least} {peels} {area} {kept'} {rim'} {round'} {least'} {peels'} {area'} {c = c} x y e room =
    let (h, v) = list_accepted x e in
    let (_, acceptable, _) = (accepted_lent (list_room old kept rim round least peels area) old h).0 v in
    let (f, b, l, p, a) = list_lent x v in
    let (f', b', l', p', a') = list_lent y ((accepted_lent (list_room new kept' rim' round' least' peels' area') new (hull_sides new)).1 (room, again re acceptable 0, refl)) in
    let w = (same re acceptable 0).lists in
    let t : count c ≡ count (length (entries old)) = sym e ∙ f in
    let u : c ≡ length (entries old) = cc in
    let u' : c ≡ length (entries new) = u ∙ sym (paired_length w) in (
      f' ∙ ap count (sym u'),
      column_front new (λ e. e.least) least' u' l' ∙ same_column (λ e. e.least) (λ e d m z. m) w ∙ sym (column_front old (λ e. e.least) least u l),
      column_front new (λ e. e.outline.peels) peels' u' p' ∙ same_column (λ e. e.outline.peels) (λ e d m z. z.peels) w ∙ sym (column_front old (λ e. e.outline.peels) peels u p),
      column_front new (λ e. e.outline.area) area' u' a' ∙ same_column (λ e. e.outline.area) (λ e d m z. z.area) w ∙ sym (column_front old (λ e. e.outline.area) area u a),
      lent_same re acceptable 0 refl b b',
    )
  where
    old : Office
    old = office xs ys corners

    new : Office
    new = office xs' ys' corners'
