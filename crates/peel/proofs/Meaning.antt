-- Whatever satisfies the promises of draw and list leaves in memory what document 01's demands 2 and 3 ask; a refusal leaves all as lent. Assumes nothing.
use Rattle.rim.specs.declared.Tally.{Tally}
use Rattle.sheet.specs.declared.refusal.Refusal.{Refusal}
use Rattle.std.specs.Prelude.{Result}
use mathlib.Core.Path.{◌≡◌, refl, sym, ap, ap₂, subst, subst₂, ◌∙◌}
use mathlib.Core.Bool.{true}
use mathlib.Core.List.{List, ◌++◌, map}
use Prim.Native.Nat.{ℕ, ◌+◌, ◌-◌, ◌≤◌}
use native.Mathlib.Omega.{arith}
use lib.ListN.{length, get_or, take, drop, length-append, length-drop, length-map, get_or-append}
use lib.Seq.{take_at, get_or-append-add, get_or-drop}
use Rattle.laws.specs.First.{table}
use Rattle.laws.proofs.Test.{plain}
use Rattle.laws.proofs.Fill.{length-table}
use Rattle.sheet.specs.Office.{Office, office, points, triangles}
use Rattle.sheet.specs.Acceptable.{Acceptable}
use Rattle.sheet.proofs.Accepted.{accepted_lent}
use Rattle.rim.specs.Peel.{mark, on_rim, drawn, rims, ring, peeled, doubled}
use Rattle.rim.proofs.Reached.{sound}
use Rattle.rim.proofs.Rings.{ring_length, ring_fits}
use Rattle.peel.specs.List.{Entry, entries}
use Rattle.peel.specs.Answer.{tally, count, draw_answer, list_answer, draw_room, list_room, column, DrawPromise, ListPromise}
use Rattle.peel.specs.Code.{Lent}
use Rattle.peel.specs.DrawnAt.{DrawnAt}
use Rattle.peel.specs.Meaning.{Over, Shows, DrawMeans, ListMeans}
use Rattle.peel.proofs.DrawEnds.{drawn_ends}
use Rattle.peel.proofs.DrawnOutline.{drawn_outline}
use Rattle.peel.proofs.EveryOutline.{list_complete}
use Rattle.peel.proofs.Entries.{entries_fit}
use Rattle.peel.proofs.UsedPart.{ring_sides}
use Rattle.peel.proofs.Answered.{draw_lent, draw_accepted, list_lent, list_accepted}

pub over : (written lent now : List ℕ) (n : ℕ) → length written ≡ n → n ≤ length lent → now ≡ written ++ drop n lent → Over written lent now
over written lent now n e l f = record {
  long = ap length f ∙ length-append written (drop n lent) ∙ (let z = length-drop n lent in omega arith);
  front = λ i b. ap (λ (x : List ℕ). get_or x i 0) f ∙ get_or-append written (drop n lent) 0 i b;
  rest = λ i b.
      ap₂ (λ (x : List ℕ) (j : ℕ). get_or x j 0) f (let z : i ≡ length written + (i - length written) = omega arith in z)
      ∙ get_or-append-add written (drop n lent) (i - length written) 0
      ∙ get_or-drop n lent (i - length written) 0
      ∙ ap (λ j. get_or lent j 0) (omega arith);
}

module _ {o : Office} (a : Acceptable o) (limit : ℕ) {kept rim round kept' rim' round' : List ℕ} (l : Lent o (drawn o limit) kept rim round kept' rim' round') where
  size : length (drawn o limit) ≡ triangles o
  size = let (_, _, r, _) = drawn_ends a limit in (sound o a r).size

  marks_front : take (triangles o) kept' ≡ drawn o limit
  marks_front = ap (take (triangles o)) l.marks ∙ take_at (drawn o limit) (drop (triangles o) kept) (triangles o) size

  show_draw : (triangles o ≤ length kept) × (points o ≤ length rim) × (points o ≤ length round) → Shows o limit (peeled o (drawn o limit)) kept rim round kept' rim' round'
  show_draw (x, y, z) =
      let (n, d) = drawn_outline a limit in
      let (m, _, r, _) = drawn_ends a limit in
      let fits : rims o (drawn o limit) ≤ length round = (let h = sound o a r in let u = ring_fits a h in let v = ring_length a h in let w = ring_sides o (drawn o limit) in omega arith) in
      let rule : ℕ → ℕ = λ p. mark (on_rim o (drawn o limit) p) in
      record {
        outline = subst₂ (DrawnAt o limit) (sym d.count) (sym marks_front) d;
        marks = over (drawn o limit) kept kept' (triangles o) size x l.marks;
        on = over (table rule (points o)) rim rim' (points o) (length-table rule (points o)) y l.on;
        goes = over (ring o (drawn o limit)) round round' (rims o (drawn o limit)) (ring_sides o (drawn o limit)) fits l.goes;
      }

  ring_front : take (rims o (drawn o limit)) round' ≡ ring o (drawn o limit)
  ring_front = ap (take (rims o (drawn o limit))) l.goes ∙ take_at (ring o (drawn o limit)) (drop (rims o (drawn o limit)) round) (rims o (drawn o limit)) (ring_sides o (drawn o limit))

draw_places : (o : Office) (kept rim round : List ℕ) → draw_room o kept rim round ≡ true → (triangles o ≤ length kept) × (points o ≤ length rim) × (points o ≤ length round)
draw_places o kept rim round e = let ((x, y), z) = simp plain at e in (x, y, z)

list_places : (o : Office) (kept rim round least peels area : List ℕ) → list_room o kept rim round least peels area ≡ true
    → (triangles o ≤ length kept) × (points o ≤ length rim) × (points o ≤ length round) × (points o - 2 ≤ length least) × (points o - 2 ≤ length peels) × (points o - 2 ≤ length area)
list_places o kept rim round least peels area e = let (((((x, y), z), l), p), a) = simp plain at e in (x, y, z, l, p, a)

-- a draw that answers a tally
pub draw_means : {xs ys corners : List ℕ} {limit : ℕ} {kept rim round : List ℕ} {r : Result Tally Refusal} {kept' rim' round' : List ℕ} {p a m : ℕ}
    → DrawPromise xs ys corners limit kept rim round r kept' rim' round' → draw_answer r ≡ tally p a m → DrawMeans (office xs ys corners) limit p a m kept rim round kept' rim' round'
draw_means {xs} {ys} {corners} {limit} {kept} {rim} {round} {r} {kept'} {rim'} {round'} {p} {a} {m} d e =
    let (h, v) = draw_accepted d e in
    let (t, acceptable, _) = (accepted_lent (draw_room o kept rim round) o h).0 v in
    let (f, l) = draw_lent d v in
    let room = draw_places o kept rim round t in
    let same : tally p a m ≡ tally (peeled o (drawn o limit)) (doubled o (drawn o limit)) (rims o (drawn o limit)) = sym e ∙ f in
    let x : p ≡ peeled o (drawn o limit) = cc in
    let y : a ≡ doubled o (drawn o limit) = cc in
    let z : m ≡ rims o (drawn o limit) = cc in
    let front = marks_front acceptable limit l in
    record {
      acceptable = acceptable;
      room = room;
      shows = subst (λ n. Shows o limit n kept rim round kept' rim' round') (sym x) (show_draw acceptable limit l room);
      area_is = y ∙ ap (doubled o) (sym front);
      ring_is = ap (λ n. take n round') z ∙ ring_front acceptable limit l ∙ ap (ring o) (sym front);
      length_is = z ∙ sym (ring_sides o (drawn o limit)) ∙ ap (λ k. length (ring o k)) (sym front);
    }
  where
    o : Office
    o = office xs ys corners

-- a list that answers a count
pub list_means : {xs ys corners kept rim round least peels area : List ℕ} {r : Result ℕ Refusal} {kept' rim' round' least' peels' area' : List ℕ} {c : ℕ}
    → ListPromise xs ys corners kept rim round least peels area r kept' rim' round' least' peels' area' → list_answer r ≡ count c
    → ListMeans (office xs ys corners) c kept rim round least peels area kept' rim' round' least' peels' area'
list_means {xs} {ys} {corners} {kept} {rim} {round} {least} {peels} {area} {r} {kept'} {rim'} {round'} {least'} {peels'} {area'} {c} d e =
    let (h, v) = list_accepted d e in
    let (t, acceptable, _) = (accepted_lent (list_room o kept rim round least peels area) o h).0 v in
    let (f, l, u, w, z) = list_lent d v in
    let (b, g, i, x, y, s) = list_places o kept rim round least peels area t in
    let same : count c ≡ count (length (entries o)) = sym e ∙ f in
    record {
      acceptable = acceptable;
      room = (b, g, i, x, y, s);
      complete = list_complete acceptable;
      counts = cc;
      leasts = column_over acceptable (λ e. e.least) x u;
      peels = column_over acceptable (λ e. e.outline.peels) y w;
      areas = column_over acceptable (λ e. e.outline.area) s z;
      shows = (peeled o (drawn o 0), show_draw acceptable 0 l (b, g, i));
    }
  where
    o : Office
    o = office xs ys corners

    column_over : {list now : List ℕ} → Acceptable o → (number : Entry → ℕ) → points o - 2 ≤ length list → now ≡ column o number list → Over (map number (entries o)) list now
    column_over {list} {now} a number l f = over (map number (entries o)) list now (length (entries o)) (length-map (entries o) number) (let h = entries_fit a in omega arith) f

-- an acceptable office whose lent lists have room is not refused
pub draw_answers : {xs ys corners : List ℕ} {limit : ℕ} {kept rim round : List ℕ} {r : Result Tally Refusal} {kept' rim' round' : List ℕ} → DrawPromise xs ys corners limit kept rim round r kept' rim' round'
    → draw_room (office xs ys corners) kept rim round ≡ true → Acceptable (office xs ys corners) → (p : ℕ) × (a : ℕ) × (m : ℕ) × (draw_answer r ≡ tally p a m)
draw_answers d room a = (_, _, _, (draw_lent d ((accepted_lent _ _ _).1 (room, a, refl))).0)

pub list_answers : {xs ys corners kept rim round least peels area : List ℕ} {r : Result ℕ Refusal} {kept' rim' round' least' peels' area' : List ℕ}
    → ListPromise xs ys corners kept rim round least peels area r kept' rim' round' least' peels' area'
    → list_room (office xs ys corners) kept rim round least peels area ≡ true → Acceptable (office xs ys corners) → (c : ℕ) × (list_answer r ≡ count c)
list_answers d room a = (_, (list_lent d ((accepted_lent _ _ _).1 (room, a, refl))).0)
