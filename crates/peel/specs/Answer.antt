-- Document 01, 'Peeling': what draw, outline and list answer, and what each lent list holds afterwards, for all inputs. Assumes nothing.
use Rattle.std.specs.Prelude.{Result, Ok, Err, ◌≡◌, ℕ, ◌-◌, Bool, cond, ◌&&◌, List, [], ◌++◌, map, leb, length, take, drop}
use Rattle.laws.specs.First.{table}
use Rattle.sheet.specs.Office.{Office, office, points, triangles}
use Rattle.rim.specs.Peel.{mark, on_rim, rims, ring, peeled, doubled}
use Rattle.peel.specs.List.{Entry, entries}
use Rattle.peel.specs.Outcome.{Outcome, draws, refuses, outcome}
use Rattle.rim.specs.declared.Tally.{Tally}
use Rattle.sheet.specs.Refusal.{number}
use Rattle.sheet.specs.declared.refusal.Refusal.{Refusal}

-- triangles peeled, doubled area and ring length; or how many entries; or a refusal's number and place
pub data Answer : Type 0 where
  tally : ℕ → ℕ → ℕ → Answer
  count : ℕ → Answer
  refusal : ℕ → ℕ → Answer

abbrev pub draw_answer : Result Tally Refusal → Answer
draw_answer (Ok t) = tally t.peeled t.area t.ring
draw_answer (Err r) = refusal (number r.rule) r.place

abbrev pub list_answer : Result ℕ Refusal → Answer
list_answer (Ok n) = count n
list_answer (Err r) = refusal (number r.rule) r.place

-- the answer and the lent lists after a draw
pub record AfterDraw : Type 0 where
  pub answer : Answer
  pub kept : List ℕ
  pub rim : List ℕ
  pub ring : List ℕ

-- a mark per triangle, a mark per point, and the ring in front; a refusal writes nothing
unfoldable pub drawing : Office → Outcome → List ℕ → List ℕ → List ℕ → AfterDraw
drawing o (draws k) kept rim round = record {
  answer = tally (peeled o k) (doubled o k) (rims o k);
  kept = k ++ drop (triangles o) kept;
  rim = table (λ p. mark (on_rim o k p)) (points o) ++ drop (points o) rim;
  ring = ring o k ++ drop (rims o k) round;
}
drawing o (refuses number place) kept rim round = record { answer = refusal number place; kept = kept; rim = rim; ring = round }

abbrev pub draw_room : Office → List ℕ → List ℕ → List ℕ → Bool
draw_room o kept rim round = leb (triangles o) (length kept) && leb (points o) (length rim) && leb (points o) (length round)

unfoldable pub after_draw : List ℕ → List ℕ → List ℕ → ℕ → List ℕ → List ℕ → List ℕ → AfterDraw
after_draw xs ys corners limit kept rim round =
    drawing (office xs ys corners) (outcome (draw_room (office xs ys corners) kept rim round) (office xs ys corners) limit) kept rim round

-- the promise of draw: its answer and each lent list afterwards, by those before
pub record DrawPromise (xs ys corners : List ℕ) (limit : ℕ) (kept rim round : List ℕ) (r : Result Tally Refusal) (kept' rim' round' : List ℕ) : Type 0 where
  pub answers : draw_answer r ≡ (after_draw xs ys corners limit kept rim round).answer
  pub kept_is : kept' ≡ (after_draw xs ys corners limit kept rim round).kept
  pub rim_is : rim' ≡ (after_draw xs ys corners limit kept rim round).rim
  pub ring_is : round' ≡ (after_draw xs ys corners limit kept rim round).ring

-- the used part of a ring buffer: none of it where the tally claims too much
abbrev pub used : List ℕ → ℕ → List ℕ
used round sides = cond (leb sides (length round)) (take sides round) []

-- the answer and the lent lists after a list
pub record AfterList : Type 0 where
  pub answer : Answer
  pub kept : List ℕ
  pub rim : List ℕ
  pub ring : List ℕ
  pub least : List ℕ
  pub peeled : List ℕ
  pub area : List ℕ

-- one number of each entry, and then what stood there
abbrev pub column : Office → (Entry → ℕ) → List ℕ → List ℕ
column o number list = map number (entries o) ++ drop (length (entries o)) list

-- marks and ring as a draw leaves them
unfoldable pub listing : Office → Outcome → List ℕ → List ℕ → List ℕ → List ℕ → List ℕ → List ℕ → AfterList
listing o (draws k) kept rim round least peeled area =
    let d = drawing o (draws k) kept rim round in
    record {
      answer = count (length (entries o));
      kept = d.kept;
      rim = d.rim;
      ring = d.ring;
      least = column o (λ e. e.least) least;
      peeled = column o (λ e. e.outline.peels) peeled;
      area = column o (λ e. e.outline.area) area;
    }
listing o (refuses number place) kept rim round least peeled area =
    record { answer = refusal number place; kept = kept; rim = rim; ring = round; least = least; peeled = peeled; area = area }

abbrev pub list_room : Office → List ℕ → List ℕ → List ℕ → List ℕ → List ℕ → List ℕ → Bool
list_room o kept rim round least peeled area =
    draw_room o kept rim round && leb (points o - 2) (length least) && leb (points o - 2) (length peeled) && leb (points o - 2) (length area)

-- a list draws at limit 0
unfoldable pub after_list : List ℕ → List ℕ → List ℕ → List ℕ → List ℕ → List ℕ → List ℕ → List ℕ → List ℕ → AfterList
after_list xs ys corners kept rim round least peeled area =
    listing (office xs ys corners) (outcome (list_room (office xs ys corners) kept rim round least peeled area) (office xs ys corners) 0) kept rim round least peeled area

-- the promise of list
pub record ListPromise (xs ys corners kept rim round least peeled area : List ℕ) (r : Result ℕ Refusal) (kept' rim' round' least' peeled' area' : List ℕ) : Type 0 where
  pub answers : list_answer r ≡ (after_list xs ys corners kept rim round least peeled area).answer
  pub kept_is : kept' ≡ (after_list xs ys corners kept rim round least peeled area).kept
  pub rim_is : rim' ≡ (after_list xs ys corners kept rim round least peeled area).rim
  pub ring_is : round' ≡ (after_list xs ys corners kept rim round least peeled area).ring
  pub least_is : least' ≡ (after_list xs ys corners kept rim round least peeled area).least
  pub peeled_is : peeled' ≡ (after_list xs ys corners kept rim round least peeled area).peeled
  pub area_is : area' ≡ (after_list xs ys corners kept rim round least peeled area).area
