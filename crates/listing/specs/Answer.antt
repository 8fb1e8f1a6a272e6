-- Document 01, 'The printed list': what parsing answers, and what stands in lent memory after it and after a print. Assumes nothing.
use Rattle.std.specs.Prelude.{ℕ, Bool, cond, ◌&&◌, List, ◌++◌, leb, length, drop, Result, Ok, Err}
use Rattle.std.proofs.Math.Option.{Option, none, some}
use Rattle.sheet.specs.Office.{Office, points, sides, triangles}
use Rattle.listing.specs.Text.{parsed}
use Rattle.listing.specs.Line.{room}
use Rattle.sheet.specs.Refusal.{number}
use Rattle.sheet.specs.declared.refusal.Refusal.{Refusal}
use Rattle.listing.specs.declared.Counts.{Counts}

-- the point count and the triangle count, or a refusal's number and place
pub data Answer : Type 0 where
  counts : ℕ → ℕ → Answer
  refused : ℕ → ℕ → Answer

abbrev pub answer : Result Counts Refusal → Answer
answer (Ok c) = counts c.points c.triangles
answer (Err r) = refused (number r.rule) r.place

pub record AfterParse : Type 0 where
  pub answer : Answer
  pub xs : List ℕ
  pub ys : List ℕ
  pub corners : List ℕ

-- new values in front, and then what stood there
abbrev pub over : List ℕ → List ℕ → List ℕ
over new old = new ++ drop (length new) old

-- the lists hold an office
abbrev pub holds : Office → List ℕ → List ℕ → List ℕ → Bool
holds o xs ys corners = (leb (points o) (length xs) && leb (points o) (length ys)) && leb (sides o) (length corners)

unfoldable pub parsing : Option Office → List ℕ → List ℕ → List ℕ → AfterParse
parsing none xs ys corners = record { answer = refused 40 0; xs = xs; ys = ys; corners = corners }
parsing (some o) xs ys corners = cond (holds o xs ys corners)
    (record { answer = counts (points o) (triangles o); xs = over o.xs xs; ys = over o.ys ys; corners = over o.corners corners })
    (record { answer = refused 4 0; xs = xs; ys = ys; corners = corners })

abbrev pub after_parse : List ℕ → List ℕ → List ℕ → List ℕ → AfterParse
after_parse text xs ys corners = parsing (parsed text) xs ys corners

-- a line of so many fields is printed where there is room for every such line; else nothing is
abbrev pub printed : ℕ → List ℕ → List ℕ → ℕ
printed fields text out = cond (leb (room fields) (length out)) (length text) 0

abbrev pub after_print : ℕ → List ℕ → List ℕ → List ℕ
after_print fields text out = cond (leb (room fields) (length out)) (over text out) out
