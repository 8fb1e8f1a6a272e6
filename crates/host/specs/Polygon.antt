-- Document 01, 'Polygon bytes', last paragraph: what the console's C function answers, and what stands in its output afterwards: the check,
-- the peeling and the writer, one after another. Assumes nothing.
use Rattle.std.specs.Prelude.{ℕ, ◌/◌, ◌%◌, Bool, true, not, cond, ◌||◌, List, map, ltb, eqb, ℤ, pos, neg_ℤ, length, get_or}
use Rattle.sheet.specs.Office.{Office}
use Rattle.sheet.specs.Verdict.{Verdict, accepted, verdict}
use Rattle.rim.specs.Peel.{ring, drawn}
use Rattle.shape.specs.Answers.{Answer, gives, refused, over}
use Rattle.shape.specs.Writing.{polygon, writing}
use Rattle.host.specs.Blocks.{decoded}

-- the bytes of polygon written, or minus the refusal number
abbrev pub code : Answer ℕ → ℤ
code (gives n) = pos n
code (refused number place) = neg_ℤ (pos number)

pub record After : Type 0 where
  pub answer : Answer ℕ
  pub out : List ℕ

-- the coordinates of a ring's points
abbrev pub along : List ℕ → List ℕ → List ℕ
along coordinates round = map (λ p. get_or coordinates p 0) round

-- a refusal writes nothing
abbrev pub refusal : ℕ → ℕ → List ℕ → After
refusal number place out = record { answer = refused number place; out = out }

-- a ring is written as a polygon; 32 where the output is too short
unfoldable pub writes : List ℕ → List ℕ → List ℕ → After
writes xs ys out = record { answer = writing xs ys (length out); out = over (writing xs ys (length out)) (polygon 1 xs ys) out }

-- an accepted office is drawn at the limit
unfoldable pub draws : Office → ℕ → List ℕ → Verdict → After
draws o limit out (accepted hull) = writes (along o.xs (ring o (drawn o limit))) (along o.ys (ring o (drawn o limit))) out
draws o limit out (Verdict.refused number place) = refusal number place out

abbrev pub whenever : Bool → ℕ → List ℕ → After → After
whenever broken number out others = cond broken (refusal number 0 out) others

-- 1, 2 and 3 by the blocks' lengths, each in its turn; then the check's, and 32 last
unfoldable pub after_polygon : List ℕ → List ℕ → ℕ → List ℕ → After
after_polygon points triangles limit out =
    whenever (not (eqb (length points % 4) 0)) 1 out
    (whenever (ltb (length points / 4) 3 || ltb 1024 (length points / 4)) 2 out
    (whenever (eqb (length triangles) 0 || not (eqb (length triangles % 6) 0) || ltb 12258 (length triangles)) 3 out
    (draws (decoded points triangles) limit out (verdict true (decoded points triangles)))))
