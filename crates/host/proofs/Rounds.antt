-- What a draw and the writer come to, for the polygon of an office. Assumes nothing.
use Prim.Native.Nat.{ℕ, ◌/◌, ◌≤◌}
use mathlib.Core.Path.{◌≡◌, refl, sym, ap, ap₂, ◌∙◌}
use mathlib.Core.Bool.{Bool, true, false}
use mathlib.Core.List.{List}
use native.Mathlib.Omega.{arith}
use borrow.Author.Tests.{le-leb}
use lib.ListN.{length, length-map}
use Rattle.std.specs.Prelude.{Result, Ok, Err}
use Rattle.sheet.specs.Office.{Office, office}
use Rattle.sheet.specs.Verdict.{Verdict, accepted, verdict}
use Rattle.sheet.specs.Refusal.{number}
use Rattle.sheet.specs.declared.refusal.Refusal.{Refusal}
use Rattle.peel.specs.Answer.{draw_answer, drawing, draw_room, after_draw, used}
use Rattle.rim.specs.declared.Tally.{Tally}
use Rattle.peel.proofs.Outcomes.{draw_given, draw_refused}
use Rattle.peel.proofs.UsedPart.{outline_of_draw}
use Rattle.shape.specs.Answers.{gives}
use Rattle.exchange.proofs.WriteExactly.{write_taken_exactly}
use Rattle.host.specs.Polygon as Polygon
use Rattle.host.specs.Blocks.{decoded}
use Rattle.host.specs.Polygon.{After, along, writes, draws, whenever, after_polygon}

pub along_length : (coordinates round : List ℕ) → length (along coordinates round) ≡ length round
along_length coordinates round = length-map round _

-- ---- the writer

-- what is written has 16,413 bytes at most
module _ (out : List ℕ) (n : ℕ) where
  written_small : (xs ys : List ℕ) → (writes xs ys out).answer ≡ gives n → n ≤ 16413
  unfolding writes
  written_small xs ys e = let (ring, low, room, size) = (write_taken_exactly xs ys (length out) n).0 e in omega arith

  drawn_small : (o : Office) (limit : ℕ) (v : Verdict) → (draws o limit out v).answer ≡ gives n → n ≤ 16413
  unfolding draws
  drawn_small o limit (accepted h) e = written_small _ _ e
  drawn_small o limit (Verdict.refused k p) e = absurd (let z : ◌≡◌ {A = ℕ} 0 1 = cc in omega arith)

  unbroken : (broken : Bool) (k : ℕ) (others : After) → (others.answer ≡ gives n → n ≤ 16413) → (whenever broken k out others).answer ≡ gives n → n ≤ 16413
  unbroken true k others h e = absurd (let z : ◌≡◌ {A = ℕ} 0 1 = cc in omega arith)
  unbroken false k others h e = h e

  pub small : (points triangles : List ℕ) (limit : ℕ) → (after_polygon points triangles limit out).answer ≡ gives n → n ≤ 16413
  unfolding after_polygon
  small points triangles limit =
      unbroken _ 1 _ (unbroken _ 2 _ (unbroken _ 3 _ (drawn_small (decoded points triangles) limit (verdict true (decoded points triangles)))))

-- ---- the drawing

module _ (xs ys corners : List ℕ) (limit : ℕ) (kept rim round : List ℕ) (out : List ℕ)
    (k : length corners / 3 ≤ length kept) (i : length xs ≤ length rim) (g : length xs ≤ length round) where
  o : Office
  o = office xs ys corners

  room : draw_room (office xs ys corners) kept rim round ≡ true
  room = rw (le-leb (length corners / 3) (length kept) k, le-leb (length xs) (length rim) i, le-leb (length xs) (length round) g)

  module _ (r : Result Tally Refusal) (e : draw_answer r ≡ (after_draw xs ys corners limit kept rim round).answer) where
    pub drew_refusal : (q : Refusal) → r ≡ Err q → draws (office xs ys corners) limit out (verdict true (office xs ys corners)) ≡ Polygon.refusal (number q.rule) q.place out
    unfolding draws drawing
    drew_refusal q f = by (verdict true (office xs ys corners)) refl
      where
        by : (v : Verdict) → verdict true (office xs ys corners) ≡ v → draws (office xs ys corners) limit out v ≡ Polygon.refusal (number q.rule) q.place out
        by (accepted h) v =
            let t = sym (ap draw_answer f) ∙ e ∙ ap (λ x. x.answer) (draw_given xs ys corners limit kept rim round {m = h} (rw room v)) in
            absurd (let z : ◌≡◌ {A = ℕ} 0 1 = cc in omega arith)
        by (Verdict.refused n p) v =
            let t = sym (ap draw_answer f) ∙ e ∙ ap (λ x. x.answer) (draw_refused xs ys corners limit kept rim round {n = n} {p = p} (rw room v)) in
            let a : number q.rule ≡ n = cc in
            let b : q.place ≡ p = cc in
            ap₂ (λ (m s : ℕ). Polygon.refusal m s out) (sym a) (sym b)

    pub drew_outline : (t : Tally) (round' part : List ℕ) → r ≡ Ok t → round' ≡ (after_draw xs ys corners limit kept rim round).ring → part ≡ used round' t.ring
        → draws (office xs ys corners) limit out (verdict true (office xs ys corners)) ≡ writes (along xs part) (along ys part) out
    unfolding draws drawing
    drew_outline t round' part f c p = by (verdict true (office xs ys corners)) refl
      where
        by : (v : Verdict) → verdict true (office xs ys corners) ≡ v → draws (office xs ys corners) limit out v ≡ writes (along xs part) (along ys part) out
        by (accepted h) v =
            let d = outline_of_draw xs ys corners limit kept rim round (sym e ∙ ap draw_answer f) in
            ap (λ (l : List ℕ). writes (along xs l) (along ys l) out) (sym (p ∙ ap (λ (l : List ℕ). used l t.ring) c ∙ d))
        by (Verdict.refused n q) v =
            let s = sym (ap draw_answer f) ∙ e ∙ ap (λ x. x.answer) (draw_refused xs ys corners limit kept rim round {n = n} {p = q} (rw room v)) in
            absurd (let z : ◌≡◌ {A = ℕ} 0 1 = cc in omega arith)
