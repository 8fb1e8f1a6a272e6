-- What `outline` gives: of a draw's answer the outline itself, of a tally that claims more than the buffer holds nothing. Assumes nothing.
use mathlib.Core.Path.{◌≡◌, refl, sym, ap, ◌∙◌}
use mathlib.Core.Bool.{cond}
use mathlib.Core.List.{List, [], ◌++◌}
use Prim.Native.Nat.{ℕ, ◌<◌, ◌≤◌}
use native.Mathlib.Omega.{arith}
use lib.ListN.{length, take, drop, length-append}
use lib.Seq.{take_at}
use borrow.Author.Tests.{le-leb, lt-leb}
use Rattle.laws.specs.First.{first}
use Rattle.laws.proofs.Walk.{length-walk}
use Rattle.sheet.specs.Office.{Office, office, points}
use Rattle.sheet.specs.Verdict.{Verdict, accepted, refused, verdict}
use Rattle.rim.specs.Peel.{on_rim, rims, after, ring, drawn}
use Rattle.peel.specs.Answer.{tally, drawing, draw_room, after_draw, used}
use Rattle.peel.proofs.Outcomes.{draw_given, draw_refused}

-- a tally that claims too much gets the empty part
pub claims_too_much : (round : List ℕ) (sides : ℕ) → length round < sides → used round sides ≡ []
claims_too_much round sides l = ap (λ b. cond b (take sides round) []) (lt-leb sides (length round) l)

-- any other gets as many points as it claims, from the front
pub claims_enough : (round : List ℕ) (sides : ℕ) → sides ≤ length round → used round sides ≡ take sides round
claims_enough round sides l = ap (λ b. cond b (take sides round) []) (le-leb sides (length round) l)

pub ring_sides : (o : Office) (k : List ℕ) → length (ring o k) ≡ rims o k
unfolding ring
ring_sides o k = length-walk (after o k) (first (on_rim o k) (points o)) (rims o k)

pub used_front : (front rest : List ℕ) (n : ℕ) → length front ≡ n → used (front ++ rest) n ≡ front
used_front front rest n e = claims_enough (front ++ rest) n (let h = length-append front rest in omega arith) ∙ take_at front rest n e

-- where a draw answers a tally, the used part of the ring buffer is the outline
pub outline_of_draw : (xs ys corners : List ℕ) (limit : ℕ) (kept rim round : List ℕ) {p a m : ℕ} → (after_draw xs ys corners limit kept rim round).answer ≡ tally p a m
    → used (after_draw xs ys corners limit kept rim round).ring m ≡ ring (office xs ys corners) (drawn (office xs ys corners) limit)
unfolding drawing
outline_of_draw xs ys corners limit kept rim round {p} {a} {m} e = by (verdict (draw_room o kept rim round) o) refl
  where
    o : Office
    o = office xs ys corners

    by : (v : Verdict) → verdict (draw_room o kept rim round) o ≡ v → used (after_draw xs ys corners limit kept rim round).ring m ≡ ring o (drawn o limit)
    by (accepted h) v =
        let g = draw_given xs ys corners limit kept rim round v in
        let t = sym (ap (λ x. x.answer) g) ∙ e in
        let z : m ≡ rims o (drawn o limit) = cc in
        ap (λ x. used x.ring m) g ∙ used_front (ring o (drawn o limit)) (drop (rims o (drawn o limit)) round) m (ring_sides o (drawn o limit) ∙ sym z)
    by (refused n q) v =
        let g = draw_refused xs ys corners limit kept rim round v in
        let t = sym (ap (λ x. x.answer) g) ∙ e in
        absurd (let z : ◌≡◌ {A = ℕ} 0 1 = cc in omega arith)
