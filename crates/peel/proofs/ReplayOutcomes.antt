-- Document 02, 5/13: what a replay comes to, and leaves in the lent lists, with steps back or none; a draw's own log comes to the draw, for every
-- office. Assumes nothing.
use mathlib.Core.Path.{◌≡◌, refl, sym, ap, ◌∙◌}
use mathlib.Core.Logic.{◌↔◌, ◌⊎◌, inl, inr}
use mathlib.Core.Bool.{Bool, true}
use mathlib.Core.List.{List}
use Prim.Native.Nat.{ℕ, ◌-◌, ◌≤◌}
use native.Mathlib.Omega.{arith}
use lib.ListN.{length}
use Rattle.sheet.specs.Office.{Office, office, rims}
use Rattle.sheet.specs.Verdict.{Verdict, accepted, refused, verdict}
use Rattle.sheet.specs.Acceptable.{Acceptable}
use Rattle.sheet.proofs.Accepted.{accepted_lent}
use Rattle.rim.specs.Peel.{whole}
use Rattle.peel.specs.History.{history, without}
use Rattle.peel.specs.Outcome.{draws, refuses, outcome}
use Rattle.peel.specs.Log.{log, Replay, accepts, faults, replay, marks_after, stepped_back, by_check, replay_outcome}
use Rattle.peel.specs.Answer.{drawing, draw_room, after_draw}
use Rattle.peel.specs.LogAnswer.{after_replay}
use Rattle.peel.proofs.Outcomes.{draws_iff, refuses_iff}
use Rattle.peel.proofs.PeelLog.{own_log, own_marks}

-- of any office: a replay gives marks exactly where there is room, the office is acceptable, and the log is accepted
pub replays_iff : (room : Bool) (o : Office) (bytes : List ℕ) (back : ℕ) (k : List ℕ)
    → (replay_outcome room o bytes back ≡ draws k) ↔ ((room ≡ true) × Acceptable o × (n : ℕ) × (replay o bytes ≡ accepts n) × (k ≡ marks_after o (n - back)))
unfolding replay_outcome by_check stepped_back
replays_iff room o bytes back k = (
  (λ e. to (verdict room o) refl e),
  (λ (t, a, n, e, z). ap (by_check o bytes back) ((accepted_lent room o (rims o)).1 (t, a, refl)) ∙ ap (stepped_back o back) e ∙ ap draws (sym z)),
)
  where
    given : (r : Replay) → replay o bytes ≡ r → stepped_back o back r ≡ draws k → (n : ℕ) × (replay o bytes ≡ accepts n) × (k ≡ marks_after o (n - back))
    given (accepts n) e f = (n, e, cc)
    given (faults i p) e f = absurd (let z : ◌≡◌ {A = ℕ} 0 1 = cc in omega arith)

    to : (v : Verdict) → verdict room o ≡ v → by_check o bytes back v ≡ draws k → (room ≡ true) × Acceptable o × (n : ℕ) × (replay o bytes ≡ accepts n) × (k ≡ marks_after o (n - back))
    to (accepted m) e f = let (t, a, _) = (accepted_lent room o m).0 e in let (n, x, y) = given (replay o bytes) refl f in (t, a, n, x, y)
    to (refused i p) e f = absurd (let z : ◌≡◌ {A = ℕ} 0 1 = cc in omega arith)

-- and refuses as the check does, or else as the log is refused
pub replay_refuses_iff : (room : Bool) (o : Office) (bytes : List ℕ) (back number place : ℕ)
    → (replay_outcome room o bytes back ≡ refuses number place) ↔ ((verdict room o ≡ refused number place) ⊎ ((room ≡ true) × Acceptable o × (replay o bytes ≡ faults number place)))
unfolding replay_outcome by_check stepped_back
replay_refuses_iff room o bytes back number place = ((λ e. to (verdict room o) refl e), from)
  where
    given : (r : Replay) → stepped_back o back r ≡ refuses number place → r ≡ faults number place
    given (accepts n) f = absurd (let z : ◌≡◌ {A = ℕ} 0 1 = cc in omega arith)
    given (faults i p) f = cc

    to : (v : Verdict) → verdict room o ≡ v → by_check o bytes back v ≡ refuses number place → (v ≡ refused number place) ⊎ ((room ≡ true) × Acceptable o × (replay o bytes ≡ faults number place))
    to (accepted m) e f = let (t, a, _) = (accepted_lent room o m).0 e in inr (t, a, given (replay o bytes) f)
    to (refused i p) e f = inl cc

    from : (verdict room o ≡ refused number place) ⊎ ((room ≡ true) × Acceptable o × (replay o bytes ≡ faults number place)) → by_check o bytes back (verdict room o) ≡ refuses number place
    from (inl e) = ap (by_check o bytes back) e
    from (inr (t, a, e)) = ap (by_check o bytes back) ((accepted_lent room o (rims o)).1 (t, a, refl)) ∙ ap (stepped_back o back) e

-- past the start: the whole triangulation
pub past_start : (o : Office) (n back : ℕ) → n ≤ back → stepped_back o back (accepts n) ≡ draws (whole o)
unfolding stepped_back without
past_start o n back l = ap (λ m. draws (marks_after o m)) (let z : n - back ≡ 0 = omega arith in z)

-- a draw's own log comes to the draw
pub own_replay : (room : Bool) (o : Office) (limit : ℕ) → replay_outcome room o (log o limit) 0 ≡ outcome room o limit
own_replay room o limit = step (verdict room o) refl
  where
    step : (v : Verdict) → verdict room o ≡ v → replay_outcome room o (log o limit) 0 ≡ outcome room o limit
    step (accepted m) e =
        let (t, a, _) = (accepted_lent room o m).0 e in
        let z : length (history o limit) ≡ length (history o limit) - 0 = omega arith in
        (replays_iff room o (log o limit) 0 (marks_after o (length (history o limit)))).1 (t, a, length (history o limit), own_log a limit, ap (marks_after o) z)
        ∙ sym ((draws_iff room o limit (marks_after o (length (history o limit)))).1 (t, a, own_marks a limit))
    step (refused number place) e = (replay_refuses_iff room o (log o limit) 0 number place).1 (inl e) ∙ sym ((refuses_iff room o limit number place).1 e)

-- the second computer: the same answer, and the same lent lists
pub replayed_elsewhere : (xs ys corners : List ℕ) (limit : ℕ) (kept rim round : List ℕ)
    → after_replay xs ys corners (log (office xs ys corners) limit) 0 kept rim round ≡ after_draw xs ys corners limit kept rim round
unfolding after_replay after_draw
replayed_elsewhere xs ys corners limit kept rim round =
    ap (λ x. drawing (office xs ys corners) x kept rim round) (own_replay (draw_room (office xs ys corners) kept rim round) (office xs ys corners) limit)
