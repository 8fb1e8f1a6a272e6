-- The mates that are not stuck come in the first's place.
use native.Mathlib.Omega.{arith}
use Rattle.std.proofs.Common.{◌∙◌, ap, get_or}
use Rattle.rim.specs.Values.{plan_of}
use Rattle.rim.proofs.Plain.{plain}
use Rattle.rim.proofs.Arrivals.{stuck_marked, one_joins, two_joins, both_join}
use Rattle.rim.proofs.queue.Queue.join.Goals as goal

pub is_stuck-one-requires : goal.is_stuck-one-requires
is_stuck-one-requires c =
    let a = plain c.args.plan.now.acceptable in
    (a.corners_bound.1, a.corners_bound.2, rw (c.from.ensures, c.next_of.ensures) c.requires.s_in_bounds.1, λ s l. omega (arith, a.numbered s l, c.requires.heaped.3))

pub is_stuck-two-requires : goal.is_stuck-two-requires
is_stuck-two-requires c =
    let a = plain c.args.plan.now.acceptable in
    (a.corners_bound.1, a.corners_bound.2, rw (c.from-2.ensures, c.last_of.ensures) c.requires.s_in_bounds.2, λ s l. omega (arith, a.numbered s l, c.requires.heaped.3))

pub returns-then-one : goal.returns-then-one
returns-then-one c =
    let out = c.from.ensures ∙ ap (λ e. get_or c.args.mate.now e 0) c.next_of.ensures in
    rw c.sink.ensures.as_many
    (two_joins c.requires.heaped.1 (rw (c.keyed.ensures.0, c.last_of.ensures) at c.sink.ensures.sunk) (stuck_marked (plan_of c.args.plan.now) c.args.rim.now c.is_stuck-one.ensures out c.if-one.true))

pub returns-then-two : goal.returns-then-two
returns-then-two c =
    let into = c.from-2.ensures ∙ ap (λ e. get_or c.args.mate.now e 0) c.last_of.ensures in
    rw c.sink-2.ensures.as_many
    (one_joins c.requires.heaped.1 (rw (c.keyed-2.ensures.0, c.next_of.ensures) at c.sink-2.ensures.sunk) (stuck_marked (plan_of c.args.plan.now) c.args.rim.now c.is_stuck-two.ensures into c.if-two.true))

pub returns : goal.returns
returns c =
    rw (c.push.ensures.one_more, c.sink-2.ensures.as_many)
    (both_join c.requires.heaped.1 (rw (c.keyed-2.ensures.0, c.next_of.ensures) at c.sink-2.ensures.sunk) (rw (c.sink-2.ensures.as_many, c.keyed-3.ensures.0, c.last_of.ensures) at c.push.ensures.pushed))
