-- The best side is peeled where it is longer than the limit.
use native.Mathlib.Omega.{arith}
use Rattle.std.proofs.Common.{length-set}
use Rattle.rim.proofs.Stepping.{nothing_left, nothing_above, side_there, area_there, peels_there, ring_there, peels_one}
use Rattle.rim.proofs.Joining.{all_fit, some_wait, one_more_fits, outward_there, inward_there, queued_after}
use Rattle.rim.proofs.step.step.Goals as goal

pub next_side-requires : goal.next_side-requires
next_side-requires c = let p = c.requires in (p.0.held, omega (arith, p.1.few, all_fit p.0), p.1)

pub join-requires-clause-heaped : goal.join-requires-clause-heaped
join-requires-clause-heaped c =
    let n = c.next_side.ensures in
    let p = c.requires.0 in
    (n.queued.heap, some_wait p n c.in-Some.is, one_more_fits p n c.in-Some.is, simp length-set p.held.places)

pub join-requires-clause-s_in_bounds : goal.join-requires-clause-s_in_bounds
join-requires-clause-s_in_bounds c =
    let n = c.next_side.ensures in
    let p = c.requires.0 in
    (side_there _ 0 _ _ _ _ _ _ p _ n.is_best c.in-Some.is, outward_there p n c.in-Some.is, inward_there p n c.in-Some.is)

pub overflow_sub-tally : goal.overflow_sub-tally
overflow_sub-tally c = omega (arith, area_there _ 0 _ _ _ _ _ _ c.requires.0 _ c.next_side.ensures.is_best c.in-Some.is, c.area_of-gone.ensures)

pub overflow_add-tally : goal.overflow_add-tally
overflow_add-tally c = omega (arith, ring_there _ 0 _ _ _ _ _ _ c.requires.0 _ c.next_side.ensures.is_best c.in-Some.is, c.requires.0.held.acceptable.points_bound)

pub after_peel-after-requires : goal.after_peel-after-requires
after_peel-after-requires c = omega (arith, peels_there _ 0 _ _ _ _ _ _ c.requires.0 _ c.next_side.ensures.is_best c.in-Some.is, c.requires.0.held.acceptable.corners_bound)

pub returns-in-Some-clause-stepped : goal.returns-in-Some-clause-stepped
returns-in-Some-clause-stepped c =
    rw (c.from-apex.ensures, c.last_of.ensures)
    (peels_one _ _ _ _ _ _ _ _ c.requires.0 _ c.next_side.ensures.is_best c.in-Some.is c.if-side-limit.true c.area_of-gone.ensures c.after_peel-after.ensures)

pub returns-in-Some-clause-queued : goal.returns-in-Some-clause-queued
returns-in-Some-clause-queued c = queued_after c.requires.0 c.next_side.ensures c.in-Some.is (rw (c.from-apex.ensures, c.last_of.ensures) at c.join.ensures)

pub returns-in_default-clause-stepped : goal.returns-in_default-clause-stepped
returns-in_default-clause-stepped c = nothing_above _ _ _ _ _ _ _ _ c.requires.0 _ c.next_side.ensures.is_best c.in-Some.is c.if-side-limit.false

pub returns-in_default-2-clause-stepped : goal.returns-in_default-2-clause-stepped
returns-in_default-2-clause-stepped c = nothing_left _ _ _ _ _ _ _ _ c.requires.0 c.next_side.ensures.is_best c.in_default.is
