-- Each step peels one, and makes an entry where it is shorter than all before, or is the last.
use Rattle.rim.proofs.Joining.{all_fit}
use Rattle.peel.proofs.Onward.{draws, draws_on, falls, drew}
use Rattle.peel.proofs.Noting.{notes, notes_one, notes_none, noted, shorter_there, final_there}
use Rattle.peel.proofs.listing.list_all.Goals as goal

pub of_rim-queue-requires : goal.of_rim-queue-requires
of_rim-queue-requires c = let p = c.requires.state in (p.held.room, all_fit p)

pub loop-least-init : goal.loop-least-init
loop-least-init c =
    let p = c.requires.state in
    record { drawing = draws _ p; noting = notes p.held.acceptable _ _ _ _ _ c.requires.peeled_in_bounds; waits = c.of_rim-queue.ensures }

pub note-requires : goal.note-requires
note-requires c = let i = c.loop-least.invariant in final_there i.drawing.state c.step-answer.ensures.stepped i.noting c.in-Nothing.is

pub returns-in-Nothing-clause-drew : goal.returns-in-Nothing-clause-drew
returns-in-Nothing-clause-drew c = drew c.loop-least.invariant.drawing c.step-answer.ensures.stepped c.in-Nothing.is

pub returns-in-Nothing-clause-noted : goal.returns-in-Nothing-clause-noted
returns-in-Nothing-clause-noted c =
    let i = c.loop-least.invariant in
    rw (c.note.ensures.0, c.note.ensures.1, c.note.ensures.2) (noted i.drawing.state c.step-answer.ensures.stepped i.noting c.in-Nothing.is)

pub note-requires-then-squared-shortest : goal.note-requires-then-squared-shortest
note-requires-then-squared-shortest c = let i = c.loop-least.invariant in shorter_there i.drawing.state c.step-answer.ensures.stepped i.noting _ _ c.in-Peeled.is c.if-squared-shortest.true

pub loop-least-smaller-then-squared-shortest : goal.loop-least-smaller-then-squared-shortest
loop-least-smaller-then-squared-shortest c = falls c.loop-least.invariant.drawing c.step-answer.ensures.stepped _ _ c.in-Peeled.is

pub loop-least-preserved-then-squared-shortest : goal.loop-least-preserved-then-squared-shortest
loop-least-preserved-then-squared-shortest c =
    let i = c.loop-least.invariant in
    let g = c.step-answer.ensures.stepped in
    rw (c.note-then-squared-shortest.ensures.0, c.note-then-squared-shortest.ensures.1, c.note-then-squared-shortest.ensures.2) (record {
      drawing = draws_on i.drawing g _ _ c.in-Peeled.is;
      noting = notes_one i.drawing.state g i.noting _ _ c.in-Peeled.is c.if-squared-shortest.true;
      waits = c.step-answer.ensures.queued;
    })

pub loop-least-smaller : goal.loop-least-smaller
loop-least-smaller c = falls c.loop-least.invariant.drawing c.step-answer.ensures.stepped _ _ c.in-Peeled.is

pub loop-least-preserved : goal.loop-least-preserved
loop-least-preserved c =
    let i = c.loop-least.invariant in
    let g = c.step-answer.ensures.stepped in
    record {
      drawing = draws_on i.drawing g _ _ c.in-Peeled.is;
      noting = notes_none i.drawing.state g i.noting _ _ c.in-Peeled.is c.if-squared-shortest.false;
      waits = c.step-answer.ensures.queued;
    }
