-- Each step peels one, or is the last.
use Rattle.rim.proofs.Joining.{all_fit}
use Rattle.peel.proofs.Onward.{draws_on, falls, drew}
use Rattle.peel.proofs.drawing.peel_all.Goals as goal

pub of_rim-queue-requires : goal.of_rim-queue-requires
of_rim-queue-requires c = let p = c.requires in (p.held.room, all_fit p)

pub returns-in-Nothing : goal.returns-in-Nothing
returns-in-Nothing c = drew c.loop-tally.invariant.drawing c.step-answer.ensures.stepped c.in-Nothing.is

pub loop-tally-smaller : goal.loop-tally-smaller
loop-tally-smaller c = falls c.loop-tally.invariant.drawing c.step-answer.ensures.stepped _ _ c.in-Peeled.is

pub loop-tally-preserved : goal.loop-tally-preserved
loop-tally-preserved c = record {
  drawing = draws_on c.loop-tally.invariant.drawing c.step-answer.ensures.stepped _ _ c.in-Peeled.is;
  waits = c.step-answer.ensures.queued;
}
