-- What is left to peel gives the whole's answer.
use Rattle.std.proofs.Common.{◌-◌, ◌/◌, length}
use Rattle.rim.specs.Code.{front}
use Rattle.rim.specs.Values.{office_of, Waits}
use Rattle.peel.proofs.Onward.{Drawing}
use Rattle.peel.proofs.drawing.peel_all.Given as goal

abbrev pub invariant-loop-tally : goal.invariant-loop-tally
invariant-loop-tally l = record {
  drawing : Drawing (office_of l.office) l.limit l.office.mate.now l.initial.kept l.initial.rim l.initial.tally.peeled l.kept l.rim l.tally.peeled l.tally.area l.tally.ring;
  waits : Waits (office_of l.office) (front l.office.corners.now l.kept) l.queue;
}

abbrev pub decreases-loop-tally : goal.decreases-loop-tally
decreases-loop-tally l = length l.office.corners.now / 3 - l.tally.peeled
