-- What is left to list gives the whole list.
use Rattle.std.proofs.Common.{◌-◌, ◌/◌, length}
use Rattle.rim.specs.Code.{front}
use Rattle.rim.specs.Values.{office_of, Waits}
use Rattle.peel.specs.Code.{entries_on}
use Rattle.peel.proofs.Onward.{Drawing}
use Rattle.peel.proofs.Noting.{Noting}
use Rattle.peel.proofs.listing.list_all.Given as goal

abbrev pub invariant-loop-least : goal.invariant-loop-least
invariant-loop-least l = record {
  drawing : Drawing (office_of l.office) 0 l.office.mate.now l.initial.kept l.initial.rim l.initial.tally.peeled l.kept l.rim l.tally.peeled l.tally.area l.tally.ring;
  noting : Noting (office_of l.office) (entries_on (office_of l.office) l.initial.kept l.initial.tally.peeled) l.kept l.tally.peeled l.shortest l.count l.initial.least l.initial.peeled l.initial.area l.least l.peeled l.area;
  waits : Waits (office_of l.office) (front l.office.corners.now l.kept) l.queue;
}

abbrev pub decreases-loop-least : goal.decreases-loop-least
decreases-loop-least l = length l.office.corners.now / 3 - l.tally.peeled
