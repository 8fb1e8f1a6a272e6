-- Sides that are not removable any more are dropped.
use Rattle.std.proofs.Common.{◌≤◌}
use Rattle.rim.specs.Code.{front}
use Rattle.rim.specs.Values.{office_of, Waits}
use Rattle.rim.proofs.queue.Queue.next_side.Given as goal

abbrev pub invariant-loop-self : goal.invariant-loop-self
invariant-loop-self l = Waits (office_of l.office) (front l.office.corners.now l.kept) l.self × (l.self.waiting ≤ 1024)

abbrev pub decreases-loop-self : goal.decreases-loop-self
decreases-loop-self l = l.self.waiting
