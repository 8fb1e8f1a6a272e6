-- The rim sides below s are in the queue.
use Rattle.rim.specs.Code.{front}
use Rattle.rim.specs.Values.{office_of}
use Rattle.rim.proofs.Gathered.{Gathering}
use Rattle.rim.proofs.queue.Queue.of_rim.Given as goal

abbrev pub invariant-loop-s : goal.invariant-loop-s
invariant-loop-s l = Gathering (office_of l.office) (front l.office.corners.now l.kept) l.queue.places l.queue.keys l.queue.waiting l.s
