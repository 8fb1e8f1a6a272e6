-- The last comes in the first's place, or there is no other.
use Rattle.rim.proofs.Sinking.{pops, pops_only}
use Rattle.rim.proofs.queue.Queue.drop_first.Goals as goal

pub returns-then-self-gt0-clause-popped : goal.returns-then-self-gt0-clause-popped
returns-then-self-gt0-clause-popped c = pops c.requires.0 c.requires.1 (rw c.at-last.ensures.0 at c.sink.ensures.sunk)

pub returns-else-self-gt0-clause-popped : goal.returns-else-self-gt0-clause-popped
returns-else-self-gt0-clause-popped c = pops_only c.requires.0 c.requires.1 c.if-self-gt0.false
