-- A side rises as those above it move down.
use Rattle.std.proofs.Common.{◌≡◌}
use Rattle.rim.specs.Values.{plan_of}
use Rattle.rim.proofs.Rising.{Rising}
use Rattle.rim.proofs.queue.Queue.push.Given as goal

abbrev pub invariant-loop-i : goal.invariant-loop-i
invariant-loop-i l = record { rising : Rising (plan_of l.plan) l.initial.self.places l.self.places l.self.keys l.initial.self.waiting l.side.side l.i; as_many : l.self.waiting ≡ l.initial.self.waiting }

abbrev pub decreases-loop-i : goal.decreases-loop-i
decreases-loop-i l = l.i
