-- A side sinks as the leader of those under it moves up.
use Rattle.std.proofs.Common.{◌≡◌, ◌-◌}
use Rattle.rim.specs.Values.{plan_of}
use Rattle.rim.proofs.Sinking.{Sinking}
use Rattle.rim.proofs.queue.Queue.sink.Given as goal

abbrev pub invariant-loop-c : goal.invariant-loop-c
invariant-loop-c l = record { sinking : Sinking (plan_of l.plan) l.initial.self.places l.self.places l.self.keys l.self.waiting l.side.side l.i l.c; as_many : l.self.waiting ≡ l.initial.self.waiting }

abbrev pub decreases-loop-c : goal.decreases-loop-c
decreases-loop-c l = l.self.waiting - l.i
