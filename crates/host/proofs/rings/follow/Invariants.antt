-- `host::rings::follow`: each coordinate below the index is that of the point at its place in the ring.
use Rattle.std.proofs.Common.{length, get_or}
use Rattle.laws.proofs.Fill.{Filled}
use Rattle.host.proofs.rings.follow.Given as goal

abbrev pub invariant-loop-i : goal.invariant-loop-i
invariant-loop-i l = Filled (λ k. get_or l.coordinates (get_or l.ring k 0) 0) (length l.followed) (length l.followed) l.followed l.i
