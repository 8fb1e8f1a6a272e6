-- `shape::writer::is_low`: what is left to ask has the answer of the whole.
use Rattle.std.proofs.Common.{◌≡◌, length}
use Rattle.shape.specs.Writing.{low}
use Rattle.shape.proofs.writer.is_low.Given as goal

abbrev pub invariant-loop-rest : goal.invariant-loop-rest
invariant-loop-rest l = low l.rest ≡ low l.x

abbrev pub decreases-loop-rest : goal.decreases-loop-rest
decreases-loop-rest l = length l.rest
