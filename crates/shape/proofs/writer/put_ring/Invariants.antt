-- `shape::writer::put_ring`: what is left to put makes the output what the whole makes of it.
use Rattle.shape.proofs.Positions.{Putting}
use Rattle.shape.proofs.writer.put_ring.Given as goal

abbrev pub invariant-loop-i : goal.invariant-loop-i
invariant-loop-i l = Putting l.xs l.ys l.initial.out l.i l.out
