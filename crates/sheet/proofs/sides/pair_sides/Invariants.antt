use Rattle.sheet.proofs.Pairing.{Paired}
use Rattle.sheet.proofs.sides.pair_sides.Given as goal

abbrev pub invariant-loop-p : goal.invariant-loop-p
invariant-loop-p l = Paired l.corners l.fn.mate l.noted l.mate l.p
