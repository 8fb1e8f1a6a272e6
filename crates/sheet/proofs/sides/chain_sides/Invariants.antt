use Rattle.sheet.proofs.Chain.{Chaining}
use Rattle.sheet.proofs.sides.chain_sides.Given as goal

abbrev pub invariant-loop-s : goal.invariant-loop-s
invariant-loop-s l = Chaining 6129 l.corners l.earlier l.latest l.s
