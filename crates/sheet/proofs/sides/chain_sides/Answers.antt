-- One more side at a time. Assumes nothing.
use Rattle.std.proofs.Common.{◌<◌, arith}
use Rattle.sheet.proofs.Chain.{chains_none, chains_one}
use Rattle.sheet.proofs.sides.chain_sides.Goals as goal

pub loop-s-init : goal.loop-s-init
loop-s-init c = chains_none _ _

pub loop-s-preserved : goal.loop-s-preserved
loop-s-preserved c =
    let low : c.from-p.result < 1024 = omega (arith, c.from-p.ensures, c.requires.0 c.loop-s.s c.loop-s-test.true) in
    chains_one c.loop-s.invariant _ c.from-p.ensures low c.loop-s-test.true c.requires.1
