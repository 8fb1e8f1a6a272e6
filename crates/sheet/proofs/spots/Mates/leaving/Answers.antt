-- From the last side down. Assumes nothing.
use Rattle.std.proofs.Common.{refl, arith}
use Rattle.sheet.proofs.Leaving.{seen_none, seen_all}
use Rattle.sheet.proofs.spots.Mates.leaving.Goals as goal

pub loop-s-init : goal.loop-s-init
loop-s-init c = seen_none c.args.self.now.corners.now refl

pub returns : goal.returns
returns c = seen_all c.loop-s.invariant (omega (arith, c.loop-s-test.false))
