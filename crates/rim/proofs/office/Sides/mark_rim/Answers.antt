-- The sides below the next are marked too.
use native.Mathlib.Omega.{arith}
use Rattle.rim.proofs.Begun.{marks_one, marks_all}
use Rattle.rim.proofs.office.Sides.mark_rim.Goals as goal

pub mark_side-requires : goal.mark_side-requires
mark_side-requires c = (c.loop-s-test.true, c.requires.0, λ s l. omega (arith, c.requires.2 s l, c.loop-s.invariant.room))

pub loop-s-preserved : goal.loop-s-preserved
loop-s-preserved c = marks_one _ _ _ _ _ _ c.args.self.now.whole c.requires.2 c.loop-s.invariant c.loop-s-test.true _ c.mark_side.ensures

pub returns : goal.returns
returns c = marks_all _ _ _ _ _ _ _ c.requires.1 c.fill.ensures c.loop-s.invariant c.loop-s-test.false
