-- No sum is above the area of the whole.
use native.Mathlib.Omega.{arith}
use Rattle.rim.proofs.Plain.{plain}
use Rattle.rim.proofs.Begun.{sums_none, sums_one, summed, sum_fits}
use Rattle.rim.proofs.office.Plan.area_all.Goals as goal

pub loop-t-init : goal.loop-t-init
loop-t-init c = sums_none _

pub overflow_add-total : goal.overflow_add-total
overflow_add-total c = omega (arith, sum_fits (plain c.args.self.now.acceptable) (sums_one c.loop-t.invariant c.loop-t-test.true c.area_of-total.ensures))

pub loop-t-preserved : goal.loop-t-preserved
loop-t-preserved c = sums_one c.loop-t.invariant c.loop-t-test.true c.area_of-total.ensures

pub returns : goal.returns
returns c = summed c.loop-t.invariant c.loop-t-test.false
