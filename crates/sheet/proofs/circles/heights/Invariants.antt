use Rattle.std.proofs.Common.{length}
use Rattle.laws.proofs.Fill.{Filled}
use Rattle.sheet.specs.Code.{height}
use Rattle.sheet.proofs.circles.heights.Given as goal

abbrev pub invariant-loop-p : goal.invariant-loop-p
invariant-loop-p l = Filled (height l.plot.xs.now l.plot.ys.now) (length l.plot.xs.now) 1024 l.list l.p
