-- The numbers of the code, in the code's order. Assumes nothing.
use mir.Syntax.{w32}
use Rattle.laws.proofs.Exact.{Num, apart, plus, times}
use Rattle.sheet.specs.declared.spots.Spot.{Spot}
use Rattle.sheet.proofs.plane.dot.Goals as goal

abbrev all : (p a b : Spot) → Num w32
all p a b =
    plus (times (apart 16383 _ _ a.small.0 p.small.0 tt) (apart 16383 _ _ b.small.0 p.small.0 tt) tt)
    (times (apart 16383 _ _ a.small.1 p.small.1 tt) (apart 16383 _ _ b.small.1 p.small.1 tt) tt) tt

pub overflow_add-result : goal.overflow_add-result
overflow_add-result c = (all c.args.p c.args.a c.args.b).fit

pub returns : goal.returns
returns c = (all c.args.p c.args.a c.args.b).reads
