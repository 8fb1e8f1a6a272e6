-- The numbers of the code, in the code's order. Assumes nothing.
use mir.Syntax.{w32}
use Rattle.laws.proofs.Exact.{Num, apart, minus, times}
use Rattle.sheet.specs.Plane.{turn}
use Rattle.sheet.specs.declared.spots.Spot.{Spot}
use Rattle.sheet.proofs.plane.turn.Goals as goal

module _ (a b c : Spot) where
  abbrev first : Num w32
  first = times (apart 16383 _ _ b.small.0 a.small.0 tt) (apart 16383 _ _ c.small.1 a.small.1 tt) tt

  abbrev second : Num w32
  second = times (apart 16383 _ _ b.small.1 a.small.1 tt) (apart 16383 _ _ c.small.0 a.small.0 tt) tt

  abbrev all : Num w32
  all = minus first second tt

pub overflow_mul-result : goal.overflow_mul-result
overflow_mul-result c = (first c.args.a c.args.b c.args.c).fit

pub overflow_mul-result-2 : goal.overflow_mul-result-2
overflow_mul-result-2 c = (second c.args.a c.args.b c.args.c).fit

pub overflow_sub-result-5 : goal.overflow_sub-result-5
overflow_sub-result-5 c = (all c.args.a c.args.b c.args.c).fit

pub returns : goal.returns
unfolding turn
returns c = (all c.args.a c.args.b c.args.c).reads
