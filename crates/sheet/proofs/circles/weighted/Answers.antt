-- The numbers of the code, in the code's order. Assumes nothing.
use Rattle.std.proofs.Common.{ℤ, ◌≤◌, nat_abs, w64}
use Rattle.laws.proofs.Exact.{Num, held, plus, times}
use Rattle.sheet.proofs.circles.weighted.Goals as goal

abbrev product : (x y : ℤ) → nat_abs x ≤ 536805378 → nat_abs y ≤ 536805378 → Num w64
product x y h k = times (held 536805378 x h tt) (held 536805378 y k tt) tt

abbrev two : (c : goal.Start) → Num w64
two c = plus (product c.args.a c.args.u c.requires.a_bound.0 c.requires.u_bound.0) (product c.args.b c.args.v c.requires.a_bound.1 c.requires.u_bound.1) tt

abbrev third : (c : goal.Start) → Num w64
third c = product c.args.c c.args.w c.requires.a_bound.2 c.requires.u_bound.2

pub overflow_add-result : goal.overflow_add-result
overflow_add-result c = (two c).fit

pub overflow_mul-result-3 : goal.overflow_mul-result-3
overflow_mul-result-3 c = (third c).fit

pub overflow_add-result-2 : goal.overflow_add-result-2
overflow_add-result-2 c = (plus (two c) (third c) tt).fit

pub returns : goal.returns
returns c = (plus (two c) (third c) tt).reads
