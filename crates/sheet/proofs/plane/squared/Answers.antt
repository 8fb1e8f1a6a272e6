-- The numbers of the code, in the code's order. Assumes nothing.
use Rattle.std.proofs.Common.{◌≡◌, nat_abs, sym, ap, subst, ◌∙◌, arith, w32, to_z}
use lib.Dec.{T}
use lib.Signed.{non_neg}
use Rattle.laws.proofs.Exact.{Num, apart, plus, times}
use Rattle.sheet.specs.Plane.{squared}
use Rattle.sheet.specs.Values.{at}
use Rattle.sheet.specs.declared.spots.Spot.{Spot}
use Rattle.sheet.proofs.Length.{squared_whole, squared_bound}
use Rattle.sheet.proofs.plane.squared.Goals as goal

module _ (a b : Spot) where
  abbrev all : Num w32
  all =
      let x = apart 16383 _ _ b.small.0 a.small.0 tt in
      let y = apart 16383 _ _ b.small.1 a.small.1 tt in
      plus (times x x tt) (times y y tt) tt

  reads : to_z w32 all.bits ≡ squared (at a) (at b)
  unfolding squared
  reads = all.reads

pub overflow_add-result : goal.overflow_add-result
overflow_add-result c = (all c.args.a c.args.b).fit

pub overflow_cast-result : goal.overflow_cast-result
overflow_cast-result c =
    let a = c.args.a in
    let b = c.args.b in
    (subst (λ z. T (non_neg z)) (squared_whole (at a) (at b) ∙ sym (reads a b)) tt, omega (arith, ap nat_abs (reads a b), squared_bound (at a) (at b) a.small b.small))

pub returns : goal.returns
returns c = ap nat_abs (reads c.args.a c.args.b)
