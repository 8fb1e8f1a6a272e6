-- `shape::coordinates::on_grid` meets its contract: the float of the whole part has x's own pattern just where x is on the grid (`patterns`),
-- and a float on the grid passes both tests (`above`, `below`).
use lib.Ieee.{of_bits, neg, to_bits, of_int, binary64, in_unsigned}
use Rattle.shape.proofs.Floats.{holds, fails, no_test, small_fits, comes_back, finite_no_nan, above, below, looser, part_lt, patterns}
use Rattle.shape.proofs.coordinates.on_grid.Goals as goal
use Rattle.shape.proofs.coordinates.on_grid.Goals.{else-x-via-then-x+else-x-2, else-x-via-else-x}

pub truncating_f64_to_u64-n-requires-clause-lower_bound : goal.truncating_f64_to_u64-n-requires-clause-lower_bound
unfolding of_bits neg
truncating_f64_to_u64-n-requires-clause-lower_bound c = holds c.if-x.true

pub truncating_f64_to_u64-n-requires-clause-upper_bound : goal.truncating_f64_to_u64-n-requires-clause-upper_bound
unfolding of_bits
truncating_f64_to_u64-n-requires-clause-upper_bound c = looser c.args.x (holds c.if-x-2.true)

pub int_to_float-result : goal.int_to_float-result
unfolding of_bits
int_to_float-result c = rw c.truncating_f64_to_u64-n.ensures (small_fits _ (part_lt c.args.x (holds c.if-x-2.true)))

pub float_to_bits-result : goal.float_to_bits-result
unfolding of_bits
float_to_bits-result c =
    let x = c.args.x in
    rw c.truncating_f64_to_u64-n.ensures
    (finite_no_nan 64 _ (comes_back 64 _ (part_lt x (holds c.if-x-2.true)) (lib.Ieee.Casts.to_unsigned-lt 64 x)).0)

pub returns-then-x-2 : goal.returns-then-x-2
unfolding of_bits
returns-then-x-2 c =
    rw c.truncating_f64_to_u64-n.ensures (patterns c.args.x (holds c.well_formed.0.1) (holds c.if-x-2.true))

pub returns : goal.returns
unfolding of_bits neg
returns c =
    let x = c.args.x in
    no_test (in_unsigned binary64 14 x)
    (λ t.
    elim c.else-x.branch [
      | else-x-via-then-x+else-x-2 w ↦ fails w.if-x-2.false (below x t)
      | else-x-via-else-x w ↦ fails w.if-x.false (above x t)
    ])
