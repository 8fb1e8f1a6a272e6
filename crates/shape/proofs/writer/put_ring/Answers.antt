-- `shape::writer::put_ring` meets its contract.
use Rattle.std.proofs.Common.{arith}
use Rattle.shape.proofs.Floats.{number_no_nan}
use Rattle.shape.proofs.Positions.{placed, putting_next, putting_last}
use Rattle.shape.proofs.writer.put_ring.Goals as goal

pub put_position-requires-clause-x_is_number : goal.put_position-requires-clause-x_is_number
put_position-requires-clause-x_is_number c = rw c.position_of.ensures.0 (number_no_nan _)

pub put_position-requires-clause-y_is_number : goal.put_position-requires-clause-y_is_number
put_position-requires-clause-y_is_number c = rw c.position_of.ensures.1 (number_no_nan _)

pub put_position-requires-2-clause-x_is_number : goal.put_position-requires-2-clause-x_is_number
put_position-requires-2-clause-x_is_number c = rw c.position_of-2.ensures.0 (number_no_nan _)

pub put_position-requires-2-clause-y_is_number : goal.put_position-requires-2-clause-y_is_number
put_position-requires-2-clause-y_is_number c = rw c.position_of-2.ensures.1 (number_no_nan _)

pub loop-i-preserved : goal.loop-i-preserved
loop-i-preserved c =
    let p = c.position_of in
    putting_next c.args.xs.now c.args.ys.now c.args.out.now c.requires.xs_len c.loop-i.out c.put_position.new.out c.loop-i.i c.loop-i-test.true
    (placed _ _ _ _ _ p.result.x p.result.y p.ensures.0 p.ensures.1 c.put_position.ensures) c.loop-i.invariant

pub returns : goal.returns
returns c =
    let p = c.position_of-2 in
    putting_last c.args.xs.now c.args.ys.now c.args.out.now c.requires.xs_len c.loop-i.out c.put_position-2.new.out c.loop-i.i (omega arith) c.loop-i.invariant
    (placed _ _ _ _ _ p.result.x p.result.y p.ensures.0 p.ensures.1 c.put_position-2.ensures)
