-- `exchange::write` meets its contract.
use Rattle.std.proofs.Common.{length, not, ap, ◌∙◌, arith}
use Rattle.laws.proofs.Put.{put_front}
use Rattle.shape.specs.Writing.{polygon}
use Rattle.shape.proofs.Asking.{asking}
use Rattle.shape.proofs.Lengths.{polygon_length}
use Rattle.shape.proofs.Positions.{ring_is}
use Rattle.exchange.proofs.write.Goals as goal

pub returns-then-not-is_ring-clause-result_value : goal.returns-then-not-is_ring-clause-result_value
returns-then-not-is_ring-clause-result_value c = search asking depth 5

pub returns-then-not-are_low-clause-result_value : goal.returns-then-not-are_low-clause-result_value
returns-then-not-are_low-clause-result_value c = search asking depth 5

pub returns-then-out-size-clause-result_value : goal.returns-then-out-size-clause-result_value
returns-then-out-size-clause-result_value c = search asking depth 5

pub returns-clause-result_value : goal.returns-clause-result_value
returns-clause-result_value c = search asking depth 5

pub returns-clause-out_after : goal.returns-clause-out_after
returns-clause-out_after c =
    let xs = c.args.xs.now in
    let ys = c.args.ys.now in
    let h = ring_is (length xs) (length ys) c.is_ring.ensures (ap not c.if-not-is_ring.false) in
    c.put_polygon.ensures ∙ put_front (polygon 1 xs ys) c.args.out.now (omega (arith, polygon_length 1 xs ys h.0))
