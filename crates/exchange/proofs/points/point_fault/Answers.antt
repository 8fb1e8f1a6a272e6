-- `exchange::points::point_fault` meets its contract: the Point's byte order and type, then its position in that order.
use Rattle.std.proofs.Common.{◌+◌}
use Rattle.shape.specs.Bytes.{order_of}
use Rattle.shape.specs.Reading.{coordinates, order_at, type_asks}
use Rattle.shape.proofs.Asking.{hands_on, passes_all, stops_first}
use Rattle.exchange.proofs.points.point_fault.Goals as goal

pub returns-in_err-typed : goal.returns-in_err-typed
returns-in_err-typed c =
    let s = c.args.s.now in
    let at = c.args.at in
    stops_first (type_asks s at 1 33) (coordinates 2 (order_at s at) s (at + 5)) (order_of (order_at s at)) (tt {0}) _ _ c.in_err-typed.ensures.result_value
    (hands_on _ c.in_err-typed.field-0.0 c.from_residual.ensures.1)

pub returns : goal.returns
returns c =
    let s = c.args.s.now in
    let at = c.args.at in
    passes_all (type_asks s at 1 33) (coordinates 2 (order_at s at) s (at + 5)) (order_of (order_at s at)) (tt {0}) c.in_ok-typed.ensures.result_value c.position_fault.ensures
