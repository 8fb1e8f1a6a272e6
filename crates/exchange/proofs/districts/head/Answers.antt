-- `exchange::districts::head` meets its contract: the byte order and the type, then the count.
use Rattle.std.proofs.Common.{not, ap}
use Rattle.shape.proofs.Asking.{hands_on, refuses}
use Rattle.exchange.proofs.DistrictFiles.{type_refused, no_count, other_count, no_places, head_read}
use Rattle.exchange.proofs.districts.head.Goals as goal

pub returns-in_err-order : goal.returns-in_err-order
returns-in_err-order c = type_refused c.args.s.now c.args.places c.in_err-order.ensures.result_value (hands_on _ c.in_err-order.field-0.0 c.from_residual.ensures.1)

pub returns-in_err-whole : goal.returns-in_err-whole
returns-in_err-whole c =
    no_count c.args.s.now c.args.places c.in_ok-order.ensures.result_value c.in_err-whole.ensures.result_value
    (hands_on _ c.in_err-whole.field-0.0 c.from_residual-in_err-whole.ensures.1)

pub returns-then-not-is_count : goal.returns-then-not-is_count
returns-then-not-is_count c =
    other_count c.args.s.now c.args.places c.in_ok-order.ensures.result_value _ c.in_ok-whole.ensures.there c.number4-count.ensures c.is_count.ensures
    (ap not c.if-not-is_count.true) (refuses c.at.ensures)

pub returns-then-places-count : goal.returns-then-places-count
returns-then-places-count c =
    no_places c.args.s.now c.args.places c.in_ok-order.ensures.result_value _ c.in_ok-whole.ensures.there c.number4-count.ensures c.is_count.ensures
    (ap not c.if-not-is_count.false) c.if-places-count.true (refuses c.at-then-places-count.ensures)

pub returns : goal.returns
returns c =
    head_read c.args.s.now c.args.places c.in_ok-order.ensures.result_value _ c.in_ok-whole.ensures.there c.number4-count.ensures c.is_count.ensures
    (ap not c.if-not-is_count.false) c.if-places-count.false
