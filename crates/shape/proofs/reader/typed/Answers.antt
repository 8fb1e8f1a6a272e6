-- `shape::reader::typed` meets its contract: it asks its questions one by one.
use Rattle.std.proofs.Common.{sym, ◌∙◌}
use Rattle.shape.proofs.Asking.{hands_on, refuses, stops_first}
use Rattle.shape.proofs.Shapes.{other_order_found, then_type, other_type_found, type_found}
use Rattle.shape.proofs.reader.typed.Goals as goal

pub returns-in_err-whole-clause-result_value : goal.returns-in_err-whole-clause-result_value
returns-in_err-whole-clause-result_value c = stops_first _ _ _ _ _ _ c.in_err-whole.ensures.result_value (hands_on _ c.in_err-whole.field-0.0 c.from_residual.ensures.1)

pub returns-in_err-order-clause-result_value : goal.returns-in_err-order-clause-result_value
returns-in_err-order-clause-result_value c =
    other_order_found _ _ _ _ c.in_ok-whole.ensures.there c.in_err-order.ensures (hands_on _ c.in_err-order.field-0.0 c.from_residual-in_err-order.ensures.1)

pub returns-in_err-whole-2-clause-result_value : goal.returns-in_err-whole-2-clause-result_value
returns-in_err-whole-2-clause-result_value c =
    then_type _ _ _ _ c.in_ok-whole.ensures.there c.in_ok-order.ensures
    (stops_first _ _ _ _ _ _ c.in_err-whole-2.ensures.result_value (hands_on _ c.in_err-whole-2.field-0.0 c.from_residual-in_err-whole-2.ensures.1))

pub returns-then-number4-number-clause-result_value : goal.returns-then-number4-number-clause-result_value
returns-then-number4-number-clause-result_value c =
    other_type_found _ _ _ _ c.in_ok-whole.ensures.there c.in_ok-order.ensures c.in_ok-whole-2.ensures.there c.number4.ensures (λ e. c.if-number4-number.true (e ∙ sym c.number.ensures))
    (refuses c.at-then-number4-number.ensures)

pub returns-clause-result_value : goal.returns-clause-result_value
returns-clause-result_value c = type_found _ _ _ _ c.in_ok-whole.ensures.there c.in_ok-order.ensures c.in_ok-whole-2.ensures.there c.number4.ensures (c.if-number4-number.false ∙ c.number.ensures)
