-- `shape::reader::size_fault` meets its contract: it asks its questions one by one.
use Rattle.shape.proofs.Asking.{asking, hands_on, stops_first}
use Rattle.shape.proofs.reader.size_fault.Goals as goal
use Rattle.shape.proofs.reader.size_fault.Goals.{then-count-repeated-via-then-count-repeated, then-count-repeated-via-else-count-repeated+then-repeated-count}

pub returns-in_err-whole-clause-result_value : goal.returns-in_err-whole-clause-result_value
returns-in_err-whole-clause-result_value c = stops_first _ _ _ _ _ _ c.in_err-whole.ensures.result_value (hands_on _ c.in_err-whole.field-0.0 c.from_residual.ensures.1)

pub returns-then-count-repeated-clause-result_value : goal.returns-then-count-repeated-clause-result_value
returns-then-count-repeated-clause-result_value c =
    elim c.then-count-repeated.branch [
      | then-count-repeated-via-then-count-repeated w ↦ search asking depth 9
      | then-count-repeated-via-else-count-repeated+then-repeated-count w ↦ search asking depth 9
    ]

pub returns-then-room-count-clause-result_value : goal.returns-then-room-count-clause-result_value
returns-then-room-count-clause-result_value c = search asking depth 9

pub returns-clause-result_value : goal.returns-clause-result_value
returns-clause-result_value c = search asking depth 9
