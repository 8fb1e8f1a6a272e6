-- `shape::block::Block::counted` meets its contract: the count of rings, then that of positions.
use Rattle.shape.proofs.Asking.{asking, hands_on, stops_first}
use Rattle.shape.proofs.block.Block.counted.Goals as goal

pub returns-in_err-whole : goal.returns-in_err-whole
returns-in_err-whole c = stops_first _ _ _ _ _ _ c.in_err-whole.ensures.result_value (hands_on _ c.in_err-whole.field-0.0 c.from_residual.ensures.1)

pub returns-then-number4-ne1 : goal.returns-then-number4-ne1
returns-then-number4-ne1 c = search asking depth 9

pub returns : goal.returns
returns c = search asking depth 9
