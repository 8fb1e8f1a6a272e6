-- `shape::block::ByteOrder::at` meets its contract.
use Rattle.std.proofs.Common.{ap, ◌∙◌, rules}
use Rattle.shape.proofs.Asking.{at_place, maps}
use Rattle.shape.proofs.Shapes.{order_judged}
use Rattle.shape.proofs.block.ByteOrder.at.Goals as goal

pub returns : goal.returns
returns c = maps _ _ c.args.place c.map_err.ensures.cases (λ rule f h. search rules) ∙ ap (at_place c.args.place) c.try_from.ensures ∙ order_judged c.args.byte c.args.place
