-- `exchange::sent` meets its contract: the place is a coordinate's, it is whole, and its Point has a byte order.
use Rattle.std.proofs.Common.{◌≡◌, ◌-◌, ◌⊎◌, inl, inr}
use Rattle.shape.specs.Reading.{order_at}
use Rattle.shape.proofs.Asking.{hands_on, refuses}
use Rattle.shape.proofs.Shapes.{unordered, code_of, ordered_low}
use Rattle.exchange.proofs.PointFiles.{no_coordinate, not_whole, no_order, sent_found}
use Rattle.exchange.proofs.sent.Goals as goal
use Rattle.exchange.proofs.sent.Goals.{else-within-ne5-via-then-within-ne5+else-within-ne13, else-within-ne5-via-else-within-ne5}

pub returns-then-within-ne13 : goal.returns-then-within-ne13
returns-then-within-ne13 c = no_coordinate c.args.block.now c.args.place c.within-within.ensures c.if-within-ne5.true c.if-within-ne13.true (refuses c.at.ensures)

pub returns-in_err-whole : goal.returns-in_err-whole
returns-in_err-whole c =
    let w = c.within-within.result in
    let either : (w ≡ 5) ⊎ (w ≡ 13) = elim c.else-within-ne5.branch [
      | else-within-ne5-via-then-within-ne5+else-within-ne13 w ↦ inr w.if-within-ne13.false
      | else-within-ne5-via-else-within-ne5 w ↦ inl w.if-within-ne5.false
    ] in
    not_whole c.args.block.now c.args.place c.within-within.ensures either c.in_err-whole.ensures.result_value
    (hands_on _ c.in_err-whole.field-0.0 c.from_residual.ensures.1)

pub returns-in_default : goal.returns-in_default
returns-in_default c =
    let w = c.within-within.result in
    let either : (w ≡ 5) ⊎ (w ≡ 13) = elim c.else-within-ne5.branch [
      | else-within-ne5-via-then-within-ne5+else-within-ne13 w ↦ inr w.if-within-ne13.false
      | else-within-ne5-via-else-within-ne5 w ↦ inl w.if-within-ne5.false
    ] in
    no_order c.args.block.now c.args.place c.within-within.ensures either c.in_ok-whole.ensures.there
    (unordered (order_at c.args.block.now (c.args.place - w)) c.try_from.ensures c.in_default.is) (refuses c.at-in_default.ensures)

pub returns : goal.returns
returns c =
    let w = c.within-within.result in
    let either : (w ≡ 5) ⊎ (w ≡ 13) = elim c.else-within-ne5.branch [
      | else-within-ne5-via-then-within-ne5+else-within-ne13 w ↦ inr w.if-within-ne13.false
      | else-within-ne5-via-else-within-ne5 w ↦ inl w.if-within-ne5.false
    ] in
    let byte = order_at c.args.block.now (c.args.place - w) in
    sent_found c.args.block.now c.args.place c.within-within.ensures either c.in_ok-whole.ensures.there
    (code_of byte c.try_from.ensures c.in-Ok.is) (ordered_low byte c.try_from.ensures c.in-Ok.is) c.coordinate_at.ensures
