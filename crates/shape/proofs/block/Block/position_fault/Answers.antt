-- `shape::block::Block::position_fault` meets its contract: x is judged before y is looked at.
use Rattle.std.proofs.Common.{refl, ap, ◌∙◌}
use Rattle.shape.specs.Coordinates.{coordinate}
use Rattle.shape.proofs.Asking.{hands_on, refuses}
use Rattle.shape.proofs.Scanned.{none_there, bad_there, good_there, cut_short, no_more}
use Rattle.shape.proofs.block.Block.position_fault.Goals as goal

pub returns-in_err-whole : goal.returns-in_err-whole
returns-in_err-whole c = none_there 1 _ _ _ _ c.in_err-whole.ensures.result_value (hands_on _ c.in_err-whole.field-0.0 c.from_residual.ensures.1)

pub returns-in_err-grid_number_at : goal.returns-in_err-grid_number_at
returns-in_err-grid_number_at c =
    bad_there 1 _ _ _ _ c.in_ok-whole.ensures.there c.coordinate_at.ensures c.in_err-grid_number_at.ensures
    (hands_on _ c.in_err-grid_number_at.field-0.0 c.from_residual-in_err-grid_number_at.ensures.1)

pub returns-then-self-half : goal.returns-then-self-half
returns-then-self-half c =
    good_there 1 _ _ _ _ c.in_ok-whole.ensures.there c.coordinate_at.ensures c.in_ok-grid_number_at.ensures
    (cut_short 0 _ _ _ _ c.if-self-half.true (refuses c.at.ensures))

pub returns-in_err-grid_number_at-2 : goal.returns-in_err-grid_number_at-2
returns-in_err-grid_number_at-2 c =
    bad_there 1 _ _ _ _ c.in_ok-whole.ensures.there (c.coordinate_of.ensures ∙ ap coordinate c.position_at-p.ensures.x_value) c.in_err-grid_number_at-2.ensures
    (hands_on _ c.in_err-grid_number_at-2.field-0.0 c.from_residual-in_err-grid_number_at-2.ensures.1)

pub returns-in_err-grid_number_at-3 : goal.returns-in_err-grid_number_at-3
returns-in_err-grid_number_at-3 c =
    good_there 1 _ _ _ _ c.in_ok-whole.ensures.there (c.coordinate_of.ensures ∙ ap coordinate c.position_at-p.ensures.x_value) c.in_ok-grid_number_at-2.ensures
    (bad_there 0 _ _ _ _ c.if-self-half.false (c.coordinate_of-2.ensures ∙ ap coordinate c.position_at-p.ensures.y_value) c.in_err-grid_number_at-3.ensures
    (hands_on _ c.in_err-grid_number_at-3.field-0.0 c.from_residual-in_err-grid_number_at-3.ensures.1))

pub returns : goal.returns
returns c =
    good_there 1 _ _ _ _ c.in_ok-whole.ensures.there (c.coordinate_of.ensures ∙ ap coordinate c.position_at-p.ensures.x_value) c.in_ok-grid_number_at-2.ensures
    (good_there 0 _ _ _ _ c.if-self-half.false (c.coordinate_of-2.ensures ∙ ap coordinate c.position_at-p.ensures.y_value) c.in_ok-grid_number_at-3.ensures
    (no_more _ _ _ _ refl))
