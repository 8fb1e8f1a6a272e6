-- `shape::coordinates::coordinate_of` meets its contract.
use Rattle.std.proofs.Common.{sym, ap, ◌∙◌, lit≤}
use Rattle.shape.specs.declared.Coordinate.TheVariants.{Grid}
use Rattle.shape.proofs.Floats.{holds, at_width}
use Rattle.shape.proofs.Judgements.{judged_grid, judged_off, judged_infinite}
use Rattle.shape.proofs.coordinates.coordinate_of.Goals as goal

pub float_to_int-result : goal.float_to_int-result
float_to_int-result c =
    (at_width 16 c.args.x (holds c.well_formed.0.1) (holds (sym c.on_grid.ensures ∙ c.if-on_grid.true)) (lit≤ tt)).0

pub returns-then-on_grid : goal.returns-then-on_grid
returns-then-on_grid c =
    let t = holds (sym c.on_grid.ensures ∙ c.if-on_grid.true) in
    ap Grid (at_width 16 c.args.x (holds c.well_formed.0.1) t (lit≤ tt)).1 ∙ sym (judged_grid c.args.x t)

pub returns-then-is_finite : goal.returns-then-is_finite
returns-then-is_finite c = judged_off c.args.x (sym c.on_grid.ensures ∙ c.if-on_grid.false) (sym c.is_finite.ensures.value ∙ c.if-is_finite.true)

pub returns-else-is_finite : goal.returns-else-is_finite
returns-else-is_finite c = judged_infinite c.args.x (sym c.is_finite.ensures.value ∙ c.if-is_finite.false)
