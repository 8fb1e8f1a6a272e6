-- `shape::Coordinate::grid_number_at` meets its contract.
use Rattle.std.proofs.Common.{ap, ◌∙◌, rules}
use Rattle.shape.proofs.Asking.{at_place, maps}
use Rattle.shape.proofs.Scanned.{grid_judged}
use Rattle.shape.proofs.Coordinate.grid_number_at.Goals as goal

pub returns : goal.returns
returns c = maps _ _ c.args.place c.map_err.ensures.cases (λ rule f h. search rules) ∙ ap (at_place c.args.place) c.grid_number.ensures ∙ grid_judged c.args.self c.args.place
