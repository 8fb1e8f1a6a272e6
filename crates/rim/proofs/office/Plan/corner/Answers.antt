-- A corner is a point of the grid.
use Rattle.rim.proofs.Plain.{plain}
use Rattle.rim.proofs.Cornered.{y_there, small_there}
use Rattle.rim.proofs.office.Plan.corner.Goals as goal

pub at_corner-requires-2 : goal.at_corner-requires-2
at_corner-requires-2 c = y_there (plain c.args.self.now.acceptable) _ c.requires

pub invariant_of-result : goal.invariant_of-result
invariant_of-result c = record { small = small_there (plain c.args.self.now.acceptable) _ c.requires c.at_corner.ensures c.at_corner-2.ensures }
