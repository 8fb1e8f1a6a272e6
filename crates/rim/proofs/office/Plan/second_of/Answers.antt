-- The greater of two packed points is the second end.
use Rattle.rim.proofs.Plain.{plain}
use Rattle.rim.proofs.Ranked.{second_packed}
use Rattle.rim.proofs.office.Plan.second_of.Goals as goal

pub returns : goal.returns
returns c = second_packed (plain c.args.self.now.acceptable) _ c.requires c.spot_at.ensures.0 (rw c.next_of.ensures at c.spot_at-2.ensures.0) c.max.ensures
