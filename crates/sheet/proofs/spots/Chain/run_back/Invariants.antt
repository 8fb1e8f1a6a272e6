use Rattle.std.proofs.Common.{length}
use Rattle.sheet.specs.Code.{ends}
use Rattle.sheet.proofs.Chain.{Back, rank}
use Rattle.sheet.proofs.spots.Chain.run_back.Given as goal

abbrev pub invariant-loop-r : goal.invariant-loop-r
invariant-loop-r l = Back l.self.corners.now (length l.self.corners.now) (ends l.self.corners.now l.to) l.begun l.r

abbrev pub decreases-loop-r : goal.decreases-loop-r
decreases-loop-r l = rank l.r
