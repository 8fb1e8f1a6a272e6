use Rattle.sheet.proofs.Chain.{rank}
use Rattle.sheet.proofs.Pairing.{Noting}
use Rattle.sheet.proofs.spots.Chain.note_ends.Given as goal

abbrev pub invariant-loop-r : goal.invariant-loop-r
invariant-loop-r l = Noting l.self.corners.now l.p l.noted l.r

abbrev pub decreases-loop-r : goal.decreases-loop-r
decreases-loop-r l = rank l.r
