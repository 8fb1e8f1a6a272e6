use Rattle.sheet.proofs.Chain.{rank}
use Rattle.sheet.proofs.Pairing.{Righting}
use Rattle.sheet.proofs.spots.Chain.note_mates.Given as goal

abbrev pub invariant-loop-s : goal.invariant-loop-s
invariant-loop-s l = Righting l.self.corners.now l.p l.fn.mate l.mate l.s

abbrev pub decreases-loop-s : goal.decreases-loop-s
decreases-loop-s l = rank l.s
