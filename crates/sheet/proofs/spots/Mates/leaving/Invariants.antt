use Rattle.sheet.proofs.Leaving.{Seen}
use Rattle.sheet.proofs.spots.Mates.leaving.Given as goal

abbrev pub invariant-loop-s : goal.invariant-loop-s
invariant-loop-s l = Seen l.self.corners.now l.list l.s
