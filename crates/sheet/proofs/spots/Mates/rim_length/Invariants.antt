use Rattle.std.proofs.Common.{length}
use Rattle.laws.proofs.Counting.{Counted}
use Rattle.sheet.specs.Office.{bare, rim}
use Rattle.sheet.proofs.spots.Mates.rim_length.Given as goal

abbrev pub invariant-loop-s : goal.invariant-loop-s
invariant-loop-s l = Counted (rim (bare l.self.corners.now)) (length l.self.corners.now) l.s l.n
