-- The sides below s are marked.
use Rattle.rim.specs.Code.{front}
use Rattle.rim.proofs.Begun.{Marking}
use Rattle.rim.proofs.office.Sides.mark_rim.Given as goal

abbrev pub invariant-loop-s : goal.invariant-loop-s
invariant-loop-s l = Marking l.self.corners.now (front l.self.corners.now l.kept) l.points l.initial.rim l.rim l.s
