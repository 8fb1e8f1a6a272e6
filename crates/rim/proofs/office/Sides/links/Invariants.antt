-- One more side at a time.
use Rattle.std.proofs.Common.{◌≡◌, length}
use Rattle.rim.specs.Code.{front, Linked}
use Rattle.rim.proofs.office.Sides.links.Given as goal

abbrev pub invariant-loop-s : goal.invariant-loop-s
invariant-loop-s l = record { linked : Linked l.self.corners.now (front l.self.corners.now l.kept) l.link l.s; long : length l.link ≡ 1024 }
