-- What is left of the walk gives the whole.
use Rattle.std.proofs.Common.{length}
use Rattle.rim.specs.Peel.{after}
use Rattle.rim.specs.Code.{front, Leaves}
use Rattle.sheet.specs.Office.{bare}
use Rattle.rim.proofs.Ringed.{Walking}
use Rattle.rim.proofs.ring.write_ring.Given as goal

abbrev pub invariant-loop-place : goal.invariant-loop-place
invariant-loop-place l = record {
  walking : Walking (after (bare l.corners) (front l.corners l.kept)) l.from (length l.initial.part) l.initial.part l.part l.p l.place-index;
  leaves : Leaves l.corners (front l.corners l.kept) l.p;
}
