-- One more link.
use native.Mathlib.Omega.{arith}
use Rattle.std.proofs.Common.{length-set}
use Rattle.rim.specs.Code.{front}
use Rattle.rim.proofs.Ringed.{links_skip, links_one}
use Rattle.rim.proofs.office.Sides.links.Goals as goal
use Rattle.rim.proofs.office.Sides.links.Goals.{then-is_rim, else-is_rim}

pub bounds-link-p : goal.bounds-link-p
bounds-link-p c = omega (arith, c.requires.1 c.loop-s.s c.loop-s-test.true, c.loop-s.invariant.long, c.from-p.ensures)

pub loop-s-preserved : goal.loop-s-preserved
loop-s-preserved c =
    let o = c.args.self.now in
    let i = c.loop-s.invariant in
    elim c.if-is_rim.branch [
      | then-is_rim w ↦ rw (w.link-is, w.from-p.ensures, w.next_of.ensures) (record {
        linked = links_one o.corners.now (front o.corners.now c.args.kept.now) c.loop-s.link c.loop-s.s c.requires.2 c.loop-s-test.true (omega (arith, c.requires.1 c.loop-s.s c.loop-s-test.true, i.long)) i.linked c.is_rim.ensures w.if-is_rim.true;
        long = simp length-set i.long;
      })
      | else-is_rim w ↦ rw w.link-is (record {
        linked = links_skip o.corners.now (front o.corners.now c.args.kept.now) c.loop-s.link c.loop-s.s i.linked c.is_rim.ensures w.if-is_rim.false;
        long = i.long;
      })
    ]
