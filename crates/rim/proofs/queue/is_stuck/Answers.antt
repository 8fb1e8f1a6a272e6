-- The third corner is a point.
use native.Mathlib.Omega.{arith}
use Rattle.std.proofs.Common.{length}
use Rattle.sheet.specs.Office.{last}
use Rattle.sheet.proofs.Side.{last_below}
use Rattle.rim.proofs.queue.is_stuck.Goals as goal

pub bounds-rim-from : goal.bounds-rim-from
bounds-rim-from c =
    omega (arith, c.requires.3 (last c.args.s) (last_below (length c.args.corners.now) c.args.s c.requires.0 c.requires.2), rw c.last_of.ensures at c.from.ensures)
