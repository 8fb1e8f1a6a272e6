-- `exchange::points::points_at`: what is left to look at from the i-th Point on has the fault of the whole.
use Rattle.std.proofs.Common.{◌≡◌, ◌+◌, ◌*◌, ◌≤◌, length}
use Rattle.shape.proofs.Scanned.{ran, from}
use Rattle.exchange.specs.Points.{point_asks}
use Rattle.exchange.proofs.points.points_at.Given as goal

abbrev pub invariant-loop-i : goal.invariant-loop-i
invariant-loop-i l = record {
  there : 9 + 21 * l.i ≤ length l.s;
  same : from 21 (point_asks l.s) l.n 9 l.i ≡ ran 21 (point_asks l.s) l.n 9;
}
