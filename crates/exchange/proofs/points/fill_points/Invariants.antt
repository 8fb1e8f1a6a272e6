-- `exchange::points::fill_points`: what is left to fill makes the lists what the whole makes of them.
use Rattle.shape.proofs.Scanned.{Filling}
use Rattle.exchange.specs.Points.{point_x, point_y}
use Rattle.exchange.proofs.points.fill_points.Given as goal

abbrev pub invariant-loop-i : goal.invariant-loop-i
invariant-loop-i l = record {
  x_filling : Filling 21 (point_x l.s) l.n l.at l.initial.xs l.i l.xs;
  y_filling : Filling 21 (point_y l.s) l.n l.at l.initial.ys l.i l.ys;
}
