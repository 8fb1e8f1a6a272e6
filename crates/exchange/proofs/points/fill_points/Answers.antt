-- `exchange::points::fill_points` meets its contract.
use Rattle.std.proofs.Common.{◌≡◌, ℕ, ◌+◌, ◌*◌, set, ap, ◌∙◌, arith}
use Rattle.shape.specs.Coordinates.{grid_at}
use Rattle.shape.specs.Reading.{order_at}
use Rattle.shape.proofs.Scanned.{filling_next, filling_last}
use Rattle.exchange.specs.Points.{point_x, point_y}
use Rattle.exchange.proofs.points.fill_points.Goals as goal

pub loop-i-preserved : goal.loop-i-preserved
loop-i-preserved c =
    let s = c.args.s.now in
    let l = c.loop-i in
    let place = c.args.at + 21 * l.i in
    let e : place + 5 + 8 ≡ place + 13 = omega arith in
    record {
      x_filling = filling_next 21 (point_x s) c.args.n c.args.at c.args.xs.now l.i c.loop-i-test.true l.xs _ l.invariant.x_filling c.keep.ensures.xs_after;
      y_filling =
          filling_next 21 (point_y s) c.args.n c.args.at c.args.ys.now l.i c.loop-i-test.true l.ys _ l.invariant.y_filling
          (c.keep.ensures.ys_after ∙ ap (λ (p : ℕ). set l.ys l.i (grid_at (order_at s place) s p)) e);
    }

pub returns : goal.returns
returns c =
    let s = c.args.s.now in
    let l = c.loop-i in
    record {
      xs_after = filling_last 21 (point_x s) c.args.n c.args.at c.args.xs.now l.i c.loop-i-test.false l.xs l.invariant.x_filling;
      ys_after = filling_last 21 (point_y s) c.args.n c.args.at c.args.ys.now l.i c.loop-i-test.false l.ys l.invariant.y_filling;
    }
