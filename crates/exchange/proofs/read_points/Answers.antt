-- `exchange::read_points` meets its contract: the file is scanned, the end is asked, and only then the lists are filled.
use Rattle.std.proofs.Common.{◌+◌, ◌*◌, ◌≤◌, min, length, arith}
use Rattle.shape.proofs.Asking.{hands_on, stops_first}
use Rattle.shape.proofs.Heads.{none_left}
use Rattle.shape.proofs.Scanned.{filled_row}
use Rattle.exchange.specs.Points.{point_count, points_asks, point_x, point_y}
use Rattle.exchange.proofs.PointFiles.{for_room, points_good, bytes_left, all_read}
use Rattle.exchange.proofs.read_points.Goals as goal

pub returns-in_err-n-clause-result_value : goal.returns-in_err-n-clause-result_value
returns-in_err-n-clause-result_value c =
    let s = c.args.block.now in
    stops_first (points_asks s (min (length c.args.xs.now) (length c.args.ys.now))) _ (point_count s) (point_count s) _ _
    (for_room s c.min.ensures c.in_err-n.ensures) (hands_on _ c.in_err-n.field-0.0 c.from_residual.ensures.1)

pub overflow_mul-n : goal.overflow_mul-n
overflow_mul-n c = let r = points_good c.args.block.now _ c.in_ok-n.n c.in_ok-n.ensures in omega (arith, r.most)

pub overflow_add-n : goal.overflow_add-n
overflow_add-n c = let r = points_good c.args.block.now _ c.in_ok-n.n c.in_ok-n.ensures in omega (arith, r.most)

pub returns-in_err-ended-clause-result_value : goal.returns-in_err-ended-clause-result_value
returns-in_err-ended-clause-result_value c =
    bytes_left c.args.block.now _ c.in_ok-n.n (for_room c.args.block.now c.min.ensures c.in_ok-n.ensures) c.in_err-ended.ensures
    (hands_on _ c.in_err-ended.field-0.0 c.from_residual-in_err-ended.ensures.1)

pub fill_points-requires : goal.fill_points-requires
fill_points-requires c =
    let r = points_good c.args.block.now _ c.in_ok-n.n (for_room c.args.block.now c.min.ensures c.in_ok-n.ensures) in
    record { n_in_bounds = r.whole; lists_in_bounds = (omega (arith, r.fits), omega (arith, r.fits)) }

pub returns : goal.returns
returns c =
    let s = c.args.block.now in
    let n = c.in_ok-n.n in
    let answer = for_room s c.min.ensures c.in_ok-n.ensures in
    let r = points_good s _ n answer in
    let x : n ≤ length c.args.xs.now = omega (arith, r.fits) in
    let y : n ≤ length c.args.ys.now = omega (arith, r.fits) in
    record {
      result_value = all_read s _ n answer (none_left s (9 + 21 * n) c.in_ok-ended.ensures);
      xs_after = filled_row 21 (point_x s) n (point_count s) 9 r.counted c.args.xs.now _ x c.fill_points.ensures.xs_after;
      ys_after = filled_row 21 (point_y s) n (point_count s) 9 r.counted c.args.ys.now _ y c.fill_points.ensures.ys_after;
    }
