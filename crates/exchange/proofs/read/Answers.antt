-- `exchange::read` meets its contract: the polygon is scanned, the end is asked, and only then the lists are filled.
use Rattle.std.proofs.Common.{◌+◌, ◌*◌, ◌≤◌, min, length, sym, refl, ap, ◌∙◌, arith}
use Rattle.shape.specs.Answers.{gives}
use Rattle.shape.specs.Coordinates.{grid_at}
use Rattle.shape.specs.Reading.{order_at, length_at, polygon_asks}
use Rattle.shape.proofs.Asking.{hands_on, stops_first, given_is}
use Rattle.shape.proofs.Heads.{none_left}
use Rattle.shape.proofs.Polygons.{for_room, polygon_good, bytes_left, all_read}
use Rattle.shape.proofs.Scanned.{filled_row}
use Rattle.exchange.proofs.read.Goals as goal

pub returns-in_err-n-clause-result_value : goal.returns-in_err-n-clause-result_value
returns-in_err-n-clause-result_value c =
    let s = c.args.block.now in
    stops_first (polygon_asks s 0 (min (length c.args.xs.now) (length c.args.ys.now))) _ (length_at s 0) (length_at s 0) _ _
    (for_room s 0 c.min.ensures c.in_err-n.ensures) (hands_on _ c.in_err-n.field-0.0 c.from_residual.ensures.1)

pub overflow_mul-n : goal.overflow_mul-n
overflow_mul-n c = let r = polygon_good c.args.block.now 0 _ c.in_ok-n.n c.in_ok-n.ensures in omega (arith, r.head.most)

pub overflow_add-n : goal.overflow_add-n
overflow_add-n c = let r = polygon_good c.args.block.now 0 _ c.in_ok-n.n c.in_ok-n.ensures in omega (arith, r.head.most)

pub returns-in_err-ended-clause-result_value : goal.returns-in_err-ended-clause-result_value
returns-in_err-ended-clause-result_value c =
    bytes_left c.args.block.now _ c.in_ok-n.n (for_room c.args.block.now 0 c.min.ensures c.in_ok-n.ensures) c.in_err-ended.ensures
    (hands_on _ c.in_err-ended.field-0.0 c.from_residual-in_err-ended.ensures.1)

pub fill_polygon-requires : goal.fill_polygon-requires
fill_polygon-requires c =
    let s = c.args.block.now in
    let answer = for_room s 0 c.min.ensures c.in_ok-n.ensures in
    ap gives (sym (given_is _ (length_at s 0) answer)) ∙ answer

pub returns : goal.returns
returns c =
    let s = c.args.block.now in
    let answer = for_room s 0 c.min.ensures c.in_ok-n.ensures in
    let is = given_is _ (length_at s 0) answer in
    let r = polygon_good s 0 _ c.in_ok-n.n answer in
    let x : length_at s 0 ≤ length c.args.xs.now = omega (arith, r.head.fits) in
    let y : length_at s 0 ≤ length c.args.ys.now = omega (arith, r.head.fits) in
    record {
      result_value = ap gives (c.fill_polygon.ensures.value ∙ sym is) ∙ all_read s _ c.in_ok-n.n answer (none_left s (29 + 16 * c.in_ok-n.n) c.in_ok-ended.ensures);
      xs_after = filled_row 16 (grid_at (order_at s 0) s) (length_at s 0) (length_at s 0) 13 refl c.args.xs.now _ x c.fill_polygon.ensures.xs_after;
      ys_after = filled_row 16 (grid_at (order_at s 0) s) (length_at s 0) (length_at s 0) 21 refl c.args.ys.now _ y c.fill_polygon.ensures.ys_after;
    }
