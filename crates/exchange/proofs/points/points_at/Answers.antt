-- `exchange::points::points_at` meets its contract: the head, then the Points.
use Rattle.std.proofs.Common.{◌+◌, ◌*◌, ◌≤◌, length, ◌∙◌, arith}
use Rattle.shape.proofs.Asking.{hands_on}
use Rattle.shape.proofs.Scanned.{from_first, from_stop, from_next, from_last}
use Rattle.exchange.specs.Points.{point_asks}
use Rattle.exchange.proofs.PointFiles.{type_refused, count_refused, count_found, points_head, point_refused, points_passed, point_there}
use Rattle.exchange.proofs.points.points_at.Goals as goal

pub returns-in_err-order : goal.returns-in_err-order
returns-in_err-order c = type_refused c.args.s.now c.args.room c.in_err-order.ensures.result_value (hands_on _ c.in_err-order.field-0.0 c.from_residual.ensures.1)

pub returns-in_err-n : goal.returns-in_err-n
returns-in_err-n c =
    count_refused c.args.s.now c.args.room c.in_ok-order.ensures.result_value c.in_err-n.ensures
    (hands_on _ c.in_err-n.field-0.0 c.from_residual-in_err-n.ensures.1)

pub loop-i-init : goal.loop-i-init
loop-i-init c =
    let answer = count_found c.args.s.now c.args.room c.in_ok-order.ensures.result_value c.in_ok-n.ensures in
    record {
      there = (points_head c.args.s.now c.args.room c.in_ok-n.n answer).1.0.0;
      same = from_first 21 (point_asks c.args.s.now) c.in_ok-n.n 9;
    }

pub returns-in_err-point_fault : goal.returns-in_err-point_fault
returns-in_err-point_fault c =
    let answer = count_found c.args.s.now c.args.room c.in_ok-order.ensures.result_value c.in_ok-n.ensures in
    hands_on _ c.in_err-point_fault.field-0.0 c.from_residual-in_err-point_fault.ensures.1
    ∙ point_refused c.args.s.now c.args.room c.in_ok-n.n answer _ _
    (from_stop 21 (point_asks c.args.s.now) c.in_ok-n.n 9 c.loop-i.i c.loop-i-test.true c.in_err-point_fault.ensures ∙ c.loop-i.invariant.same)

pub loop-i-preserved : goal.loop-i-preserved
loop-i-preserved c =
    let fine = c.in_ok-point_fault.ensures in
    record {
      there = let l : 9 + 21 * c.loop-i.i + 21 ≤ length c.args.s.now = point_there c.args.s.now (9 + 21 * c.loop-i.i) fine in omega arith;
      same = from_next 21 (point_asks c.args.s.now) c.in_ok-n.n 9 c.loop-i.i c.loop-i-test.true fine ∙ c.loop-i.invariant.same;
    }

pub returns : goal.returns
returns c =
    let answer = count_found c.args.s.now c.args.room c.in_ok-order.ensures.result_value c.in_ok-n.ensures in
    points_passed c.args.s.now c.args.room c.in_ok-n.n answer
    (from_last 21 (point_asks c.args.s.now) c.in_ok-n.n 9 c.loop-i.i c.loop-i-test.false ∙ c.loop-i.invariant.same)
