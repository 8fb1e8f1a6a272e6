-- `shape::reader::polygon_at` meets its contract: the head, the positions, and the last of them.
use Rattle.std.proofs.Common.{◌-◌, sym, ◌∙◌, arith}
use borrow.Author.Tests.{not-true, not-false}
use Rattle.shape.proofs.Asking.{hands_on, refuses}
use Rattle.shape.proofs.Polygons.{type_refused, count_refused, count_found, count_good, scanned_there, scan_refused, closing_is_read, left_open, closed}
use Rattle.shape.proofs.reader.polygon_at.Goals as goal

pub returns-in_err-order : goal.returns-in_err-order
returns-in_err-order c = type_refused c.args.s.now c.args.at c.args.room c.in_err-order.ensures.result_value (hands_on _ c.in_err-order.field-0.0 c.from_residual.ensures.1)

pub returns-in_err-n : goal.returns-in_err-n
returns-in_err-n c =
    count_refused c.args.s.now c.args.at c.args.room c.in_ok-order.ensures.result_value c.in_err-n.ensures (hands_on _ c.in_err-n.field-0.0 c.from_residual-in_err-n.ensures.1)

pub overflow_sub-n : goal.overflow_sub-n
overflow_sub-n c =
    let h = count_good c.args.s.now c.args.at c.args.room c.in_ok-order.ensures.result_value c.in_ok-n.ensures in
    omega (arith, h.least)

pub scan-requires : goal.scan-requires
scan-requires c = (count_good c.args.s.now c.args.at c.args.room c.in_ok-order.ensures.result_value c.in_ok-n.ensures).there

pub returns-in_err-scan : goal.returns-in_err-scan
returns-in_err-scan c =
    let s = c.args.s.now in
    let n = c.in_ok-n.field-0 - 1 in
    let answer = count_found s c.args.at c.args.room c.in_ok-order.ensures.result_value c.in_ok-n.ensures in
    hands_on _ c.in_err-scan.field-0.0 c.from_residual-in_err-scan.ensures.1 ∙ scan_refused s c.args.at c.args.room n answer _ _ c.in_err-scan.ensures

pub overflow_mul-last : goal.overflow_mul-last
overflow_mul-last c =
    let h = count_good c.args.s.now c.args.at c.args.room c.in_ok-order.ensures.result_value c.in_ok-n.ensures in
    omega (arith, h.most)

pub overflow_add-last : goal.overflow_add-last
overflow_add-last c =
    let there = scanned_there c.args.s.now c.args.at c.args.room c.in_ok-order.ensures.result_value c.in_ok-n.ensures c.in_ok-scan.ensures in
    omega arith

pub grid_position-requires : goal.grid_position-requires
grid_position-requires c =
    let there = scanned_there c.args.s.now c.args.at c.args.room c.in_ok-order.ensures.result_value c.in_ok-n.ensures c.in_ok-scan.ensures in
    omega arith

pub grid_position-requires-2 : goal.grid_position-requires-2
grid_position-requires-2 c =
    let there = scanned_there c.args.s.now c.args.at c.args.room c.in_ok-order.ensures.result_value c.in_ok-n.ensures c.in_ok-scan.ensures in
    omega arith

pub returns-then-ne : goal.returns-then-ne
returns-then-ne c =
    let s = c.args.s.now in
    let n = c.in_ok-n.field-0 - 1 in
    let found = c.in_ok-order.ensures.result_value in
    let answer = count_found s c.args.at c.args.room found c.in_ok-n.ensures in
    let first = c.grid_position.ensures in
    let last = c.grid_position-2.ensures in
    left_open s c.args.at c.args.room n answer c.in_ok-scan.ensures
    (closing_is_read s c.args.at c.args.room found n first.x_value first.y_value last.x_value last.y_value)
    (not-true _ (sym c.ne.ensures ∙ c.if-ne.true)) (refuses c.at.ensures)

pub returns : goal.returns
returns c =
    let s = c.args.s.now in
    let n = c.in_ok-n.field-0 - 1 in
    let found = c.in_ok-order.ensures.result_value in
    let answer = count_found s c.args.at c.args.room found c.in_ok-n.ensures in
    let first = c.grid_position.ensures in
    let last = c.grid_position-2.ensures in
    closed s c.args.at c.args.room n answer c.in_ok-scan.ensures
    (closing_is_read s c.args.at c.args.room found n first.x_value first.y_value last.x_value last.y_value)
    (not-false _ (sym c.ne.ensures ∙ c.if-ne.false))
