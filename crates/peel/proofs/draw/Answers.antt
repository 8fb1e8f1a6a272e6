-- What `draw` answers and leaves in the lent lists.
use Rattle.std.proofs.lemmas.Result.{err_from_is_err_and}
use Rattle.peel.proofs.Answering.{draw_not, draw_may, draw_done}
use Rattle.peel.proofs.draw.Goals as goal

pub returns-in_err-office : goal.returns-in_err-office
returns-in_err-office c =
    let a = c.args in
    let p = err_from_is_err_and c.from_residual.result c.from_residual.ensures.1 in
    rw (p.1, p.2) (draw_not a.xs.now a.ys.now a.corners.now a.limit a.kept.now a.rim.now a.ring.now c.draw_room-room.ensures c.check.ensures.result_value _ c.in_err-office.was)

pub draw_accepted-requires : goal.draw_accepted-requires
draw_accepted-requires c =
    let a = c.args in
    draw_may a.xs.now a.ys.now a.corners.now 0 a.kept.now a.rim.now a.ring.now c.draw_room-room.ensures c.check.ensures.result_value _ c.in_ok-office.was c.in_ok-office.ensures.lists

pub returns : goal.returns
returns c =
    let a = c.args in
    draw_done a.xs.now a.ys.now a.corners.now a.limit a.kept.now a.rim.now a.ring.now c.draw_room-room.ensures c.check.ensures.result_value _ c.in_ok-office.was c.in_ok-office.ensures.lists _ c.draw_accepted.ensures
