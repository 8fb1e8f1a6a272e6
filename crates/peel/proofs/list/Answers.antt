-- What `list` answers and leaves in the lent lists.
use Rattle.std.proofs.lemmas.Result.{err_from_is_err_and}
use Rattle.peel.proofs.Answering.{list_not, list_may, list_done}
use Rattle.peel.proofs.list.Goals as goal

pub returns-in_err-office : goal.returns-in_err-office
returns-in_err-office c =
    let a = c.args in
    let p = err_from_is_err_and c.from_residual.result c.from_residual.ensures.1 in
    rw (p.1, p.2) (list_not a.xs.now a.ys.now a.corners.now a.kept.now a.rim.now a.ring.now a.least.now a.peeled.now a.area.now c.list_room-room.ensures c.check.ensures.result_value _ c.in_err-office.was)

pub list_accepted-requires : goal.list_accepted-requires
list_accepted-requires c =
    let a = c.args in
    let (m, n) = list_may a.xs.now a.ys.now a.corners.now a.kept.now a.rim.now a.ring.now a.least.now a.peeled.now a.area.now c.list_room-room.ensures c.check.ensures.result_value _ c.in_ok-office.was c.in_ok-office.ensures.lists in
    record { marks_fit = m; entries_fit = n }

pub returns : goal.returns
returns c =
    let a = c.args in
    list_done a.xs.now a.ys.now a.corners.now a.kept.now a.rim.now a.ring.now a.least.now a.peeled.now a.area.now c.list_room-room.ensures c.check.ensures.result_value _ c.in_ok-office.was c.in_ok-office.ensures.lists _ c.list_accepted.ensures.lent c.list_accepted.ensures.written
