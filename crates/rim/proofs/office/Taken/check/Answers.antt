-- What is taken is acceptable.
use Rattle.std.proofs.Common.{sym, ap, ◌∙◌}
use Rattle.sheet.specs.Office.{office}
use Rattle.sheet.specs.Answer.{answer}
use Rattle.sheet.proofs.Accepted.{accepted_lent}
use Rattle.rim.proofs.Handed.{mates_handed}
use Rattle.rim.proofs.office.Taken.check.Goals as goal

pub invariant_of-sheet : goal.invariant_of-sheet
invariant_of-sheet c =
    let a = c.args in
    let (_, h, l) = (accepted_lent a.room (office a.xs.now a.ys.now a.corners.now) c.in_ok-hull.hull).0 (sym c.check_mates.ensures.result_value ∙ ap answer c.in_ok-hull.was) in
    record { acceptable = ∣ h ∣₁; mates = mates_handed _ _ _ c.in_ok-hull.was c.check_mates.ensures.mate_after }

pub invariant_of-result : goal.invariant_of-result
invariant_of-result c =
    let a = c.args in
    let (_, h, l) = (accepted_lent a.room (office a.xs.now a.ys.now a.corners.now) c.in_ok-hull.hull).0 (sym c.check_mates.ensures.result_value ∙ ap answer c.in_ok-hull.was) in
    record { hull_is = l }
