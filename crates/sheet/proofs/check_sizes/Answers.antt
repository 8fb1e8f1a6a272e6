-- Each early return is its refusal. Assumes nothing.
use Rattle.std.proofs.Common.{not, ap}
use borrow.Author.Tests.{eq-eqb, ne_eqb}
use Rattle.laws.proofs.Search.{when_broken, when_sound}
use Rattle.sheet.specs.Verdict.{verdict}
use Rattle.sheet.proofs.Handed.{refuses}
use Rattle.sheet.proofs.check_sizes.Goals as goal

pub returns-then-xs-ys-clause-result_value : goal.returns-then-xs-ys-clause-result_value
unfolding verdict
returns-then-xs-ys-clause-result_value c = when_broken _ (ap not (ne_eqb _ _ c.if-xs-ys.true)) (refuses c.at.ensures)

pub returns-then-xs-clause-result_value : goal.returns-then-xs-clause-result_value
unfolding verdict
returns-then-xs-clause-result_value c = when_sound _ (ap not (eq-eqb _ _ c.if-xs-ys.false)) (when_broken _ c.if-xs.true (refuses c.at-then-xs.ensures))

pub returns-then-corners-clause-result_value : goal.returns-then-corners-clause-result_value
unfolding verdict
returns-then-corners-clause-result_value c =
    when_sound _ (ap not (eq-eqb _ _ c.if-xs-ys.false)) (when_sound _ c.if-xs.false (when_broken _ c.if-corners.true (refuses c.at-then-corners.ensures)))

pub returns-then-not-room-clause-result_value : goal.returns-then-not-room-clause-result_value
unfolding verdict
returns-then-not-room-clause-result_value c =
    when_sound _ (ap not (eq-eqb _ _ c.if-xs-ys.false)) (when_sound _ c.if-xs.false (when_sound _ c.if-corners.false (when_broken _ (ap not c.if-not-room.true) (refuses c.at-then-not-room.ensures))))

pub returns-clause-result_value : goal.returns-clause-result_value
unfolding verdict
returns-clause-result_value c =
    when_sound _ (ap not (eq-eqb _ _ c.if-xs-ys.false)) (when_sound _ c.if-xs.false (when_sound _ c.if-corners.false (when_sound _ (ap not c.if-not-room.false) c.check_points.ensures.result_value)))
