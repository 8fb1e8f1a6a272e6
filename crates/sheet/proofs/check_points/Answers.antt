-- Each early return is its refusal. Assumes nothing.
use Rattle.std.proofs.Common.{arith, length}
use Rattle.laws.proofs.Find.{at_some, at_nowhere, nowhere_first}
use Rattle.sheet.specs.Office.{office, large, again, no_point}
use Rattle.sheet.specs.Code.{cloud}
use Rattle.sheet.proofs.Plots.{plots}
use Rattle.sheet.proofs.Handed.{refuses}
use Rattle.sheet.proofs.check_points.Goals as goal

pub returns-in-Some-clause-result_value : goal.returns-in-Some-clause-result_value
returns-in-Some-clause-result_value c = at_some _ _ _ _ c.first_large.ensures c.in-Some.is (refuses c.at.ensures)

pub returns-in-Some-first_again-clause-result_value : goal.returns-in-Some-first_again-clause-result_value
returns-in-Some-first_again-clause-result_value c =
    at_nowhere _ _ _ _ c.first_large.ensures c.in_default.is
    (at_some _ _ _ _ c.first_again.ensures c.in-Some-first_again.is (refuses c.at-in-Some-first_again.ensures))

pub returns-in-Some-first_no_point-clause-result_value : goal.returns-in-Some-first_no_point-clause-result_value
returns-in-Some-first_no_point-clause-result_value c =
    at_nowhere _ _ _ _ c.first_large.ensures c.in_default.is
    (at_nowhere _ _ _ _ c.first_again.ensures c.in_default-first_again.is
    (at_some _ _ _ _ c.first_no_point.ensures c.in-Some-first_no_point.is (refuses c.at-in-Some-first_no_point.ensures)))

pub invariant_of-check_areas : goal.invariant_of-check_areas
invariant_of-check_areas c =
    let xs = c.args.xs.now in
    let ys = c.args.ys.now in
    let corners = c.args.corners.now in
    record {
      plotted = plots xs ys corners (length xs) (length xs) (length corners) c.requires.0 c.requires.1 c.requires.2 c.requires.3 c.requires.4
          (nowhere_first (large (cloud xs ys)) (length xs) c.first_large.ensures c.in_default.is) (omega arith)
          (nowhere_first (again (cloud xs ys)) (length xs) c.first_again.ensures c.in_default-first_again.is) (omega arith)
          (nowhere_first (no_point (office xs xs corners)) (length corners) c.first_no_point.ensures c.in_default-first_no_point.is) (omega arith);
    }

pub returns-clause-result_value : goal.returns-clause-result_value
returns-clause-result_value c =
    at_nowhere _ _ _ _ c.first_large.ensures c.in_default.is
    (at_nowhere _ _ _ _ c.first_again.ensures c.in_default-first_again.is
    (at_nowhere _ _ _ _ c.first_no_point.ensures c.in_default-first_no_point.is c.check_areas.ensures.result_value))
