-- Each corner is asked, from the first on. Assumes nothing.
use Rattle.std.proofs.Common.{rules, refl, length, leb}
use Rattle.laws.proofs.Find.{lowest_from_position}
use Rattle.sheet.specs.Office.{office, no_point}
use Rattle.sheet.proofs.triangles.first_no_point.Goals as goal

pub returns : goal.returns
returns c =
    lowest_from_position c.args.corners.now 0 (leb (length c.args.xs.now)) (no_point (office c.args.xs.now c.args.xs.now c.args.corners.now)) (λ k l. refl) _ (cc) c.position.ensures.ran
    (λ x q k. search rules)
    (λ x q k. search rules)
