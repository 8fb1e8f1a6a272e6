-- Each point is asked, from the first on. Assumes nothing.
use Rattle.std.proofs.Common.{rules, length}
use Rattle.laws.proofs.Find.{lowest_from_find}
use Rattle.sheet.specs.Office.{large}
use Rattle.sheet.specs.Code.{cloud}
use Rattle.sheet.proofs.spots.Cloud.first_large.Goals as goal

pub returns : goal.returns
returns c =
    lowest_from_find (large (cloud c.args.self.now.xs.now c.args.self.now.ys.now)) (length c.args.self.now.xs.now) _ c.find.ensures.ran
    (λ x q k. search rules)
    (λ x q k. search rules)
