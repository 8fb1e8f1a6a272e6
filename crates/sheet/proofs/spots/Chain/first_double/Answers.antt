-- Each triangle is asked, from the first on. Assumes nothing.
use Rattle.std.proofs.Common.{rules, length, ◌/◌}
use Rattle.laws.proofs.Find.{lowest_from_find}
use Rattle.sheet.specs.Office.{bare, double}
use Rattle.sheet.proofs.spots.Chain.first_double.Goals as goal

pub returns : goal.returns
returns c = let corners = c.args.self.now.corners.now in lowest_from_find (double (bare corners)) (length corners / 3) _ c.find.ensures.ran (λ x q k. search rules) (λ x q k. search rules)
