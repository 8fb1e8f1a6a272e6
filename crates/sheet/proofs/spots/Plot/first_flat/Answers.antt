-- Each triangle is asked, from the first on. Assumes nothing.
use Rattle.std.proofs.Common.{rules, length, ◌/◌}
use Rattle.laws.proofs.Find.{lowest_from_find}
use Rattle.sheet.specs.Office.{flat}
use Rattle.sheet.specs.Values.{office_of}
use Rattle.sheet.proofs.spots.Plot.first_flat.Goals as goal

pub returns : goal.returns
returns c = lowest_from_find (flat (office_of c.args.self.now)) (length c.args.self.now.corners.now / 3) _ c.find.ensures.ran (λ x q k. search rules) (λ x q k. search rules)
