-- Each point is asked, from the first on. Assumes nothing.
use Rattle.std.proofs.Common.{rules, length}
use Rattle.laws.proofs.Find.{lowest_from_find}
use Rattle.sheet.specs.Office.{outer}
use Rattle.sheet.specs.Values.{office_of}
use Rattle.sheet.proofs.spots.Mesh.first_outer.Goals as goal

pub returns : goal.returns
returns c = lowest_from_find (outer (office_of c.args.self.now.plot)) (length c.args.self.now.plot.xs.now) _ c.find.ensures.ran (λ x q k. search rules) (λ x q k. search rules)
