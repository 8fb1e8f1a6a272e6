-- Each side is asked. Assumes nothing.
use Rattle.std.proofs.Common.{rules, length}
use Rattle.laws.proofs.Find.{any_from_any}
use Rattle.sheet.specs.Office.{right}
use Rattle.sheet.specs.Values.{office_of}
use Rattle.sheet.proofs.spots.Mesh.is_outer.Goals as goal

pub returns : goal.returns
returns c = any_from_any (right (office_of c.args.self.now.plot) c.args.p) (length c.args.self.now.plot.corners.now) _ c.any.ensures.ran (λ x q k. search rules) (λ x q k. search rules)
