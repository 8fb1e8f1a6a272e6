-- Where no triangle is flat, the others follow. Assumes nothing.
use Rattle.std.proofs.Common.{arith}
use Rattle.laws.proofs.Find.{at_some, at_nowhere, nowhere_first}
use Rattle.sheet.specs.Office.{triangles, flat}
use Rattle.sheet.specs.Values.{office_of}
use Rattle.sheet.proofs.Plots.{left_of}
use Rattle.sheet.proofs.Handed.{refuses}
use Rattle.sheet.proofs.check_areas.Goals as goal

pub returns-in-Some-clause-result_value : goal.returns-in-Some-clause-result_value
returns-in-Some-clause-result_value c = at_some _ _ _ _ c.first_flat.ensures c.in-Some.is (refuses c.at.ensures)

pub check_sides-requires : goal.check_sides-requires
check_sides-requires c = let o = office_of c.args.plot.now in left_of o (triangles o) (nowhere_first (flat o) (triangles o) c.first_flat.ensures c.in_default.is) (omega arith)

pub returns-clause-result_value : goal.returns-clause-result_value
returns-clause-result_value c = at_nowhere _ _ _ _ c.first_flat.ensures c.in_default.is c.check_sides.ensures.result_value
