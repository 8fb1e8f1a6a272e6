-- `host::polygon`: the lists that the blocks are have the lengths that were asked.
use Rattle.std.proofs.Common.{arith}
use Rattle.std.proofs.lemmas.Grind.{common_steps}
use Rattle.laws.proofs.Fill.{length-table}
use Rattle.host.proofs.polygon.Goals as goal

pub polygon_of-requires : goal.polygon_of-requires
polygon_of-requires c = (rw (c.decode-xs.ensures, length-table) (grind (arith, common_steps)), rw (c.decode-corners.ensures, length-table) (grind (arith, common_steps)))
