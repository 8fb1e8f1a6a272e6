-- `blocks::show_rings`: no sum of the lengths before a place is too large.
use Rattle.std.proofs.Common.{◌*◌, ◌≤◌}
use Rattle.blocks.proofs.show_rings.Given as goal

abbrev pub invariant-loop-length : goal.invariant-loop-length
invariant-loop-length g l = l.from ≤ 65535 * l.length-index
