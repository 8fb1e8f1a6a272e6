-- `outlines::read_full` writes within the text: what was read is never more than its length.
use Rattle.std.proofs.Common.{◌≤◌, length}
use Rattle.outlines.proofs.read_full.Given as goal

abbrev pub invariant-loop : goal.invariant-loop
invariant-loop g l = l.n ≤ length l.text
