-- `host::blocks::decode`: each number below the index is the pair of bytes at its place.
use Rattle.std.proofs.Common.{◌+◌, ◌*◌, ◌/◌, length}
use Rattle.host.specs.Blocks.{pair}
use Rattle.laws.proofs.Fill.{Filled}
use Rattle.host.proofs.blocks.decode.Given as goal

abbrev pub invariant-loop-i : goal.invariant-loop-i
invariant-loop-i l = Filled (λ k. pair l.block (l.from + l.step * k)) (length l.block / l.step) (length l.numbers) l.numbers l.i
