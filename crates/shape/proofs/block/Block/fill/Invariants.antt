-- `shape::block::Block::fill`: what is left to fill makes the lists what the whole makes of them.
use Rattle.std.proofs.Common.{◌+◌}
use Rattle.shape.specs.Bytes.{code}
use Rattle.shape.specs.Coordinates.{grid_at}
use Rattle.shape.proofs.Scanned.{Filling}
use Rattle.shape.proofs.block.Block.fill.Given as goal

abbrev pub invariant-loop-i : goal.invariant-loop-i
invariant-loop-i l = record {
  x_filling : Filling 16 (grid_at (code l.self.order) l.self.bytes.now) l.n l.at l.initial.xs l.i l.xs;
  y_filling : Filling 16 (grid_at (code l.self.order) l.self.bytes.now) l.n (l.at + 8) l.initial.ys l.i l.ys;
}
