-- `shape::block::Block::fill` meets its contract.
use Rattle.std.proofs.Common.{◌≡◌, ℕ, ◌+◌, ◌*◌, set, ap, ap₂, ◌∙◌, arith}
use Rattle.shape.specs.Bytes.{code}
use Rattle.shape.specs.Coordinates.{grid_at}
use Rattle.shape.proofs.Scanned.{filling_next, filling_last}
use Rattle.shape.proofs.block.Block.fill.Goals as goal

pub loop-i-preserved : goal.loop-i-preserved
loop-i-preserved c =
    let o = code c.args.self.now.order in
    let s = c.args.self.now.bytes.now in
    let i = c.loop-i.i in
    let is = c.from-order.ensures in
    let e : c.args.at + 16 * i + 8 ≡ c.args.at + 8 + 16 * i = omega arith in
    record {
      x_filling =
          filling_next 16 (grid_at o s) c.args.n c.args.at c.args.xs.now i c.loop-i-test.true c.loop-i.xs _ c.loop-i.invariant.x_filling
          (c.keep.ensures.xs_after ∙ ap (λ (k : ℕ). set c.loop-i.xs i (grid_at k s (c.args.at + 16 * i))) is);
      y_filling =
          filling_next 16 (grid_at o s) c.args.n (c.args.at + 8) c.args.ys.now i c.loop-i-test.true c.loop-i.ys _ c.loop-i.invariant.y_filling
          (c.keep.ensures.ys_after ∙ ap₂ (λ (k p : ℕ). set c.loop-i.ys i (grid_at k s p)) is e);
    }

pub returns-clause-xs_after : goal.returns-clause-xs_after
returns-clause-xs_after c =
    let o = code c.args.self.now.order in
    let s = c.args.self.now.bytes.now in
    filling_last 16 (grid_at o s) c.args.n c.args.at c.args.xs.now c.loop-i.i c.loop-i-test.false c.loop-i.xs c.loop-i.invariant.x_filling

pub returns-clause-ys_after : goal.returns-clause-ys_after
returns-clause-ys_after c =
    let o = code c.args.self.now.order in
    let s = c.args.self.now.bytes.now in
    filling_last 16 (grid_at o s) c.args.n (c.args.at + 8) c.args.ys.now c.loop-i.i c.loop-i-test.false c.loop-i.ys c.loop-i.invariant.y_filling
