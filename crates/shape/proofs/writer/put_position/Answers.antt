-- `shape::writer::put_position` meets its contract.
use Rattle.std.proofs.Common.{◌∙◌, to_bits}
use Rattle.std.specs.Float.{binary64}
use Rattle.shape.proofs.Octets.{put_both}
use Rattle.shape.proofs.writer.put_position.Goals as goal

pub returns : goal.returns
returns c =
    put_both c.args.out.now c.args.at (to_bits binary64 c.args.p.x) (to_bits binary64 c.args.p.y) c.requires.at_in_bounds
    (c.copy_from_slice.ensures.after ∙ c.to_le_bytes.ensures) (c.copy_from_slice-2.ensures.after ∙ c.to_le_bytes-2.ensures)
