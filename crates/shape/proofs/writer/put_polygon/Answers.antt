-- `shape::writer::put_polygon` meets its contract.
use Rattle.shape.proofs.Positions.{put_polygon}
use Rattle.shape.proofs.writer.put_polygon.Goals as goal

pub returns : goal.returns
returns c =
    put_polygon c.args.xs.now c.args.ys.now c.args.out.now c.put_head.new.out c.put_ring.new.out
    c.requires.xs_len c.requires.ring_fits c.put_head.ensures c.put_ring.ensures
