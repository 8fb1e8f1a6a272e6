-- The three sides of a triangle. Assumes nothing.
use Rattle.sheet.proofs.Chain.{double_is}
use Rattle.sheet.proofs.spots.Chain.is_double.Goals as goal

pub returns : goal.returns
returns c = let s = c.args.self.now in double_is s.corners.now c.requires.1 s.whole c.args.t c.requires.0 c.is_repeated.ensures c.is_repeated-2.ensures c.is_repeated-3.ensures
