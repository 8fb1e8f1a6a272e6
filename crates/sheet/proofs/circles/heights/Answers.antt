-- A table is filled from the front. Assumes nothing.
use Rattle.laws.proofs.Fill.{filling}
use Rattle.sheet.proofs.circles.heights.Goals as goal

pub returns : goal.returns
returns c = search filling
