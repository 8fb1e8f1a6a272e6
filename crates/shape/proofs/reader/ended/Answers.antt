-- `shape::reader::ended` meets its contract.
use Rattle.shape.proofs.Asking.{asking}
use Rattle.shape.proofs.reader.ended.Goals as goal

pub returns-then-end-s : goal.returns-then-end-s
returns-then-end-s c = search asking depth 5

pub returns : goal.returns
returns c = search asking depth 5
