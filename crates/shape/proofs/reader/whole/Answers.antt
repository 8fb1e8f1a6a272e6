-- `shape::reader::whole` meets its contract: the difference does not wrap where the sum might.
use Rattle.std.proofs.Common.{arith, refl}
use Rattle.shape.proofs.Asking.{refuses, stops_above, passes_below, ends}
use Rattle.shape.proofs.reader.whole.Goals as goal
use Rattle.shape.proofs.reader.whole.Goals.{then-s-k-via-then-s-k, then-s-k-via-else-s-k+then-s-k-2}

pub returns-then-s-k-clause-result_value : goal.returns-then-s-k-clause-result_value
returns-then-s-k-clause-result_value c = stops_above _ _ _ _ _ _ (elim c.then-s-k.branch [ then-s-k-via-then-s-k w ↦ omega arith | then-s-k-via-else-s-k+then-s-k-2 w ↦ omega arith ]) (refuses c.at.ensures)

pub returns-clause-result_value : goal.returns-clause-result_value
returns-clause-result_value c = passes_below _ _ _ _ _ _ (omega arith) (ends _ refl)
