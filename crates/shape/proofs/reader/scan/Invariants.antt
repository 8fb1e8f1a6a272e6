-- `shape::reader::scan`: what is left to look at from the i-th position on has the fault of the whole.
use Rattle.std.proofs.Common.{◌≡◌, ◌+◌, ◌*◌, ◌≤◌, length}
use Rattle.shape.specs.Reading.{coordinates}
use Rattle.shape.proofs.Scanned.{scanned, from}
use Rattle.shape.proofs.reader.scan.Given as goal

abbrev pub invariant-loop-i : goal.invariant-loop-i
invariant-loop-i l = record {
  there : l.at + 16 * l.i ≤ length l.s;
  same : from 16 (coordinates 2 l.order l.s) l.n l.at l.i ≡ scanned (2 * l.n) l.order l.s l.at;
}
