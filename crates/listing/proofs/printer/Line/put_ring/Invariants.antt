-- Putting what is left of the ring makes the line what the whole makes of it. Assumes nothing.
use Rattle.std.proofs.Common.{◌≡◌, ◌≤◌, ◌+◌, ◌*◌, length, drop}
use Rattle.listing.specs.Line.{onward}
use Rattle.listing.specs.Code.{Puts}
use Rattle.listing.specs.declared.printer.Line.{Line}
use Rattle.listing.proofs.printer.Line.put_ring.Given as goal

abbrev pub invariant-loop-p : goal.invariant-loop-p
invariant-loop-p l = record {
  long : length l.self.out.now ≡ length l.fn.self.out.now;
  bound : l.self.at ≤ l.fn.self.at + 21 * l.p-index;
  rest : (end : Line) → Puts l.self end (onward (drop l.p-index l.ring)) → Puts l.fn.self end (onward l.ring);
}
