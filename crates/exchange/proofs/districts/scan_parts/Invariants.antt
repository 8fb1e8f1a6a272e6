-- `exchange::districts::scan_parts`: what is left to look at from `place` on has the fault of the whole, or ends where it does.
use Rattle.std.proofs.Common.{◌≡◌, ◌-◌, ◌≤◌, length}
use Rattle.exchange.proofs.Parts.{parted}
use Rattle.exchange.proofs.districts.scan_parts.Given as goal

abbrev pub invariant-loop : goal.invariant-loop
invariant-loop l = record {
  there : l.place ≤ length l.s;
  same : parted l.s (l.k - l.counter) l.place l.left ≡ parted l.s l.k l.at l.room;
}
