-- `exchange::districts::put_polygons`: what is left to put makes the output what the whole makes of it, and the lists and the output hold what
-- is left.
use Rattle.std.proofs.Common.{◌≡◌, length, replicate}
use Rattle.std.proofs.lemmas.List.Edits.{sets}
use Rattle.exchange.specs.Districts.{polygons}
use Rattle.exchange.proofs.DistrictWriting.{Holds, left}
use Rattle.exchange.proofs.districts.put_polygons.Given as goal

abbrev pub invariant-loop-length : goal.invariant-loop-length
invariant-loop-length l = record {
  holds : Holds l.lengths l.xs l.ys l.length-index l.from (length l.initial.out) l.at;
  same : sets l.out l.at (left l.lengths l.xs l.ys l.length-index l.from) ≡ sets l.initial.out 0 (polygons (replicate (length l.lengths) 1) l.lengths l.xs l.ys);
}
