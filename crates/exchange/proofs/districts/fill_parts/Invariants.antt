-- `exchange::districts::fill_parts`: what is left to fill makes the lists what the whole makes of them.
use Rattle.std.proofs.Common.{◌≡◌, ◌-◌, ◌≤◌, length, min}
use Rattle.std.proofs.lemmas.List.Edits.{sets}
use Rattle.exchange.specs.Districts.{parts_xs, parts_ys, part_lengths}
use Rattle.exchange.proofs.Parts.{Fine}
use Rattle.exchange.proofs.districts.fill_parts.Given as goal

abbrev pub invariant-loop-i : goal.invariant-loop-i
invariant-loop-i l = record {
  within : l.from ≤ min (length l.initial.xs) (length l.initial.ys);
  fine : Fine l.s (l.k - l.i) l.place (min (length l.initial.xs) (length l.initial.ys) - l.from);
  xs_same : sets l.xs l.from (parts_xs l.s (l.k - l.i) l.place) ≡ sets l.initial.xs 0 (parts_xs l.s l.k l.at);
  ys_same : sets l.ys l.from (parts_ys l.s (l.k - l.i) l.place) ≡ sets l.initial.ys 0 (parts_ys l.s l.k l.at);
  lengths_same : sets l.lengths l.i (part_lengths l.s (l.k - l.i) l.place) ≡ sets l.initial.lengths 0 (part_lengths l.s l.k l.at);
}
