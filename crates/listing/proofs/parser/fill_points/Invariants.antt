-- Below i both lists have the points' coordinates, and past the points what stood there. Assumes nothing.
use Rattle.std.proofs.Common.{◌+◌, ◌*◌, ◌/◌, length, get_or}
use Rattle.laws.proofs.Front.{Filling}
use Rattle.listing.proofs.parser.fill_points.Given as goal

abbrev pub invariant-loop-i : goal.invariant-loop-i
invariant-loop-i l = record {
  across : Filling (λ k. get_or l.points (2 * k) 0) (length l.points / 2) (length l.fn.xs) l.fn.xs l.xs l.i;
  up : Filling (λ k. get_or l.points (2 * k + 1) 0) (length l.points / 2) (length l.fn.ys) l.fn.ys l.ys l.i;
}
