use Rattle.std.proofs.Common.{◌≡◌, ◌<◌, length}
use Rattle.laws.proofs.Visit.{Visited}
use Rattle.sheet.specs.Office.{bare, start, after}
use Rattle.sheet.proofs.spots.Mates.goes_round.Given as goal

abbrev pub invariant-loop : goal.invariant-loop
invariant-loop l =
    Visited (after (bare l.self.corners.now)) (start (bare l.self.corners.now)) l.rim l.seen l.p l.counter
    × (l.p < 1024)
    × (length l.seen ≡ 1024)
