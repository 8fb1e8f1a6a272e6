-- Each point is asked. Assumes nothing.
use Rattle.std.proofs.Common.{rules, length}
use Rattle.laws.proofs.Find.{each_from_any}
use Rattle.laws.proofs.Test.{not_iff, false_iff}
use Rattle.sheet.specs.Quick.{SmoothFrom}
use Rattle.sheet.specs.Values.{office_of}
use Rattle.sheet.proofs.spots.Plot.is_convex.Goals as goal

pub returns : goal.returns
returns c e =
    let o = office_of c.args.self.now in
    let low = c.lowest_point-lowest.result in
    (low, each_from_any (SmoothFrom o low) (length o.xs) _ c.any.ensures.ran (λ x q k. search rules) (false_iff.1 ((not_iff {a = c.any.result}).0 e)))
