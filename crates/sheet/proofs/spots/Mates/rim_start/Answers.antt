-- The first rim side, or the place past the last. Assumes nothing.
use Rattle.std.proofs.Common.{rules, ap, ◌∙◌, length, get_or, unwrap_or}
use Rattle.laws.proofs.Find.{lowest_from_find, first_of_lowest}
use Rattle.sheet.specs.Office.{bare, rim}
use Rattle.sheet.proofs.spots.Mates.rim_start.Goals as goal

pub returns : goal.returns
returns c =
    let corners = c.args.self.now.corners.now in
    c.corner_or_zero.ensures
    ∙ ap (λ s. get_or corners s 0)
    (c.unwrap_or.ensures ∙ ap (λ r. unwrap_or r (length corners)) (lowest_from_find (rim (bare corners)) (length corners) _ c.find-first.ensures.ran (λ x q k. search rules) (λ x q k. search rules)) ∙ first_of_lowest (rim (bare corners)) (length corners))
