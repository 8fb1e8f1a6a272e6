-- Each point is asked, from the first on. Assumes nothing.
use Rattle.std.proofs.Common.{rules, ◌≡◌, ◌<◌, ap, ◌∙◌, arith, ℕ, length, take, get_or, eqb}
use Rattle.std.proofs.lemmas.List.{length-take-le, get_or-take}
use Rattle.laws.specs.First.{lowest}
use Rattle.laws.proofs.Final.{final_none}
use Rattle.laws.proofs.Find.{lowest_from_position}
use Rattle.sheet.specs.Office.{bare, unused}
use Rattle.sheet.specs.Code.{starts}
use Rattle.sheet.proofs.triangles.first_unused.Goals as goal

pub returns : goal.returns
returns c =
    let corners = c.args.corners.now in
    let latest = c.args.latest.now in
    let few = c.requires.corners_len_bound in
    let long : length (take c.args.points latest) ≡ c.args.points = length-take-le c.args.points latest (omega (arith, few.1, c.told-latest)) in
    let here : (k : ℕ) → k < length (take c.args.points latest) → eqb (get_or (take c.args.points latest) k 0) 65535 ≡ unused (bare corners) k =
    λ k l.
    let b : k < c.args.points = omega (arith, long, l) in
    ap (λ side. eqb side 65535) (get_or-take c.args.points latest k 0 b ∙ c.requires.by_index k (omega (arith, b, few.1)))
    ∙ final_none 65535 (starts corners k) (length corners) (omega (arith, few.0)) in
    lowest_from_position (take c.args.points latest) 0 (λ side. eqb side 65535) (unused (bare corners)) here _ (search rules) c.position.ensures.ran (λ x q k. search rules) (λ x q k. search rules)
    ∙ ap (lowest (unused (bare corners))) long
