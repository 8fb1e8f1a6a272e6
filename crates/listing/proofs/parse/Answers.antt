-- `listing::parse` meets its contract. Assumes nothing.
use Rattle.std.proofs.Common.{◌≡◌, rules, true}
use mathlib.Core.Option.{some}
use Rattle.listing.specs.Text.{numbers, counted, point_count, triangle_count}
use Rattle.listing.proofs.Parsing.{lays}
use Rattle.listing.proofs.parse.Goals as goal

pub returns : goal.returns
returns c =
    let a = c.args in
    let ns = c.in_ok-numbers.numbers.now in
    let e : numbers a.text.now ≡ some ns = search rules in
    let k : counted ns ≡ true = search rules in
    let p : c.in_ok-counts.counts.points ≡ point_count ns = search rules in
    let t : c.in_ok-counts.counts.triangles ≡ triangle_count ns = search rules in
    let l = lays a.text.now a.xs.now a.ys.now a.corners.now ns e k p t c.if-xs-counts.false c.split_at.ensures.front c.split_at.ensures.back
    c.fill_points.ensures.xs_after c.fill_points.ensures.ys_after c.copy_from_slice.ensures.after in
    record { result_value = l.0; xs_after = l.1; ys_after = l.2; corners_after = l.3; roomy = search rules }
