-- Each point is asked. Assumes nothing.
use Rattle.std.proofs.Common.{rules, ℕ, Bool, pos, ◌∙◌, length, get_or}
use lib.Signed.{lt_z}
use Rattle.std.proofs.lemmas.Iterator.{serves_from_Range}
use Rattle.laws.proofs.Find.{any_from_any, any_same}
use Rattle.sheet.specs.Code.{linear}
use Rattle.sheet.specs.Values.{office_of}
use Rattle.sheet.proofs.Linear.{inside_at, height_fits}
use Rattle.sheet.proofs.circles.is_invaded.Goals as goal

pub any-requires-clause-callable : goal.any-requires-clause-callable
any-requires-clause-callable c = serves_from_Range (λ x q k. search rules) (λ x low high. let h = height_fits (office_of c.args.plot.now) x c.args.heights.now c.args.plot.now.plotted c.requires.heights_value high in search rules)

pub returns : goal.returns
returns c =
    let o = office_of c.args.plot.now in
    let k = c.circle_through-circle.result in
    let here : ℕ → Bool = λ p. lt_z (pos 0) (linear k.across k.up k.rest k.lift (get_or o.xs p 0) (get_or o.ys p 0) (get_or c.args.heights.now p 0)) in
    any_from_any here (length o.xs) _ c.any.ensures.ran (λ x q k. search rules) (λ x q k. search rules)
    ∙ any_same (λ p l. inside_at o c.args.t p c.args.heights.now c.corner.ensures c.corner-2.ensures c.corner-3.ensures c.circle_through-circle.ensures c.requires.heights_value l)
