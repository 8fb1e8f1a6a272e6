-- Each coefficient by its weights. Assumes nothing.
use Rattle.std.proofs.Common.{rules, ◌≡◌, ◌≤◌, sym, subst, nat_abs, w32, w64, to_z, of_z, ◌∙◌}
use mir.Facts.{to_z-of_z}
use Rattle.sheet.specs.Plane.{turn}
use Rattle.sheet.specs.Code.{Coefficients}
use Rattle.sheet.specs.Values.{at}
use Rattle.sheet.proofs.Length.{turn_bound}
use Rattle.sheet.proofs.Linear.{got, weighed, coefficients_fit}
use Rattle.sheet.proofs.circles.circle_through.Goals as goal

values : (c : goal.After-from)
    → Coefficients (at c.args.a) (at c.args.b) (at c.args.c) (to_z w64 (of_z w64 c.weighted.result)) (to_z w64 (of_z w64 c.weighted-2.result)) (to_z w64 (of_z w64 c.weighted-3.result)) (to_z w64 (of_z w64 c.from.result))
values c =
    let lift : c.from.result ≡ turn (at c.args.a) (at c.args.b) (at c.args.c) = c.from.ensures ∙ (to_z-of_z {w = w32} (search rules) ∙ c.turn.ensures) in
    record {
      across_is = to_z-of_z {w = w64} (search rules) ∙ c.weighted.ensures
          ∙ weighed (got c.lifted-u.ensures) (got c.gap.ensures) (got c.lifted-v.ensures) (got c.gap-2.ensures) (got c.lifted-w.ensures) (got c.gap-3.ensures);
      up_is = to_z-of_z {w = w64} (search rules) ∙ c.weighted-2.ensures
          ∙ weighed (got c.lifted-u.ensures) (got c.gap-4.ensures) (got c.lifted-v.ensures) (got c.gap-5.ensures) (got c.lifted-w.ensures) (got c.gap-6.ensures);
      rest_is = to_z-of_z {w = w64} (search rules) ∙ c.weighted-3.ensures
          ∙ weighed (got c.lifted-u.ensures) (got c.cross.ensures) (got c.lifted-v.ensures) (got c.cross-2.ensures) (got c.lifted-w.ensures) (got c.cross-3.ensures);
      lift_is = got (lift, subst (λ z. nat_abs z ≤ 536805378) (sym lift) (turn_bound (at c.args.a) (at c.args.b) (at c.args.c) c.args.a.small c.args.b.small c.args.c.small));
    }

pub invariant_of-result : goal.invariant_of-result
invariant_of-result c =
    let f = coefficients_fit c.args.a.small c.args.b.small c.args.c.small (values c) in
    record { fits = (f.across_fits, f.up_fits, f.rest_fits, f.lift_fits) }

pub returns : goal.returns
returns c = values c.before
