-- Back along the chain of the side's start. Assumes nothing.
use Rattle.std.proofs.Common.{◌≡◌, ℕ, Bool, true, false, Some, None, cond, is_some, refl, ap, ◌∙◌, arith, ltb, get_or}
use Rattle.sheet.specs.Code.{side_of, back_along}
use Rattle.sheet.specs.Office.{next}
use Rattle.sheet.proofs.Chain.{latest_there, repeated_is}
use Rattle.sheet.proofs.spots.Chain.is_repeated.Goals as goal

there : (r : ℕ) → is_some (side_of r) ≡ ltb r 65535
there r = by (ltb r 65535)
  where
    by : (b : Bool) → is_some (cond b (Some r) None) ≡ b
    by true = refl
    by false = refl

pub run_back-requires : goal.run_back-requires
run_back-requires c l =
    let s = c.args.self.now in
    let there = latest_there s.corners.now (get_or s.corners.now c.args.s 0) c.args.s c.from-begun.result (c.from-begun.ensures ∙ s.chained c.args.s c.requires) (omega (arith, c.requires, s.short)) l in
    omega (arith, there, c.requires)

pub returns : goal.returns
returns c =
    let s = c.args.self.now in
    c.is_some.ensures ∙ ap is_some (c.run_back.ensures ∙ ap (λ e. side_of (back_along s.corners.now (get_or s.corners.now e 0) c.from-begun.result)) c.next_of.ensures) ∙ there (back_along s.corners.now (get_or s.corners.now (next c.args.s) 0) c.from-begun.result)
    ∙ repeated_is s.corners.now c.args.s c.from-begun.result c.requires s.short (c.from-begun.ensures ∙ s.chained c.args.s c.requires)
