-- The state before the first peel.
use native.Mathlib.Omega.{arith}
use Rattle.std.proofs.Common.{◌∙◌}
use Rattle.rim.proofs.Plain.{plain}
use Rattle.rim.proofs.Begun.{fresh, filled_long}
use Rattle.rim.proofs.office.Taken.begin.Goals as goal

pub invariant_of-sides : goal.invariant_of-sides
invariant_of-sides c =
    let o = c.args.self.now.sheet in
    let a = plain o.acceptable in
    record { single = a.single; whole = a.corners_bound.1; short = a.corners_bound.2; mates = o.mates }

pub mark_rim-requires : goal.mark_rim-requires
mark_rim-requires c = (omega (arith, filled_long _ _ _ _ c.requires.0 c.fill.ensures, c.requires.0), c.requires.1, (plain c.args.self.now.sheet.acceptable).numbered)

pub returns-clause-state : goal.returns-clause-state
returns-clause-state c =
    let o = c.args.self.now in
    let e = c.fresh.ensures in
    (fresh _ _ _ _ (plain o.sheet.acceptable) o.sheet.mates _ _ _ _ c.requires.0 c.requires.1 c.fill.ensures c.mark_rim.ensures e.0 (e.1 ∙ c.area_all-area.ensures) (e.2 ∙ o.hull_is), e.0)
