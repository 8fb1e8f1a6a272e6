-- A triangle turns left.
use Rattle.std.proofs.Common.{sym, subst, pos, ◌<ℤ◌}
use Rattle.rim.proofs.Plain.{plain}
use Rattle.rim.proofs.Cornered.{area_read}
use Rattle.rim.proofs.office.Plan.area_of.Goals as goal

pub doubled-requires : goal.doubled-requires
doubled-requires c =
    let o = c.args.self.now in
    let a = c.corner.ensures in
    let b = c.corner-2.ensures in
    let d = c.corner-3.ensures in
    subst (λ z. pos 0 <ℤ z)
    (sym (area_read o.xs.now o.ys.now o.corners.now c.args.t a.0 a.1 b.0 b.1 d.0 d.1))
    ((plain o.acceptable).left c.args.t c.requires)
