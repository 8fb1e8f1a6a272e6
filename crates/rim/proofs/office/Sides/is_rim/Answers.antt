-- A side is on the rim where its triangle is kept, and its mate's is not.
use native.Mathlib.Omega.{arith}
use Rattle.rim.proofs.Mated.{rim_there, rim_absent}
use Rattle.rim.proofs.office.Sides.is_rim.Goals as goal

pub returns-then-m-self : goal.returns-then-m-self
returns-then-m-self c =
    let o = c.args.self.now in
    rim_there o.corners.now o.mate.now c.args.kept.now o.single o.whole c.args.s _ c.requires.0 o.mates c.from-m.ensures (omega arith)

pub returns : goal.returns
returns c =
    let o = c.args.self.now in
    rim_absent o.corners.now o.mate.now c.args.kept.now o.single o.whole c.args.s _ c.requires.0 o.mates c.from-m.ensures (omega arith)
