-- The rim sides from a point and from where the first of them ends. Assumes nothing.
use Rattle.std.proofs.Common.{◌≡◌, ◌<◌, ap, subst, ◌∙◌, arith}
use Rattle.laws.specs.First.{first}
use Rattle.sheet.specs.Office.{sides, tail, next}
use Rattle.sheet.specs.Code.{At, leaves}
use Rattle.sheet.specs.Values.{office_of}
use Rattle.sheet.proofs.Neat.{smooth_from}
use Rattle.sheet.proofs.Side.{next_below}
use Rattle.sheet.proofs.spots.Plot.is_odd.Goals as goal

pub returns-then-self-s : goal.returns-then-self-s
returns-then-self-s c e l x =
    let p = c.args.self.now.plotted in
    absurd (omega (arith, l, c.from-s.ensures, c.requires.leaving c.args.p (omega (arith, c.requires.point, p.few)), c.if-self-s.true))

pub returns : goal.returns
returns c =
    let o = office_of c.args.self.now in
    let p = c.args.self.now.plotted in
    let side_is : c.from-s.result ≡ first (leaves o.corners c.args.p) (sides o) = c.from-s.ensures ∙ c.requires.leaving c.args.p (omega (arith, c.requires.point, p.few)) in
    let head_is = c.from-q.ensures ∙ ap (tail o) c.next_of.ensures in
    let low : c.from-q.result < 1024 = omega (arith, head_is, p.numbered (next c.from-s.result) (next_below _ c.from-s.result p.whole c.if-self-s.false), p.few) in
    let onward_is : c.from-r.result ≡ first (leaves o.corners c.from-q.result) (sides o) = c.from-r.ensures ∙ c.requires.leaving c.from-q.result low in
    smooth_from o c.args.p c.from-s.result c.from-q.result c.from-r.result side_is c.if-self-s.false head_is onward_is c.if-self-r.false
    c.point.ensures c.point-2.ensures (subst (λ k. At o (tail o k) c.corner.result.x c.corner.result.y) c.next_of-2.ensures c.corner.ensures) c.is_wrong.ensures
