-- One more side from the point at a time. Assumes nothing.
use Rattle.std.proofs.Common.{◌≡◌, ◌<◌, ◌&&◌, sym, ap, ◌∙◌, arith, ltb, eqb, length, get_or}
use Rattle.sheet.specs.Office.{bare, tail, head, next}
use Rattle.sheet.proofs.Side.{next_below}
use Rattle.sheet.proofs.Pairing.{Latest, latest_falls, notes_none, notes_one, next_latest}
use Rattle.sheet.proofs.spots.Chain.note_ends.Goals as goal

pub loop-r-init : goal.loop-r-init
loop-r-init c = let s = c.args.self.now in notes_none s.corners.now c.args.p s.short _ _ c.requires.noted_so_far c.requires.numbered.1

next_is : (c : goal.After-from-r) → Latest c.args.self.now.corners.now c.args.p c.loop-r.r c.from-r.result
next_is c =
    let s = c.args.self.now in
    let l = c.loop-r-test.true in
    next_latest s.corners.now c.args.p s.short c.loop-r.invariant l (c.from-r.ensures ∙ s.chained c.loop-r.r (c.loop-r.invariant.here l))

pub loop-r-smaller : goal.loop-r-smaller
loop-r-smaller c = latest_falls (next_is c) c.loop-r-test.true

pub loop-r-preserved : goal.loop-r-preserved
loop-r-preserved c =
    let s = c.args.self.now in
    let r = c.loop-r.r in
    let head_is : c.from-q.result ≡ head (bare s.corners.now) r = c.from-q.ensures ∙ ap (tail (bare s.corners.now)) c.next_of.ensures in
    let low : c.from-q.result < 1024 = omega (arith, head_is, c.requires.numbered.0 (next r) (next_below (length s.corners.now) r s.whole (c.loop-r.invariant.here c.loop-r-test.true))) in
    let asked = c.is_from.ensures ∙ ap (λ v. ltb v 65535 && eqb (get_or s.corners.now v 0) c.args.p) c.from-old.ensures in
    notes_one s.corners.now c.args.p s.short c.loop-r.invariant c.loop-r-test.true c.from-q.result head_is low (sym asked ∙ c.if-is_from.false) (next_is c)
