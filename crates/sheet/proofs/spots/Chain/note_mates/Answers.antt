-- One more side to the point at a time. Assumes nothing.
use Rattle.std.proofs.Common.{◌≡◌, ◌&&◌, sym, ap, subst, ◌∙◌, cond, ltb, eqb, length, get_or}
use lib.ListN.{set}
use Rattle.sheet.specs.Office.{last, mate_of}
use Rattle.sheet.proofs.Pairing.{Latest, Righting, latest_falls, rights_none, rights_one, next_right, pair_right}
use Rattle.sheet.proofs.spots.Chain.note_mates.Goals as goal

pub loop-s-init : goal.loop-s-init
loop-s-init c = let s = c.args.self.now in rights_none s.corners.now c.args.p c.args.mate.now s.short _ c.told-mate c.requires.numbered.1

next_is : (c : goal.After-from-s) → Latest c.args.self.now.corners.now c.args.p c.loop-s.s c.from-s.result
next_is c =
    let s = c.args.self.now in
    let l = c.loop-s-test.true in
    next_right s.corners.now c.args.p c.args.mate.now s.short c.loop-s.invariant l (c.from-s.ensures ∙ s.chained c.loop-s.s (c.loop-s.invariant.here l))

pub loop-s-smaller : goal.loop-s-smaller
loop-s-smaller c = latest_falls (next_is c) c.loop-s-test.true

pub loop-s-preserved : goal.loop-s-preserved
loop-s-preserved c =
    let s = c.args.self.now in
    let i = c.loop-s.invariant in
    let l = c.loop-s-test.true in
    let tail_is = c.from-q.ensures ∙ ap (λ k. get_or s.corners.now k 0) c.last_of-l.ensures in
    let right : c.mate_noted.result ≡ mate_of s.corners.now (last c.loop-s.s) =
    c.mate_noted.ensures
    ∙ ap (λ q. cond (ltb (get_or c.args.noted.now q 0) 65535 && eqb (get_or s.corners.now (get_or c.args.noted.now q 0) 0) c.args.p) (get_or c.args.noted.now q 0) (length s.corners.now)) tail_is
    ∙ pair_right s.corners.now c.args.p c.args.noted.now s.short c.requires.numbered.0 s.whole c.requires.noted_all.0 c.requires.noted_all.1 c.loop-s.s (i.here l) (i.from l) in
    subst (λ k. Righting s.corners.now c.args.p c.args.mate.now (set c.loop-s.mate k c.mate_noted.result) c.from-s.result) (sym c.last_of-l.ensures) (rights_one s.corners.now c.args.p c.args.mate.now s.short i l c.mate_noted.result right s.whole (next_is c))
