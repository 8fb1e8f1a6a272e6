-- One more point at a time. Assumes nothing.
use mathlib.Core.Bool.{true≢false}
use Rattle.sheet.proofs.Pairing.{pairs_none, pairs_one, pairs_all}
use Rattle.sheet.proofs.sides.pair_sides.Goals as goal

pub loop-p-init : goal.loop-p-init
loop-p-init c = pairs_none c.args.corners.now _ c.told-mate

pub loop-p-preserved : goal.loop-p-preserved
loop-p-preserved c = pairs_one c.args.corners.now c.loop-p.invariant (c.note_ends.ensures.0 c.if-not-note_ends.false) c.note_mates.ensures

pub returns : goal.returns
returns c = ((λ e. pairs_all c.args.corners.now c.loop-p.invariant c.loop-p-test.false c.requires.2 c.requires.0 c.requires.1), (λ e. absurd (true≢false e)))
