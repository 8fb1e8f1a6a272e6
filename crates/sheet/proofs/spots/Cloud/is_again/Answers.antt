-- What is left of the bucket gives the whole's answer. Assumes nothing.
use Rattle.std.proofs.Common.{sym, ap, ◌∙◌, arith, ltb, get_or}
use borrow.Author.Tests.{lt-ltb}
use Rattle.sheet.specs.Office.{same_point}
use Rattle.sheet.specs.Code.{cloud, bucket, buckets}
use Rattle.sheet.proofs.Chain.{back_starts, back_found, back_goes, back_falls, back_ends, latest_there}
use Rattle.sheet.proofs.Again.{again_is}
use Rattle.sheet.proofs.spots.Cloud.is_again.Goals as goal

pub loop-q-init : goal.loop-q-init
loop-q-init c =
    back_starts (latest_there (buckets c.args.self.now.xs.now c.args.self.now.ys.now) (bucket (get_or c.args.self.now.xs.now c.args.p 0) (get_or c.args.self.now.ys.now c.args.p 0)) c.args.p c.args.begun c.requires.latest (omega (arith, c.requires.few)))

pub returns-then-is_same_point : goal.returns-then-is_same_point
returns-then-is_same_point c =
    sym (lt-ltb _ 65535 c.loop-q-test.true)
    ∙ ap (λ r. ltb r 65535) (back_found c.loop-q.invariant c.loop-q-test.true (sym (ap (same_point (cloud c.args.self.now.xs.now c.args.self.now.ys.now) c.args.p) c.from.ensures) ∙ sym c.is_same_point.ensures ∙ c.if-is_same_point.true))
    ∙ again_is c.args.self.now.xs.now c.args.self.now.ys.now c.args.p c.args.begun c.requires.few.1 c.requires.few.0 c.requires.latest

pub loop-q-smaller : goal.loop-q-smaller
loop-q-smaller c = back_falls c.loop-q.invariant c.loop-q-test.true (ap (λ q. get_or c.args.earlier.now q 0) c.from-in-loop-q.ensures ∙ c.requires.by_index c.loop-q.q (c.loop-q.invariant.there c.loop-q-test.true))

pub loop-q-preserved : goal.loop-q-preserved
loop-q-preserved c = back_goes c.loop-q.invariant c.loop-q-test.true (sym (ap (same_point (cloud c.args.self.now.xs.now c.args.self.now.ys.now) c.args.p) c.from.ensures) ∙ sym c.is_same_point.ensures ∙ c.if-is_same_point.false) (ap (λ q. get_or c.args.earlier.now q 0) c.from-in-loop-q.ensures ∙ c.requires.by_index c.loop-q.q (c.loop-q.invariant.there c.loop-q-test.true))

pub returns : goal.returns
returns c =
    ap (λ r. ltb r 65535) (back_ends c.loop-q.invariant c.loop-q-test.false)
    ∙ again_is c.args.self.now.xs.now c.args.self.now.ys.now c.args.p c.args.begun c.requires.few.1 c.requires.few.0 c.requires.latest
