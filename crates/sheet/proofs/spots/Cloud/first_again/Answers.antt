-- A search from 0 up, that chains the points it has passed. Assumes nothing.
use Rattle.std.proofs.Common.{◌<◌, sym, ◌∙◌, arith, length, get_or}
use Rattle.laws.proofs.Fill.{length-table}
use Rattle.laws.proofs.Search.{starts, goes_on}
use Rattle.laws.proofs.Find.{lowest_hit, lowest_none}
use Rattle.sheet.specs.Office.{again}
use Rattle.sheet.specs.Code.{cloud, bucket}
use Rattle.sheet.proofs.Chain.{chains_none, chains_one}
use Rattle.sheet.proofs.Again.{bucket_at}
use Rattle.sheet.proofs.spots.Cloud.first_again.Goals as goal

pub loop-p-init : goal.loop-p-init
loop-p-init c = (starts, chains_none _ _)

pub returns-then-is_again : goal.returns-then-is_again
returns-then-is_again c = lowest_hit (again (cloud c.args.self.now.xs.now c.args.self.now.ys.now)) (length c.args.self.now.xs.now) c.loop-p.p c.loop-p-test.true c.loop-p.invariant.0.clear (sym c.is_again.ensures ∙ c.if-is_again.true)

pub loop-p-preserved : goal.loop-p-preserved
loop-p-preserved c =
    let i = c.loop-p.invariant in
    let l = c.loop-p-test.true in
    let low : c.bucket_of-b.result < 1024 = omega (arith, c.bucket_of-b.ensures) in
    let long = length-table (λ q. bucket (get_or c.args.self.now.xs.now q 0) (get_or c.args.self.now.ys.now q 0)) (length c.args.self.now.xs.now) in
    (goes_on i.0 l c.is_again.ensures c.if-is_again.false, chains_one i.1 c.bucket_of-b.result (c.bucket_of-b.ensures ∙ sym (bucket_at c.args.self.now.xs.now c.args.self.now.ys.now c.loop-p.p l)) low (omega (arith, l, long)) (omega (arith, c.requires, long)))

pub returns : goal.returns
returns c = lowest_none (again (cloud c.args.self.now.xs.now c.args.self.now.ys.now)) (length c.args.self.now.xs.now) (λ k l. c.loop-p.invariant.0.clear k (omega (arith, l, c.loop-p-test.false)))
