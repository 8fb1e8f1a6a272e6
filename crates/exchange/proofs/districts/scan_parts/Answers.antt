-- `exchange::districts::scan_parts` meets its contract.
use Rattle.std.proofs.Common.{◌≡◌, ℕ, ◌-◌, ap, ◌∙◌, arith}
use Rattle.shape.proofs.Asking.{hands_on}
use Rattle.shape.proofs.Polygons.{polygon_good}
use Rattle.exchange.proofs.Parts.{parted, part_last, part_stops, part_passes}
use Rattle.exchange.proofs.districts.scan_parts.Goals as goal

pub loop-init : goal.loop-init
loop-init c =
    let e : c.args.k - 0 ≡ c.args.k = omega arith in
    record { there = c.requires; same = ap (λ (k : ℕ). parted c.args.s.now k c.args.at c.args.room) e }

pub returns-in_err-n : goal.returns-in_err-n
returns-in_err-n c =
    hands_on _ c.in_err-n.field-0.0 c.from_residual.ensures.1
    ∙ part_stops c.args.s.now c.args.k c.loop.counter c.loop.place c.loop.left c.loop-test.true _ _ c.in_err-n.ensures ∙ c.loop.invariant.same

pub overflow_mul-place : goal.overflow_mul-place
overflow_mul-place c = let r = polygon_good c.args.s.now c.loop.place c.loop.left c.in_ok-n.n c.in_ok-n.ensures in omega (arith, r.head.most)

pub overflow_add-place : goal.overflow_add-place
overflow_add-place c = let r = polygon_good c.args.s.now c.loop.place c.loop.left c.in_ok-n.n c.in_ok-n.ensures in omega (arith, r.head.most)

pub overflow_add-place-in-loop : goal.overflow_add-place-in-loop
overflow_add-place-in-loop c =
    let r = polygon_good c.args.s.now c.loop.place c.loop.left c.in_ok-n.n c.in_ok-n.ensures in
    omega (arith, r.whole)

pub overflow_sub-left : goal.overflow_sub-left
overflow_sub-left c = let r = polygon_good c.args.s.now c.loop.place c.loop.left c.in_ok-n.n c.in_ok-n.ensures in omega (arith, r.head.fits)

pub loop-preserved : goal.loop-preserved
loop-preserved c =
    let l = c.loop in
    let r = polygon_good c.args.s.now l.place l.left c.in_ok-n.n c.in_ok-n.ensures in
    record {
      there = omega (arith, r.whole);
      same = part_passes c.args.s.now c.args.k l.counter l.place l.left c.loop-test.true c.in_ok-n.n c.in_ok-n.ensures ∙ l.invariant.same;
    }

pub returns : goal.returns
returns c =
    let l = c.loop in
    part_last c.args.s.now c.args.k l.counter l.place l.left c.loop-test.false ∙ l.invariant.same
