-- `shape::reader::scan` meets its contract.
use Rattle.std.proofs.Common.{◌+◌, ◌*◌, ap, ◌∙◌, arith}
use Rattle.shape.specs.Answers.{asked}
use Rattle.shape.specs.Reading.{coordinates}
use Rattle.shape.proofs.Asking.{hands_on}
use Rattle.shape.proofs.Heads.{coordinates_there}
use Rattle.shape.proofs.Scanned.{positions_asked, from_first, from_stop, from_next, from_last}
use Rattle.shape.proofs.reader.scan.Goals as goal

pub loop-i-init : goal.loop-i-init
loop-i-init c =
    let o = c.args.order in
    let s = c.args.s.now in
    record {
      there = omega arith;
      same = from_first 16 (coordinates 2 o s) c.args.n c.args.at ∙ ap (λ qs. asked qs (tt {0})) (positions_asked c.args.n o s c.args.at);
    }

pub returns-in_err-position_fault : goal.returns-in_err-position_fault
returns-in_err-position_fault c =
    hands_on _ c.in_err-position_fault.field-0.0 c.from_residual.ensures.1
    ∙ from_stop 16 (coordinates 2 c.args.order c.args.s.now) c.args.n c.args.at c.loop-i.i c.loop-i-test.true c.in_err-position_fault.ensures ∙ c.loop-i.invariant.same

pub loop-i-preserved : goal.loop-i-preserved
loop-i-preserved c =
    let o = c.args.order in
    let s = c.args.s.now in
    let i = c.loop-i.i in
    record {
      there = omega (arith, coordinates_there 2 o s (c.args.at + 16 * i) c.loop-i.invariant.there c.in_ok-position_fault.ensures);
      same = from_next 16 (coordinates 2 o s) c.args.n c.args.at i c.loop-i-test.true c.in_ok-position_fault.ensures ∙ c.loop-i.invariant.same;
    }

pub returns : goal.returns
returns c = from_last 16 (coordinates 2 c.args.order c.args.s.now) c.args.n c.args.at c.loop-i.i c.loop-i-test.false ∙ c.loop-i.invariant.same
