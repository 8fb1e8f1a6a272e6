-- `host::polygon_of`: the draw, and then the writer over the used part of its ring.
use Rattle.std.proofs.Common.{sym, ap, ◌∙◌, arith}
use Rattle.shape.proofs.Asking.{hands_on}
use Rattle.host.proofs.Rounds.{drew_refusal, drew_outline}
use Rattle.host.proofs.polygon_of.Goals as goal

pub returns-in_err-tally : goal.returns-in_err-tally
returns-in_err-tally c =
    let a = c.args in
    let p = c.requires in
    let e = drew_refusal a.xs.now a.ys.now a.corners.now a.limit _ _ _ a.out.now (omega arith) (omega arith) (omega arith) c.draw.result c.draw.ensures.answers _ c.in_err-tally.was in
    record {
      result_value = hands_on _ _ c.from_residual.ensures.1 ∙ sym (ap (λ x. x.answer) e);
      out_after = sym (ap (λ x. x.out) e);
    }

pub returns : goal.returns
returns c =
    let a = c.args in
    let p = c.requires in
    let e = drew_outline a.xs.now a.ys.now a.corners.now a.limit _ _ _ a.out.now (omega arith) (omega arith) (omega arith) c.draw.result c.draw.ensures.answers _ c.draw.new.ring _ c.in_ok-tally.was c.draw.ensures.ring_is c.outline.ensures in
    record {
      result_value = c.write_ring.ensures.result_value ∙ sym (ap (λ x. x.answer) e);
      out_after = c.write_ring.ensures.out_after ∙ sym (ap (λ x. x.out) e);
    }
