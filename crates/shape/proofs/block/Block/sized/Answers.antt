-- `shape::block::Block::sized` meets its contract: what `size_fault` asks, and the count.
use Rattle.std.proofs.Common.{ℕ, ap, ◌∙◌}
use Rattle.shape.specs.Answers.{asked, gives}
use Rattle.shape.specs.Bytes.{code, number_at}
use Rattle.shape.specs.Reading.{size_asks}
use Rattle.shape.proofs.Asking.{hands_on, refused_other, gives_other}
use Rattle.shape.proofs.block.Block.sized.Goals as goal

pub returns-in_err-size_fault : goal.returns-in_err-size_fault
returns-in_err-size_fault c =
    let a = c.args in
    let s = a.self.now.bytes.now in
    let o = code a.self.now.order in
    refused_other (size_asks a.repeated o s a.at a.room) (tt {0}) (number_at 4 o s a.at) _ _
    (c.in_err-size_fault.ensures.result_value ∙ ap (λ (b : ℕ). asked (size_asks a.repeated b s a.at a.room) (tt {0})) c.into.ensures)
    (hands_on _ c.in_err-size_fault.field-0.0 c.from_residual.ensures.1)

pub returns : goal.returns
returns c =
    let a = c.args in
    let s = a.self.now.bytes.now in
    let o = code a.self.now.order in
    gives_other (size_asks a.repeated o s a.at a.room) (tt {0}) (number_at 4 o s a.at) _
    (c.in_ok-size_fault.ensures.result_value ∙ ap (λ (b : ℕ). asked (size_asks a.repeated b s a.at a.room) (tt {0})) c.into.ensures)
    (ap gives c.number4.ensures)
