-- `shape::reader::type_fault` meets its contract: it asks its questions one by one.
use Rattle.std.proofs.Common.{ℕ, ◌+◌, refl, ap, ◌∙◌}
use Rattle.shape.specs.Answers.{refused}
use Rattle.shape.proofs.Asking.{stops_above, passes_below, stops_other, passes_same, ends}
use Rattle.shape.proofs.reader.type_fault.Goals as goal

pub returns-then-s-at : goal.returns-then-s-at
returns-then-s-at c = stops_above _ _ _ _ _ _ c.if-s-at.true (ap (λ (k : ℕ). refused k c.args.at) c.number.ensures)

pub returns-then-order-gt1 : goal.returns-then-order-gt1
returns-then-order-gt1 c =
    passes_below _ _ _ _ _ _ c.if-s-at.false
    (stops_above _ 1 _ _ _ _ c.if-order-gt1.true (ap (λ (k : ℕ). refused k c.args.at) c.number-then-order-gt1.ensures))

pub returns-then-s-at-2 : goal.returns-then-s-at-2
returns-then-s-at-2 c =
    passes_below _ _ _ _ _ _ c.if-s-at.false
    (passes_below _ 1 _ _ _ _ c.if-order-gt1.false
    (stops_above _ _ _ _ _ _ c.if-s-at-2.true (ap (λ (k : ℕ). refused k (c.args.at + 1)) c.number-then-s-at-2.ensures)))

pub returns-then-from-shape : goal.returns-then-from-shape
returns-then-from-shape c =
    passes_below _ _ _ _ _ _ c.if-s-at.false
    (passes_below _ 1 _ _ _ _ c.if-order-gt1.false
    (passes_below _ _ _ _ _ _ c.if-s-at-2.false (stops_other _ _ _ _ _ _ (c.from.ensures ∙ c.number4.ensures) c.if-from-shape.true refl)))

pub returns : goal.returns
returns c =
    passes_below _ _ _ _ _ _ c.if-s-at.false
    (passes_below _ 1 _ _ _ _ c.if-order-gt1.false
    (passes_below _ _ _ _ _ _ c.if-s-at-2.false (passes_same _ _ _ _ _ _ (c.from.ensures ∙ c.number4.ensures) c.if-from-shape.false (ends (tt {0}) refl))))
