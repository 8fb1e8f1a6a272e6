-- `exchange::judge` meets its contract.
use Rattle.std.proofs.Common.{ℕ, [], ◌∷◌, ap, ◌∙◌}
use Rattle.shape.specs.Answers.{gives}
use Rattle.shape.specs.Bytes.{order_of, order_asks}
use Rattle.shape.specs.Coordinates.{coordinate_at, whole}
use Rattle.shape.proofs.Asking.{hands_on, passes_all, stops_first, refused_other, gives_other}
use Rattle.shape.proofs.Shapes.{order_found}
use Rattle.exchange.proofs.judge.Goals as goal

pub returns-in_err-order : goal.returns-in_err-order
returns-in_err-order c =
    let o = c.args.order in
    let s = c.args.block.now in
    let p = c.args.place in
    stops_first (order_asks o 0) (whole 8 s p ∷ []) (order_of o) (coordinate_at o s p) _ _ c.in_err-order.ensures (hands_on _ c.in_err-order.field-0.0 c.from_residual.ensures.1)

pub returns-in_err-whole : goal.returns-in_err-whole
returns-in_err-whole c =
    let o = c.args.order in
    let s = c.args.block.now in
    let p = c.args.place in
    passes_all (order_asks o 0) (whole 8 s p ∷ []) (order_of o) (coordinate_at o s p) c.in_ok-order.ensures
    (refused_other (whole 8 s p ∷ []) (tt {0}) (coordinate_at o s p) _ _ c.in_err-whole.ensures.result_value
    (hands_on _ c.in_err-whole.field-0.0 c.from_residual-in_err-whole.ensures.1))

pub returns : goal.returns
returns c =
    let o = c.args.order in
    let s = c.args.block.now in
    let p = c.args.place in
    passes_all (order_asks o 0) (whole 8 s p ∷ []) (order_of o) (coordinate_at o s p) c.in_ok-order.ensures
    (gives_other (whole 8 s p ∷ []) (tt {0}) (coordinate_at o s p) (tt {0}) c.in_ok-whole.ensures.result_value
    (ap gives (c.coordinate_at.ensures ∙ ap (λ (k : ℕ). coordinate_at k s p) (order_found o 0 c.in_ok-order.ensures))))
