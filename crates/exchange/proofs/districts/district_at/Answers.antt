-- `exchange::districts::district_at` meets its contract: the head, the polygons, and the end.
use Rattle.std.proofs.Common.{◌∙◌}
use Rattle.shape.proofs.Asking.{hands_on}
use Rattle.shape.proofs.Heads.{none_left}
use Rattle.exchange.proofs.DistrictFiles.{head_refused, head_there, part_refused, bytes_left, all_read}
use Rattle.exchange.proofs.districts.district_at.Goals as goal

pub returns-in_err-n : goal.returns-in_err-n
returns-in_err-n c =
    hands_on _ c.in_err-n.field-0.0 c.from_residual.ensures.1 ∙ head_refused c.args.s.now c.args.places c.args.room _ _ c.in_err-n.ensures

pub scan_parts-requires : goal.scan_parts-requires
scan_parts-requires c = head_there c.args.s.now c.args.places c.in_ok-n.n c.in_ok-n.ensures

pub returns-in_err-end : goal.returns-in_err-end
returns-in_err-end c =
    hands_on _ c.in_err-end.field-0.0 c.from_residual-in_err-end.ensures.1
    ∙ part_refused c.args.s.now c.args.places c.in_ok-n.n c.in_ok-n.ensures c.args.room _ _ c.in_err-end.ensures

pub returns-in_err-ended : goal.returns-in_err-ended
returns-in_err-ended c =
    bytes_left c.args.s.now c.args.places c.in_ok-n.n c.in_ok-n.ensures c.args.room c.in_ok-end.end c.in_ok-end.ensures c.in_err-ended.ensures
    (hands_on _ c.in_err-ended.field-0.0 c.from_residual-in_err-ended.ensures.1)

pub returns : goal.returns
returns c =
    all_read c.args.s.now c.args.places c.in_ok-n.n c.in_ok-n.ensures c.args.room c.in_ok-end.end c.in_ok-end.ensures (none_left c.args.s.now c.in_ok-end.end c.in_ok-ended.ensures)
