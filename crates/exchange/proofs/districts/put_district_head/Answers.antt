-- `exchange::districts::put_district_head` meets its contract.
use Rattle.std.specs.Int.{to_le_bytes}
use Rattle.std.proofs.Common.{w32, ap, set, ◌∙◌, length-set}
use Rattle.shape.proofs.Octets.{put_two_fields}
use Rattle.exchange.proofs.districts.put_district_head.Goals as goal

pub returns : goal.returns
returns c =
    rw c.into.ensures
    (put_two_fields (set c.args.out.now 0 1) 6 c.args.count (simp length-set c.requires.in_bounds)
    (c.copy_from_slice.ensures.after ∙ c.to_le_bytes.ensures ∙ ap (to_le_bytes w32) c.number.ensures) (c.copy_from_slice-2.ensures.after ∙ c.to_le_bytes-2.ensures))
