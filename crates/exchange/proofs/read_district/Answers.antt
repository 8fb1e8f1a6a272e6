-- `exchange::read_district` meets its contract: the file is scanned, and only then the lists are filled.
use Rattle.std.proofs.Common.{◌≤◌, min, length, ap, ◌∙◌, arith}
use Rattle.shape.proofs.Scanned.{filled_list}
use Rattle.exchange.specs.Districts.{total, ring_count, part_lengths, parts_xs, parts_ys, district_answer}
use Rattle.exchange.proofs.DistrictFiles.{count_is_read, few_places, all_fine}
use Rattle.exchange.proofs.Parts.{total_fits, xs_length, ys_length, lengths_length}
use Rattle.exchange.proofs.read_district.Goals as goal

pub fill_parts-requires : goal.fill_parts-requires
fill_parts-requires c =
    let s = c.args.block.now in
    let p = length c.args.lengths.now in
    let answer = c.in_ok-n.ensures ∙ ap (district_answer s p) c.min.ensures in
    record {
      at_value = all_fine s p _ c.in_ok-n.n answer;
      k_in_bounds = few_places s p _ c.in_ok-n.n answer;
    }

pub returns : goal.returns
returns c =
    let s = c.args.block.now in
    let p = length c.args.lengths.now in
    let n = c.in_ok-n.n in
    let answer = c.in_ok-n.ensures ∙ ap (district_answer s p) c.min.ensures in
    let is = count_is_read s p _ n answer in
    let q = c.fill_parts.ensures in
    let fits : total (part_lengths s n 9) ≤ min (length c.args.xs.now) (length c.args.ys.now) = total_fits s n 9 _ (all_fine s p _ n answer) in
    record {
      result_value = answer;
      xs_after = filled_list (parts_xs s) n (ring_count s) 9 is c.args.xs.now _ (omega (arith, xs_length s n 9)) q.xs_after;
      ys_after = filled_list (parts_ys s) n (ring_count s) 9 is c.args.ys.now _ (omega (arith, ys_length s n 9)) q.ys_after;
      lengths_after =
          filled_list (part_lengths s) n (ring_count s) 9 is c.args.lengths.now _ (omega (arith, lengths_length s n 9, few_places s p _ n answer)) q.lengths_after;
    }
