-- `exchange::write_district` meets its contract.
use Rattle.std.proofs.Common.{◌≡◌, ◌+◌, ◌*◌, ◌<◌, ◌≤◌, not, length, replicate, ap, ◌∙◌, arith}
use lib.ListN.{length-replicate}
use Rattle.laws.proofs.Put.{put_front}
use Rattle.shape.specs.Answers.{gives}
use Rattle.shape.proofs.Floats.{holds}
use Rattle.shape.proofs.Asking.{refuses, stops_call, passes_call, stops_other, passes_same, stops_above, passes_below, ends}
use Rattle.exchange.specs.Districts.{district, district_size}
use Rattle.exchange.proofs.DistrictLaws.{district_file_length}
use Rattle.exchange.proofs.DistrictWriting.{joined}
use Rattle.exchange.proofs.write_district.Goals as goal

pub returns-then-not-is_count-clause-result_value : goal.returns-then-not-is_count-clause-result_value
returns-then-not-is_count-clause-result_value c = stops_call _ 35 0 _ _ c.is_count.ensures (ap not c.if-not-is_count.true) (refuses c.at.ensures)

pub returns-then-total-xs-clause-result_value : goal.returns-then-total-xs-clause-result_value
returns-then-total-xs-clause-result_value c =
    passes_call _ 35 0 _ _ c.is_count.ensures (ap not c.if-not-is_count.false)
    (stops_other _ _ 36 0 _ _ c.total.ensures c.if-total-xs.true (refuses c.at-then-total-xs.ensures))

pub returns-then-not-are_rings-clause-result_value : goal.returns-then-not-are_rings-clause-result_value
returns-then-not-are_rings-clause-result_value c =
    passes_call _ 35 0 _ _ c.is_count.ensures (ap not c.if-not-is_count.false)
    (passes_same _ _ 36 0 _ _ c.total.ensures c.if-total-xs.false
    (stops_call _ 30 0 _ _ c.are_rings.ensures (ap not c.if-not-are_rings.true) (refuses c.at-then-not-are_rings.ensures)))

pub returns-then-not-are_low-clause-result_value : goal.returns-then-not-are_low-clause-result_value
returns-then-not-are_low-clause-result_value c =
    let h = joined c.args.lengths.now c.args.xs.now c.args.ys.now c.is_count.ensures (ap not c.if-not-is_count.false) c.total.ensures c.if-total-xs.false
    c.are_rings.ensures (ap not c.if-not-are_rings.false) in
    h.passed (length c.args.out.now) (stops_call _ 31 0 _ _ c.are_low.ensures (ap not c.if-not-are_low.true) (refuses c.at-then-not-are_low.ensures))

pub overflow_mul-size-2 : goal.overflow_mul-size-2
overflow_mul-size-2 c =
    let h = joined c.args.lengths.now c.args.xs.now c.args.ys.now c.is_count.ensures (ap not c.if-not-is_count.false) c.total.ensures c.if-total-xs.false
    c.are_rings.ensures (ap not c.if-not-are_rings.false) in
    omega (arith, h.few, h.all_xs, h.most)

pub overflow_add-size : goal.overflow_add-size
overflow_add-size c =
    let h = joined c.args.lengths.now c.args.xs.now c.args.ys.now c.is_count.ensures (ap not c.if-not-is_count.false) c.total.ensures c.if-total-xs.false
    c.are_rings.ensures (ap not c.if-not-are_rings.false) in
    omega (arith, h.few, h.all_xs, h.most)

pub overflow_add-size-2 : goal.overflow_add-size-2
overflow_add-size-2 c =
    let h = joined c.args.lengths.now c.args.xs.now c.args.ys.now c.is_count.ensures (ap not c.if-not-is_count.false) c.total.ensures c.if-total-xs.false
    c.are_rings.ensures (ap not c.if-not-are_rings.false) in
    omega (arith, h.few, h.all_xs, h.most)

pub returns-then-out-size-clause-result_value : goal.returns-then-out-size-clause-result_value
returns-then-out-size-clause-result_value c =
    let h = joined c.args.lengths.now c.args.xs.now c.args.ys.now c.is_count.ensures (ap not c.if-not-is_count.false) c.total.ensures c.if-total-xs.false
    c.are_rings.ensures (ap not c.if-not-are_rings.false) in
    let f : length c.args.out.now < district_size c.args.lengths.now = omega (arith, c.if-out-size.true, h.all_xs) in
    h.passed (length c.args.out.now)
    (passes_call _ 31 0 _ _ c.are_low.ensures (ap not c.if-not-are_low.false) (stops_above _ _ 32 0 _ _ f (refuses c.at-then-out-size.ensures)))

pub put_district-requires : goal.put_district-requires
put_district-requires c =
    let h = joined c.args.lengths.now c.args.xs.now c.args.ys.now c.is_count.ensures (ap not c.if-not-is_count.false) c.total.ensures c.if-total-xs.false
    c.are_rings.ensures (ap not c.if-not-are_rings.false) in
    record {
      lengths_len_bound = h.few;
      are_rings = holds h.sized;
      lengths_value = (h.all_xs, h.all_ys);
      lengths_in_bounds = omega (arith, c.if-out-size.false, h.all_xs);
    }

pub returns : goal.returns
returns c =
    let lengths = c.args.lengths.now in
    let xs = c.args.xs.now in
    let ys = c.args.ys.now in
    let h = joined lengths xs ys c.is_count.ensures (ap not c.if-not-is_count.false) c.total.ensures c.if-total-xs.false
    c.are_rings.ensures (ap not c.if-not-are_rings.false) in
    let size : 9 + (29 * length lengths + 16 * length xs) ≡ district_size lengths = omega (arith, h.all_xs) in
    let fits : district_size lengths ≤ length c.args.out.now = omega (arith, c.if-out-size.false, h.all_xs) in
    record {
      result_value =
          h.passed (length c.args.out.now)
          (passes_call _ 31 0 _ _ c.are_low.ensures (ap not c.if-not-are_low.false) (passes_below _ _ 32 0 _ _ fits (ends _ (ap gives size))));
      out_after =
          c.put_district.ensures
          ∙ put_front (district lengths xs ys) c.args.out.now
          (omega (arith, district_file_length 1 (replicate (length lengths) 1) lengths xs ys (length-replicate (length lengths) 1) (omega (arith, h.all_xs)) (omega (arith, h.all_ys))));
    }
