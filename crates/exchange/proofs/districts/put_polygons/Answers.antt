-- `exchange::districts::put_polygons` meets its contract.
use Rattle.std.proofs.Common.{sym, ap, ◌∙◌, arith}
use Rattle.std.proofs.lemmas.List.Edits.{sets}
use Rattle.exchange.proofs.DistrictWriting.{turn, left_end, polygons_step}
use Rattle.exchange.proofs.districts.put_polygons.Goals as goal

pub slice_bounds-put_polygon-end : goal.slice_bounds-put_polygon-end
slice_bounds-put_polygon-end c = (turn c.from-n.ensures c.loop-length-test.true c.loop-length.invariant.holds).within_xs

pub loop-length-preserved : goal.loop-length-preserved
loop-length-preserved c =
    let l = c.loop-length in
    let t = c.loop-length-test.true in
    let h = turn c.from-n.ensures t l.invariant.holds in
    record {
      holds = h.after;
      same =
          polygons_step c.args.lengths.now c.args.xs.now c.args.ys.now l.length-index l.from l.out c.put_polygon.new.out l.at c.from-n.result c.from-n.ensures t
          h.within_xs h.within_ys (omega (arith, h.room_left, l.auto.out)) c.put_polygon.ensures ∙ l.invariant.same;
    }

pub returns : goal.returns
returns c =
    let l = c.loop-length in
    ap (sets l.out l.at) (sym (left_end c.args.lengths.now c.args.xs.now c.args.ys.now l.length-index l.from c.loop-length-test.false)) ∙ l.invariant.same
