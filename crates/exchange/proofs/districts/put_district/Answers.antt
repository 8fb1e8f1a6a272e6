-- `exchange::districts::put_district` meets its contract.
use Rattle.std.proofs.Common.{arith}
use Rattle.exchange.proofs.DistrictWriting.{put_district}
use Rattle.exchange.proofs.districts.put_district.Goals as goal

pub returns : goal.returns
returns c =
    put_district c.args.lengths.now c.args.xs.now c.args.ys.now c.args.out.now c.put_district_head.new.out c.put_polygons.new.out
    (omega (arith, c.requires.lengths_in_bounds)) c.put_district_head.ensures c.put_polygons.ensures
