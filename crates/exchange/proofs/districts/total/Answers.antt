-- `exchange::districts::total` meets its contract.
use Rattle.std.proofs.Common.{◌≡◌, ◌∙◌, sum, rules}
use Rattle.exchange.proofs.DistrictWriting.{total_is}
use Rattle.exchange.proofs.districts.total.Goals as goal

pub returns : goal.returns
returns c = let h : c.sum.result ≡ sum c.args.lengths.now = search rules in h ∙ total_is c.args.lengths.now
