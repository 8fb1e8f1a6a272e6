-- `exchange::districts::are_rings` meets its contract.
use Rattle.std.proofs.Common.{◌&&◌, leb, length, eq-eqb, rules}
use borrow.Author.Tests.{tests}
use Rattle.std.proofs.lemmas.Iterator.{YieldsList-from_slice}
use Rattle.std.proofs.lemmas.Iterator.Search.{all_from_yields_List}
use Rattle.exchange.proofs.districts.are_rings.Goals as goal

pub returns-then-xs-ys : goal.returns-then-xs-ys
returns-then-xs-ys c =
    rw (eq-eqb (length c.args.xs.now) (length c.args.ys.now) c.if-xs-ys.true)
    (all_from_yields_List (λ n. leb 3 n && leb n 1024) _ _ _ c.all.ensures.ran (YieldsList-from_slice c.args.lengths.now cc) (λ x b q k. search (rules, tests)))
