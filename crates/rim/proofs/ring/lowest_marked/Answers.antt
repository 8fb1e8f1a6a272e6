-- The first that is found.
use Rattle.std.proofs.Common.{◌≡◌, ◌∙◌, eqb, get_or, true, false, rules}
use Rattle.std.proofs.lemmas.Iterator.{first_from_Range}
use Rattle.rim.proofs.Lowest.{found_first}
use Rattle.rim.proofs.ring.lowest_marked.Goals as goal

pub returns : goal.returns
returns c =
    let rim = c.args.rim.now in
    c.unwrap_or.ensures
    ∙ found_first (λ p. eqb (get_or rim p 0) 1) c.args.points c.find.result
    (first_from_Range _ _ _ _ (λ p. eqb (get_or rim p 0) 1 ≡ true) (λ p. eqb (get_or rim p 0) 1 ≡ false) c.find.ensures.ran (λ x q k. search rules) (λ x q k. search rules))
