-- `listing::print_line` meets its contract. Assumes nothing.
use Rattle.std.proofs.Common.{◌∙◌, ap, rules, arith, ◌∷◌}
use Rattle.listing.specs.Line.{decimal}
use Rattle.listing.proofs.Putting.{puts_same}
use Rattle.listing.proofs.Spelling.{decimal_short}
use Rattle.listing.proofs.Printing.{puts_fields, print_fields}
use Rattle.listing.proofs.print_line.Goals as goal

pub returns : goal.returns
returns c =
    let a = c.args in
    let same = c.put_ring.ensures.same ∙ c.put_field-2.ensures.put.same ∙ c.put_field.ensures.put.same ∙ c.put_number.ensures.put.same ∙ c.new-line.ensures.same_reference in
    let p = print_fields (decimal a.least) a.peeled a.area a.ring.now c.new-line.ensures.out c.new-line.ensures.at (decimal_short a.least) (let h = c.if-out-ring.false in omega arith)
    (puts_fields a.peeled a.area a.ring.now
    (puts_same (ap decimal c.from.ensures) c.put_number.ensures.put)
    (puts_same (ap (λ n. 32 ∷ decimal n) c.from-2.ensures) c.put_field.ensures.put)
    (puts_same (ap (λ n. 32 ∷ decimal n) c.from-3.ensures) c.put_field-2.ensures.put)
    c.put_ring.ensures) in
    record { value = p.0; out_after = ◌∙◌ {b = c.put_ring.new.self.out.now} (search rules) p.1 }
