-- `listing::print_refusal` meets its contract. Assumes nothing.
use Rattle.std.proofs.Common.{◌∙◌, ap, rules, arith, [], ◌∷◌, codes}
use Rattle.listing.specs.Line.{decimal}
use Rattle.listing.proofs.Putting.{puts_same}
use Rattle.listing.proofs.Printing.{puts_fields, print_fields}
use Rattle.listing.proofs.print_refusal.Goals as goal

pub returns : goal.returns
returns c =
    let a = c.args in
    let same = c.put_end.ensures.same ∙ c.put_field-2.ensures.put.same ∙ c.put_field.ensures.put.same ∙ c.put_bytes.ensures.same ∙ c.new-line.ensures.same_reference in
    let p = print_fields (codes "refused") a.number a.place [] c.new-line.ensures.out c.new-line.ensures.at (omega arith) (let h = c.if-out-lt63.false in omega arith)
    (puts_fields a.number a.place [] c.put_bytes.ensures (puts_same (ap (λ n. 32 ∷ decimal n) c.from.ensures) c.put_field.ensures.put) c.put_field-2.ensures.put c.put_end.ensures) in
    record { value = p.0; out_after = ◌∙◌ {b = c.put_end.new.self.out.now} (search rules) p.1 }
