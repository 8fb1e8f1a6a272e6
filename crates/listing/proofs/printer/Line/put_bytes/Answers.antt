-- `listing::printer::Line::put_bytes` meets its contract. Assumes nothing.
use Rattle.std.proofs.Common.{refl, ap, ◌∙◌, length}
use lib.Seq.{length-sets}
use Rattle.listing.proofs.Putting.{copied}
use Rattle.listing.proofs.printer.Line.put_bytes.Goals as goal

pub returns : goal.returns
returns c =
    let l = c.args.self.now in
    let p = copied l.out.now c.args.text.now c.copy_from_slice.new.self l.at c.requires c.copy_from_slice.ensures.after in
    record { same = refl; long = ap length p ∙ length-sets l.out.now l.at c.args.text.now; puts = p; ends = refl }
