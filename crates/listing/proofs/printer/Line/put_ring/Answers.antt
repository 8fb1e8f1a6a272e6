-- `listing::printer::Line::put_ring` meets its contract. Assumes nothing.
use Rattle.std.proofs.Common.{sym, ap, ◌∙◌, arith, ◌∷◌, ◌++◌}
use Rattle.listing.specs.Line.{decimal, onward}
use Rattle.listing.proofs.Putting.{puts_same, puts_two}
use Rattle.listing.proofs.Spelling.{onward_next}
use Rattle.listing.proofs.printer.Line.put_ring.Goals as goal

pub loop-p-preserved : goal.loop-p-preserved
loop-p-preserved c =
    let l = c.loop-p in
    let f = c.put_field.ensures.put in
    record {
      long = f.long ∙ l.invariant.long;
      bound = omega arith;
      rest = λ end h. l.invariant.rest end (puts_same (ap (λ n. (32 ∷ decimal n) ++ onward (lib.ListN.drop (Prim.Native.Nat.◌+◌ l.p-index 1) c.args.ring.now)) c.from.ensures ∙ sym (onward_next c.args.ring.now l.p-index c.loop-p-test.true)) (puts_two f h));
    }
