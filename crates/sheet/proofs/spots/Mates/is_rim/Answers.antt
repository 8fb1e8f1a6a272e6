-- A side without a mate. Assumes nothing.
use Rattle.std.proofs.Common.{ap, ◌∙◌, not, ltb, length}
use Rattle.laws.proofs.Test.{leb_flip}
use Rattle.laws.proofs.Fill.{table_at}
use Rattle.sheet.specs.Office.{mate_of}
use Rattle.sheet.proofs.spots.Mates.is_rim.Goals as goal

pub returns : goal.returns
returns c =
    let s = c.args.self.now in
    leb_flip (length s.corners.now) c.from.result ∙ ap (λ m. not (ltb m (length s.corners.now))) (c.from.ensures ∙ table_at (mate_of s.corners.now) (length s.corners.now) s.mate.now c.args.s s.mated c.requires)
