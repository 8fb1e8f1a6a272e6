-- A point below 1,024 has its side in the list. Assumes nothing.
use Rattle.std.proofs.Common.{arith, length}
use Rattle.laws.proofs.Search.{first_is}
use Rattle.sheet.specs.Code.{leaves}
use Rattle.sheet.proofs.ring.onward.Goals as goal

pub next_of-requires : goal.next_of-requires
next_of-requires c =
    let f = first_is (leaves c.args.corners.now c.args.p) (length c.args.corners.now) in
    omega (arith, c.from.ensures, c.requires.2 c.args.p c.requires.1, f.within, c.requires.0)
