-- The walk goes on by the link.
use Rattle.std.proofs.Common.{refl}
use Rattle.rim.proofs.Ringed.{walks_on, walked, part_walked, link_is, leaves_on}
use Rattle.rim.proofs.ring.write_ring.Goals as goal

pub loop-place-preserved : goal.loop-place-preserved
loop-place-preserved c =
    let i = c.loop-place.invariant in
    rw c.from.ensures (record {
      walking = walks_on _ _ _ _ _ _ _ _ i.walking c.loop-place-test.true (link_is _ _ c.args.link.now c.requires.numbered.1 c.requires.linked _ i.leaves);
      leaves = leaves_on _ _ c.args.link.now c.requires.numbered.1 c.requires.linked _ i.leaves _ refl;
    })

pub returns : goal.returns
returns c = part_walked _ _ _ _ _ c.requires.leaves.1 (walked _ _ _ _ _ _ _ c.loop-place.invariant.walking c.loop-place-test.false)
