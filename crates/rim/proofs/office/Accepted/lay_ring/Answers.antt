-- The ring goes on from the lowest point of the rim.
use native.Mathlib.Omega.{arith}
use Rattle.std.proofs.Common.{length}
use lib.Dec.{eqb}
use lib.ListN.{get_or}
use Rattle.laws.proofs.Search.{first_is}
use Rattle.rim.proofs.Ringed.{count_fits, ringlike, low_leaves, ring_written}
use Rattle.rim.proofs.office.Accepted.lay_ring.Goals as goal

pub links-link-requires : goal.links-link-requires
links-link-requires c =
    let h = c.requires.0.held in
    (h.room, λ s l. omega (arith, h.acceptable.numbered s l, h.acceptable.points_bound), ringlike _ _ _ _ _ _ _ _ _ c.requires.0)

pub overflow_cast-low : goal.overflow_cast-low
overflow_cast-low c =
    omega (arith, (first_is (λ p. eqb (get_or c.args.rim.now p 0) 1) (length c.args.self.now.xs.now)).within, c.lowest_marked-low.ensures, c.requires.0.held.acceptable.points_bound)

pub write_ring-requires-clause-numbered : goal.write_ring-requires-clause-numbered
write_ring-requires-clause-numbered c =
    let a = c.requires.0.held.acceptable in
    (λ s l. omega (arith, a.numbered s l, a.points_bound), ringlike _ _ _ _ _ _ _ _ _ c.requires.0)

pub write_ring-requires-clause-leaves : goal.write_ring-requires-clause-leaves
write_ring-requires-clause-leaves c =
    (low_leaves _ _ _ _ _ _ _ _ _ c.requires.0 _ c.lowest_marked-low.ensures, omega (arith, count_fits _ _ _ _ _ _ _ _ _ c.requires.0, c.requires.1))

pub returns : goal.returns
returns c = ring_written _ _ _ _ _ _ _ _ _ c.requires.0 _ _ _ (omega (arith, count_fits _ _ _ _ _ _ _ _ _ c.requires.0, c.requires.1)) c.lowest_marked-low.ensures c.write_ring.ensures
