-- A side sinks until it goes before the leader of those under it.
use native.Mathlib.Omega.{arith}
use Rattle.rim.proofs.Ranked.{up, not_up}
use Rattle.rim.proofs.Sinking.{sinks, stays_last, stays_over}
use Rattle.rim.proofs.queue.Queue.sink.Goals as goal
use Rattle.rim.proofs.queue.Queue.sink.Goals.{else-loop-c-test, then-loop-c-test+then-not-outranks}

pub loop-c-preserved : goal.loop-c-preserved
loop-c-preserved c =
    let (places, keys, waiting) = c.put.ensures in
    rw (places, keys, waiting, c.at-under.ensures.0, c.at-under.ensures.1) (record {
      sinking = sinks c.loop-c.invariant.sinking c.leader-g.ensures (up (rw c.at-under.ensures.0 at c.outranks.ensures) c.if-not-outranks.false);
      as_many = c.loop-c.invariant.as_many;
    })

pub returns-clause-sunk : goal.returns-clause-sunk
returns-clause-sunk c =
    rw (c.put-2.ensures.0, c.put-2.ensures.1, ← c.loop-c.invariant.as_many)
    (elim c.loop-c-test.branch [
      | else-loop-c-test w ↦ stays_last c.loop-c.invariant.sinking c.requires.side_known.1 (omega (arith, w.loop-c-test.false))
      | then-loop-c-test+then-not-outranks w ↦ stays_over c.loop-c.invariant.sinking c.requires.side_known.1 w.leader-g.ensures (not_up (rw w.at-under.ensures.0 at w.outranks.ensures) w.if-not-outranks.true)
    ])
