-- A side rises until the one above goes before it.
use native.Mathlib.Omega.{arith}
use Rattle.std.proofs.Common.{refl, ◌∙◌}
use Rattle.rim.proofs.Ranked.{up, not_up}
use Rattle.rim.proofs.Rising.{rise_begins, rises, settles}
use Rattle.rim.proofs.queue.Queue.push.Goals as goal
use Rattle.rim.proofs.queue.Queue.push.Goals.{else-loop-i-test, then-loop-i-test+then-not-outranks}

pub loop-i-init : goal.loop-i-init
loop-i-init c = record { rising = rise_begins c.requires.heaped.1 c.requires.side_known.0 c.requires.heaped.0; as_many = refl }

pub loop-i-preserved : goal.loop-i-preserved
loop-i-preserved c =
    let (places, keys, waiting) = c.put.ensures in
    rw (places, keys, c.at-above.ensures.0, c.at-above.ensures.1) (record {
      rising = rises c.loop-i.invariant.rising c.loop-i-test.true (up (rw c.at-above.ensures.0 at c.outranks.ensures) c.if-not-outranks.false);
      as_many = waiting ∙ c.loop-i.invariant.as_many;
    })

pub returns-clause-pushed : goal.returns-clause-pushed
returns-clause-pushed c =
    rw (c.put-2.ensures.0, c.put-2.ensures.1)
    (elim c.loop-i-test.branch [
      | else-loop-i-test w ↦ settles c.loop-i.invariant.rising c.requires.side_known.1 (λ z. absurd (omega (arith, w.loop-i-test.false)))
      | then-loop-i-test+then-not-outranks w ↦ settles c.loop-i.invariant.rising c.requires.side_known.1 (λ z. not_up (rw w.at-above.ensures.0 at w.outranks.ensures) w.if-not-outranks.true)
    ])
