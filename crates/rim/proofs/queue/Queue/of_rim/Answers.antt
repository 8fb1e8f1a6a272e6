-- One more side of the rim waits.
use Rattle.std.proofs.Common.{ℕ}
use Rattle.std.proofs.lemmas.List.{length-replicate}
use Rattle.rim.proofs.Plain.{plain}
use Rattle.rim.proofs.Gathered.{gather_begins, gathered, skips, takes_fits, takes}
use Rattle.rim.proofs.queue.Queue.of_rim.Goals as goal
use Rattle.rim.proofs.queue.Queue.of_rim.Goals.{then-is_rim, else-is_rim}

pub invariant_of-sides : goal.invariant_of-sides
invariant_of-sides c =
    let o = c.args.office.now in
    let a = plain o.acceptable in
    record { single = a.single; whole = a.corners_bound.1; short = a.corners_bound.2; mates = o.mates }

pub loop-s-init : goal.loop-s-init
loop-s-init c = gather_begins _ _ _ _ (length-replicate {A = ℕ} 1024 0, length-replicate {A = ℕ} 1024 0)

pub push-requires-clause-heaped : goal.push-requires-clause-heaped
push-requires-clause-heaped c =
    (c.loop-s.invariant.heap, takes_fits _ _ _ _ _ _ _ _ c.loop-s.invariant c.loop-s-test.true c.is_rim.ensures c.if-is_rim.true c.requires.1)

pub loop-s-preserved : goal.loop-s-preserved
loop-s-preserved c =
    elim c.if-is_rim.branch [
      | then-is_rim w ↦ rw (w.queue-is, w.push.ensures.one_more) (takes _ _ _ _ _ _ _ _ c.loop-s.invariant c.loop-s-test.true c.is_rim.ensures w.if-is_rim.true (rw w.keyed.ensures.0 at w.push.ensures.pushed))
      | else-is_rim w ↦ rw w.queue-is (skips _ _ _ _ _ _ _ _ c.loop-s.invariant c.loop-s-test.true c.is_rim.ensures w.if-is_rim.false)
    ]

pub returns : goal.returns
returns c = gathered _ _ _ _ _ _ _ _ c.loop-s.invariant c.loop-s-test.false
