-- The first side is the one to peel next, unless it is stuck.
use native.Mathlib.Omega.{arith}
use Rattle.std.proofs.Common.{◌≡◌, refl, sym, ◌∙◌, ◌-◌}
use Rattle.laws.proofs.Test.{false_iff, eqb_iff}
use Rattle.rim.proofs.Plain.{plain}
use Rattle.rim.proofs.Ranked.{key_low}
use Rattle.rim.proofs.Queueing.{nothing_waits, found, drops_first}
use Rattle.rim.proofs.queue.Queue.next_side.Goals as goal

pub length_of-requires : goal.length_of-requires
length_of-requires c =
    let h = c.loop-self.invariant.0.heap in
    omega (arith, h.measured 0 c.loop-self-test.true, key_low (plain c.args.office.now.acceptable) _ (h.known 0 c.loop-self-test.true))

pub returns-then-free : goal.returns-then-free
returns-then-free c =
    found c.requires.0 c.loop-self.invariant.0 c.loop-self-test.true c.from-s.ensures refl (λ z. false_iff.0 (sym c.is_stuck-free.ensures ∙ c.if-free.true) (eqb_iff.1 z)) c.length_of.ensures

pub loop-self-preserved : goal.loop-self-preserved
loop-self-preserved c =
    let e : c.drop_first.new.self.waiting ≡ c.loop-self.self.waiting - 1 = omega (arith, c.drop_first.ensures.one_less) in
    rw e (drops_first c.requires.0 c.loop-self.invariant.0 c.loop-self-test.true c.from-s.ensures refl (eqb_iff.0 (sym c.is_stuck-free.ensures ∙ c.if-free.false)) c.drop_first.ensures.popped, omega (arith, c.loop-self.invariant.1))

pub returns : goal.returns
returns c = nothing_waits c.requires.0 c.loop-self.invariant.0 c.loop-self-test.false
