-- What is left of the way back gives the whole's answer. Assumes nothing.
use Rattle.std.proofs.Common.{◌≡◌, ℕ, ◌<◌, Some, None, cond, sym, ap, ◌∙◌, get_or}
use borrow.Author.Tests.{eq-eqb, ne_eqb, lt-ltb}
use Rattle.sheet.specs.Code.{side_of}
use Rattle.sheet.proofs.Chain.{back_found, back_goes, back_falls, back_ends}
use Rattle.sheet.proofs.spots.Chain.run_back.Goals as goal

some : {r n : ℕ} → r ≡ n → r < 65535 → Some r ≡ side_of n
some {r} {n} e l = ap (λ b. cond b (Some r) None) (sym (lt-ltb r 65535 l)) ∙ ap side_of e

pub returns-then-self-next_of : goal.returns-then-self-next_of
returns-then-self-next_of c =
    some (back_found c.loop-r.invariant c.loop-r-test.true (eq-eqb _ _ (sym (ap (λ e. get_or c.args.self.now.corners.now e 0) c.next_of.ensures) ∙ c.if-self-next_of.true))) c.loop-r-test.true

pub returns : goal.returns
returns c = ap side_of (back_ends c.loop-r.invariant c.loop-r-test.false)

pub loop-r-smaller : goal.loop-r-smaller
loop-r-smaller c = back_falls c.loop-r.invariant c.loop-r-test.true (c.from-r.ensures ∙ c.args.self.now.chained c.loop-r.r (c.loop-r.invariant.there c.loop-r-test.true))

pub loop-r-preserved : goal.loop-r-preserved
loop-r-preserved c =
    back_goes c.loop-r.invariant c.loop-r-test.true
    (ne_eqb _ _ (λ e. c.if-self-next_of.false (ap (λ e. get_or c.args.self.now.corners.now e 0) c.next_of.ensures ∙ e)))
    (c.from-r.ensures ∙ c.args.self.now.chained c.loop-r.r (c.loop-r.invariant.there c.loop-r-test.true))
