-- Unequal keys decide, and of equal keys the second ends.
use mathlib.Core.Path.{sym, ap, ◌∙◌}
use lib.Dec.{ltb}
use Rattle.rim.specs.Heap.{key}
use Rattle.rim.specs.Values.{plan_of}
use Rattle.rim.proofs.Plain.{plain}
use Rattle.rim.proofs.Ranked.{by_keys, by_seconds}
use Rattle.rim.proofs.office.Plan.outranks.Goals as goal

pub returns-then-other-one : goal.returns-then-other-one
returns-then-other-one c =
    let a = c.args in
    let p = c.requires in
    let o = plan_of a.self.now in
    ap (ltb a.other.key) p.0.1 ∙ ap (λ n. ltb n (key o a.one.side)) p.1.1 ∙ by_keys (plain a.self.now.acceptable) a.one.side a.other.side (λ z. c.if-other-one.true (p.1.1 ∙ z ∙ sym p.0.1))

pub returns : goal.returns
returns c =
    let a = c.args in
    let p = c.requires in
    by_seconds (plain a.self.now.acceptable) a.one.side a.other.side p.0.0 p.1.0 (sym p.1.1 ∙ c.if-other-one.false ∙ p.0.1) c.second_before.ensures
