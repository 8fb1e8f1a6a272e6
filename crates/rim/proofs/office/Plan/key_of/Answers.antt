-- The lesser of two packed points is the first end.
use Rattle.std.proofs.Common.{ap₂, ◌∙◌, ◌+◌, ◌*◌}
use Rattle.rim.specs.Values.{plan_of}
use Rattle.rim.proofs.Plain.{plain}
use Rattle.rim.proofs.Ranked.{key_is, first_packed}
use Rattle.rim.proofs.office.Plan.key_of.Goals as goal

pub returns : goal.returns
returns c =
    let o = plan_of c.args.self.now in
    let first = first_packed (plain c.args.self.now.acceptable) _ c.requires c.spot_at.ensures.0 (rw c.next_of.ensures at c.spot_at-2.ensures.0) c.min-first.ensures in
    ap₂ (λ l f. l * 268435456 + f) c.from.ensures c.from-2.ensures ∙ key_is o _ c.side_squared-long.ensures first
