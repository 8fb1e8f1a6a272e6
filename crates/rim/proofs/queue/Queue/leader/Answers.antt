-- Of two places under one, the one whose side goes first: by the keys, and of equal keys by the second ends.
use mathlib.Core.Path.{◌≡◌, refl, sym, ◌∙◌}
use mathlib.Core.Bool.{Bool, true, false, cond}
use mir.Val.{bool_byte}
use Rattle.rim.proofs.Plain.{plain}
use Rattle.rim.proofs.Ranked.{up, not_up, by_seconds}
use Rattle.rim.proofs.Sinking.{leads_first, leads_second, leads_greater}
use Rattle.rim.proofs.queue.Queue.leader.Goals as goal

byte_is : (b : Bool) → bool_byte b ≡ cond b 1 0
byte_is true = refl
byte_is false = refl

pub returns-then-one-two : goal.returns-then-one-two
returns-then-one-two c =
    leads_greater (plain c.args.plan.now.acceptable) c.requires.2 c.if-d-self.false c.if-one-two.true (c.from.ensures ∙ byte_is _) refl

pub returns-then-second_before : goal.returns-then-second_before
returns-then-second_before c =
    let p = c.requires.2 in
    let l = c.requires.0 in
    leads_second c.if-d-self.false (up (by_seconds (plain c.args.plan.now.acceptable) _ _ (p.known _ c.if-d-self.false) (p.known _ l) (sym (p.measured _ l) ∙ c.if-one-two.false ∙ p.measured _ c.if-d-self.false) c.second_before.ensures) c.if-second_before.true)

pub returns-else-second_before : goal.returns-else-second_before
returns-else-second_before c =
    let p = c.requires.2 in
    let l = c.requires.0 in
    leads_first c.if-d-self.false (not_up (by_seconds (plain c.args.plan.now.acceptable) _ _ (p.known _ c.if-d-self.false) (p.known _ l) (sym (p.measured _ l) ∙ c.if-one-two.false ∙ p.measured _ c.if-d-self.false) c.second_before.ensures) c.if-second_before.false)
