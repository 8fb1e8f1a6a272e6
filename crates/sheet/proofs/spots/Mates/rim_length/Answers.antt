-- One more side at a time. Assumes nothing.
use Rattle.std.proofs.Common.{◌≡◌, ℕ, ◌+◌, ◌≤◌, Bool, true, false, cond, refl, ap, ◌∙◌, arith}
use mir.Val.{bool_byte}
use Rattle.laws.proofs.Counting.{counts_none, counts_one, counts_few}
use Rattle.sheet.proofs.spots.Mates.rim_length.Goals as goal

byte : (b : Bool) → ◌≡◌ {A = ℕ} (bool_byte b) (cond b 1 0)
byte true = refl
byte false = refl

few : (b : Bool) → bool_byte b ≤ 1
few true = omega arith
few false = omega arith

pub loop-s-init : goal.loop-s-init
loop-s-init c = counts_none

pub overflow_add-n : goal.overflow_add-n
overflow_add-n c = omega (arith, c.from-n.ensures, few c.is_rim.result, counts_few c.loop-s.invariant, c.loop-s.invariant.within, c.args.self.now.short)

pub loop-s-preserved : goal.loop-s-preserved
loop-s-preserved c = counts_one c.loop-s.invariant c.loop-s-test.true c.is_rim.ensures (ap (λ n. c.loop-s.n + n) (c.from-n.ensures ∙ byte c.is_rim.result))
