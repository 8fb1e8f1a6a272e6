-- The numbers of the code, in the code's order. Assumes nothing.
use Rattle.std.proofs.Common.{ℤ, ◌≤◌, pos, nat_abs, refl, ap, w32, w64, to_z, of_z}
use mir.Facts.{to_z-of_z}
use lib.Signed.{lt_z}
use Rattle.laws.proofs.Exact.{Num, fits, got, plus, times}
use Rattle.sheet.proofs.circles.is_below.Goals as goal

-- a parameter of 32 bits, in 64
abbrev cast : (x : ℤ) → nat_abs x ≤ 536805378 → Num w64
cast x h = got 536805378 (to_z w32 (of_z w32 x)) x (to_z-of_z (fits w32 536805378 x x refl h tt)) h tt

abbrev all : (c : goal.Start) → Num w64
all c = plus (times (cast c.args.a c.requires.0) (cast c.args.u c.requires.1) tt) (times (cast c.args.b c.requires.2) (cast c.args.v c.requires.3) tt) tt

pub overflow_add-sum : goal.overflow_add-sum
overflow_add-sum c = (all c).fit

pub returns : goal.returns
returns c = ap (λ z. lt_z z (pos 0)) (all c).reads
