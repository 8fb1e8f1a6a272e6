-- The numbers of the code, in the code's order. Assumes nothing.
use Rattle.std.proofs.Common.{ℕ, ◌≤◌, ap, pos, w64}
use lib.Signed.{lt_z}
use Rattle.laws.proofs.Exact.{Num, held, nat, plus, minus, times}
use Rattle.sheet.specs.declared.circles.Circle.{Circle}
use Rattle.sheet.proofs.circles.is_inside.Goals as goal

module _ (k : Circle) (x y height : ℕ) (low : (x ≤ 16383) × (y ≤ 16383)) (high : height ≤ 536805378) where
  abbrev first : Num w64
  first =
      plus (times (held 26383447523322 k.across k.fits.0 tt) (nat 16383 x low.0 tt) tt)
      (times (held 26383447523322 k.up k.fits.1 tt) (nat 16383 y low.1 tt) tt) tt

  abbrev second : Num w64
  second = plus first (held 864480041549168652 k.rest k.fits.2 tt) tt

  abbrev all : Num w64
  all = minus second (times (held 536805378 k.lift k.fits.3 tt) (nat 536805378 height high tt) tt) tt

pub overflow_add-result : goal.overflow_add-result
overflow_add-result c = (first c.args.k c.args.x c.args.y c.args.height c.requires.0 c.requires.1).fit

pub overflow_add-result-2 : goal.overflow_add-result-2
overflow_add-result-2 c = (second c.args.k c.args.x c.args.y c.args.height c.requires.0 c.requires.1).fit

pub overflow_sub-result : goal.overflow_sub-result
overflow_sub-result c = (all c.args.k c.args.x c.args.y c.args.height c.requires.0 c.requires.1).fit

pub returns : goal.returns
returns c = ap (lt_z (pos 0)) (all c.args.k c.args.x c.args.y c.args.height c.requires.0 c.requires.1).reads
