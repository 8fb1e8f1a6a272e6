-- The circle's value by two angles. Assumes nothing.
use Rattle.std.proofs.Common.{◌≡◌, ◌≤◌, sym, ap, ap₂, subst, ◌∙◌, ℤ, pos, nat_abs, ◌+ℤ◌, ◌*ℤ◌, w32, to_z, of_z}
use lib.Signed.{lt_z}
use mir.Facts.{to_z-of_z}
use Rattle.laws.proofs.Exact.{fits}
use Rattle.sheet.specs.Plane.{turn}
use Rattle.sheet.specs.Values.{at}
use Rattle.sheet.specs.declared.spots.Spot.{Spot}
use Rattle.sheet.proofs.Length.{turn_bound}
use Rattle.sheet.proofs.Angles.{dot_bound, by_angles}
use Rattle.sheet.proofs.circles.holds.Goals as goal

-- a number that was called for or handed in, as it is read
read : {x z : ℤ} → x ≡ z → nat_abs z ≤ 536805378 → to_z w32 (of_z w32 x) ≡ z
read {x} {z} e h = to_z-of_z (fits w32 536805378 x z e h tt) ∙ e

small : {x z : ℤ} → x ≡ z → nat_abs z ≤ 536805378 → nat_abs (to_z w32 (of_z w32 x)) ≤ 536805378
small e h = subst (λ z. nat_abs z ≤ 536805378) (sym (read e h)) h

turned : (a b c : Spot) → nat_abs (turn (at a) (at b) (at c)) ≤ 536805378
turned a b c = turn_bound (at a) (at b) (at c) a.small b.small c.small

pub is_below-requires : goal.is_below-requires
is_below-requires c =
    let a = c.args.a in
    let b = c.args.b in (
      small c.dot.ensures (dot_bound (at c.args.c) (at a) (at b) c.args.c.small a.small b.small),
      small c.turn.ensures (turned c.args.d b a),
      small c.requires (turned a b c.args.c),
      small c.dot-2.ensures (dot_bound (at c.args.d) (at a) (at b) c.args.d.small a.small b.small),
    )

pub returns : goal.returns
returns c =
    let a = c.args.a in
    let b = c.args.b in
    c.is_below.ensures
    ∙ ap (λ z. lt_z z (pos 0)) (ap₂ ◌+ℤ◌ (ap₂ ◌*ℤ◌ (read c.dot.ensures (dot_bound (at c.args.c) (at a) (at b) c.args.c.small a.small b.small)) (read c.turn.ensures (turned c.args.d b a))) (ap₂ ◌*ℤ◌ (read c.requires (turned a b c.args.c)) (read c.dot-2.ensures (dot_bound (at c.args.d) (at a) (at b) c.args.d.small a.small b.small))))
    ∙ by_angles (at a) (at b) (at c.args.c) (at c.args.d)
