-- The squared length between two points: how great it can be, and that it is 0 only between equal points. Assumes nothing.
use mathlib.Core.Path.{◌≡◌, refl, sym, ap, ap₂, ◌∙◌}
use Prim.Native.Nat.{ℕ, zero, suc, ◌+◌, ◌*◌, ◌≤◌}
use native.Mathlib.Omega.{arith}
use lib.IntN.{ℤ, pos, negsuc, nat_abs, ◌+ℤ◌, ◌-ℤ◌, ◌*ℤ◌, -ℤ-+ℤ_cancel, +ℤ_idl}
use Rattle.laws.proofs.Whole.{size_diff, size_add, size_sub, size_mul}
use Rattle.sheet.specs.Plane.{Point, Small, dx, dy, turn, squared}

pub squared_bound : (a b : Point) → Small a → Small b → nat_abs (squared a b) ≤ 536805378
unfolding squared
squared_bound a b p q =
    let h = size_diff b.x a.x q.0 p.0 in
    let k = size_diff b.y a.y q.1 p.1 in
    size_add (dx a b *ℤ dx a b) (dy a b *ℤ dy a b) (size_mul (dx a b) (dx a b) h h) (size_mul (dy a b) (dy a b) k k)

pub turn_bound : (a b c : Point) → Small a → Small b → Small c → nat_abs (turn a b c) ≤ 536805378
unfolding turn
turn_bound a b c p q r =
    let h = size_diff b.x a.x q.0 p.0 in
    let k = size_diff b.y a.y q.1 p.1 in
    let m = size_diff c.x a.x r.0 p.0 in
    let n = size_diff c.y a.y r.1 p.1 in
    size_sub (dx a b *ℤ dy a c) (dy a b *ℤ dx a c) (size_mul (dx a b) (dy a c) h n) (size_mul (dy a b) (dx a c) k m)

square : (z : ℤ) → z *ℤ z ≡ pos (nat_abs z * nat_abs z)
square (pos n) = refl
square (negsuc n) = refl

-- a squared length is no negative number
pub squared_whole : (a b : Point) → pos (nat_abs (squared a b)) ≡ squared a b
unfolding squared
squared_whole a b = let e = ap₂ ◌+ℤ◌ (square (dx a b)) (square (dy a b)) in ap (λ z. pos (nat_abs z)) e ∙ sym e

none : (z : ℤ) → nat_abs z * nat_abs z ≡ 0 → z ≡ pos 0
none (pos zero) e = refl
none (pos (suc n)) e = absurd (omega arith)
none (negsuc n) e = absurd (omega arith)

no_gap : (u v : ℕ) → pos u -ℤ pos v ≡ pos 0 → u ≡ v
no_gap u v e = let z : pos u ≡ pos v = sym (-ℤ-+ℤ_cancel (pos u) (pos v)) ∙ ap (λ w. w +ℤ pos v) e ∙ +ℤ_idl (pos v) in cc

pub squared_zero : (a b : Point) → nat_abs (squared a b) ≡ 0 → (a.x ≡ b.x) × (a.y ≡ b.y)
unfolding squared
squared_zero a b e =
    let f : nat_abs (dx a b) * nat_abs (dx a b) + nat_abs (dy a b) * nat_abs (dy a b) ≡ 0 = ap nat_abs (sym (ap₂ ◌+ℤ◌ (square (dx a b)) (square (dy a b)))) ∙ e in
    (sym (no_gap _ _ (none (dx a b) (omega arith))), sym (no_gap _ _ (none (dy a b) (omega arith))))
