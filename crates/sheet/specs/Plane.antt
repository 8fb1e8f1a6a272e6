-- Document 01, 'Numbers': exact geometry on whole coordinates. Assumes nothing.
use Rattle.std.specs.Prelude.{ℕ, ◌≤◌, ℤ, pos, ◌+ℤ◌, ◌-ℤ◌, ◌*ℤ◌}

pub record Point : Type 0 where
  pub x : ℕ
  pub y : ℕ

abbrev pub spot : ℕ → ℕ → Point
spot x y = record { x = x; y = y }

-- no coordinate is above 16,383
abbrev pub Small : Point → Type 0
Small a = (a.x ≤ 16383) × (a.y ≤ 16383)

abbrev pub dx : Point → Point → ℤ
dx a b = pos b.x -ℤ pos a.x

abbrev pub dy : Point → Point → ℤ
dy a b = pos b.y -ℤ pos a.y

-- twice the signed area of the triangle a b c: positive where c lies left of the way from a to b
unfoldable pub turn : Point → Point → Point → ℤ
turn a b c = dx a b *ℤ dy a c -ℤ dy a b *ℤ dx a c

-- the squared length of the way from a to b
unfoldable pub squared : Point → Point → ℤ
squared a b = dx a b *ℤ dx a b +ℤ dy a b *ℤ dy a b

-- positive where d lies strictly inside the circle through a b c, which turn left; 0 where it lies on it
unfoldable pub circle : Point → Point → Point → Point → ℤ
circle a b c d = squared d a *ℤ turn d b c +ℤ squared d b *ℤ turn d c a +ℤ squared d c *ℤ turn d a b
