-- Document 02, 2/13: an office exported anew. Its points and triangles have other numbers, and a triangle may be named from another corner on.
-- Assumes nothing.
use Rattle.std.specs.Prelude.{ℕ, ◌+◌, ◌*◌, ◌%◌, ◌<◌, ◌≡◌, length, get_or}
use Rattle.laws.specs.Bijection.{Bijection}
use Rattle.sheet.specs.Office.{Office, points, sides, triangles, tail}

-- office n is office o renumbered: point p of o has the number `number.to p` in n and the same coordinates; triangle t is there triangle
-- `triangle.to t`, and its corner i is there corner i + turned t, counted round
pub record Renumbered (o n : Office) : Type 0 where
  pub number : Bijection (points o) (points n)
  pub triangle : Bijection (triangles o) (triangles n)
  pub turned : ℕ → ℕ
  pub as_many_ys : length n.ys ≡ length o.ys
  pub as_many_corners : sides n ≡ sides o
  pub same_x : (p : ℕ) → p < points o → get_or n.xs (number.to p) 0 ≡ get_or o.xs p 0
  pub same_y : (p : ℕ) → p < points o → get_or n.ys (number.to p) 0 ≡ get_or o.ys p 0
  pub corner : (t i : ℕ) → t < triangles o → i < 3 → tail n (triangle.to t * 3 + (i + turned t) % 3) ≡ number.to (tail o (t * 3 + i))
