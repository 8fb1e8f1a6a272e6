-- The triangles of an accepted office do not overlap, at any point whose coordinates are fractions, and its sides meet only at their ends.
-- Assumes nothing.
use mathlib.Core.Path.{◌≡◌}
use mathlib.Core.Logic.{◌⊎◌}
use Prim.Native.Nat.{ℕ, ◌+◌, ◌*◌, ◌<◌}
use lib.IntN.{ℤ, pos}
use lib.Signed.{◌<ℤ◌}
use Rattle.sheet.specs.Office.{Office, points, sides, triangles, point, tail, head}
use Rattle.sheet.specs.Acceptable.{Acceptable, Reverse}
use Rattle.sheet.proofs.Sign.{less_pos}
use Rattle.sheet.proofs.Tiled.{tiling}
use Rattle.sheet.proofs.Finer.{Around, disjoint}
use Rattle.sheet.proofs.Between.{Between, nothing_within}
use Rattle.sheet.proofs.Inner.{Inner, shared}

module _ {o : Office} (a : Acceptable o) where
  -- the point (X / m, Y / m) lies strictly inside at most one triangle
  pub no_overlap : (m X Y : ℤ) → pos 0 <ℤ m → (t r : ℕ) → t < triangles o → r < triangles o
      → Around m X Y (point o (tail o (t * 3))) (point o (tail o (t * 3 + 1))) (point o (tail o (t * 3 + 2)))
      → Around m X Y (point o (tail o (r * 3))) (point o (tail o (r * 3 + 1))) (point o (tail o (r * 3 + 2)))
      → t ≡ r
  no_overlap m X Y p = disjoint o (tiling a) m X Y (less_pos m p)

  -- and strictly between the ends of at most one side and its reverse
  pub sides_apart : (m X Y : ℤ) → pos 0 <ℤ m → (s r : ℕ) → s < sides o → r < sides o
      → Inner m X Y (point o (tail o s)) (point o (head o s)) → Inner m X Y (point o (tail o r)) (point o (head o r))
      → (s ≡ r) ⊎ Reverse o s r
  sides_apart m X Y p = shared o (tiling a) m X Y (less_pos m p)

  -- no point of the office lies strictly between the ends of a side
  pub none_between : (p : ℕ) → p < points o → (s : ℕ) → s < sides o → Between (point o (tail o s)) (point o (head o s)) (point o p) → ⊥
  none_between p l = nothing_within o (tiling a) p l
