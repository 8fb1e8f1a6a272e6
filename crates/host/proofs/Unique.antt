-- Two outcomes that the C function's promise allows are equal. Assumes nothing.
use Prim.Native.Nat.{ℕ}
use mathlib.Core.Path.{◌≡◌, sym, ◌∙◌}
use mathlib.Core.List.{List}
use lib.IntN.{ℤ}
use Rattle.host.specs.Polygon.{code, after_polygon}

-- what `outline_polygon` promises of its answer and of the output
pub record PolygonPromise (points triangles : List ℕ) (limit : ℕ) (out : List ℕ) (r : ℤ) (out' : List ℕ) : Type 0 where
  pub answers : r ≡ code (after_polygon points triangles limit out).answer
  pub leaves : out' ≡ (after_polygon points triangles limit out).out

pub unique : (points triangles : List ℕ) (limit : ℕ) (out : List ℕ) (r s : ℤ) (a b : List ℕ)
    → PolygonPromise points triangles limit out r a → PolygonPromise points triangles limit out s b → (r ≡ s) × (a ≡ b)
unique points triangles limit out r s a b p q = (p.answers ∙ sym q.answers, p.leaves ∙ sym q.leaves)
