-- How a way from a to b crosses a ray, by where its ends lie and which side of it the ray starts on. Assumes nothing.
use mathlib.Core.Path.{◌≡◌, refl}
use lib.IntN.{ℤ, pos}
use Rattle.sheet.specs.Plane.{Point, turn}
use Rattle.sheet.proofs.Sign.{Pos, Non, opp, both}
use Rattle.sheet.proofs.Ray.{level, cross, cross_view, cross_enters}

module _ (p : Point) (wx wy : ℤ) where
  abbrev L : Point → ℤ
  L q = level p wx wy q

  abbrev C : Point → Point → ℤ
  C = cross p wx wy

  -- both ends left of the ray's line; neither
  pub high : (a b : Point) → Pos (L a) → Pos (L b) → C a b ≡ pos 0
  high a b x y = cross_view p wx wy a b (λ z. z ≡ pos 0) (λ e. both x e.from) (λ l. both y l.to) refl

  pub low : (a b : Point) → Non (opp (L a)) → Non (opp (L b)) → C a b ≡ pos 0
  low a b x y = cross_view p wx wy a b (λ z. z ≡ pos 0) (λ e. both e.to y) (λ l. both l.from x) refl

  -- only the second, and the start is left of the way, or is not
  pub enters : (a b : Point) → Non (opp (L a)) → Pos (L b) → Pos (turn p a b) → C a b ≡ pos 1
  enters a b x y t = cross_enters p wx wy a b (record { from = x; to = y; left = t })

  pub passes : (a b : Point) → Non (opp (L a)) → Pos (L b) → Non (opp (turn p a b)) → C a b ≡ pos 0
  passes a b x y t = cross_view p wx wy a b (λ z. z ≡ pos 0) (λ e. both e.left t) (λ l. both y l.to) refl
