-- The outline tells inside from outside, as map-makers use it: of a point that is not on it, the ring goes round it once where the point is
-- in the area, and else not at all; so a ray to the right crosses it an odd number of times exactly from inside. For all marks that peels lead to.
-- Assumes nothing.
use mathlib.Core.Path.{◌≡◌, refl, sym, ap, subst₂, ◌∙◌}
use mathlib.Core.Logic.{◌⊎◌, inl, inr}
use mathlib.Core.Bool.{Bool, true, false}
use mathlib.Core.List.{List}
use Prim.Native.Nat.{ℕ, ◌+◌, ◌<◌}
use lib.ListN.{get_or}
use lib.IntN.{ℤ, pos}
use Rattle.laws.proofs.Test.{false_iff, eqb_iff, any_iff, same_answer}
use Rattle.laws.proofs.Round.{early}
use Rattle.sheet.specs.Plane.{Point}
use Rattle.sheet.specs.Office.{Office, points, point, tail, head}
use Rattle.sheet.specs.Acceptable.{Acceptable}
use Rattle.sheet.proofs.Sign.{Pos, Non, opp, either, both}
use Rattle.sheet.proofs.Side.{own_triangle}
use Rattle.sheet.proofs.Tiled.{tiling}
use Rattle.sheet.proofs.Ray.{cross, cross_anti}
use Rattle.sheet.proofs.AnyWay.{around_by}
use Rattle.sheet.proofs.Wound.{left_once, not_left, left_held, held_left}
use Rattle.rim.specs.Peel.{mark, kept, rim, ring, drawn}
use Rattle.rim.specs.Reached.{Reached}
use Rattle.rim.proofs.Reached.{Sound, sound}
use Rattle.rim.proofs.Rings.{outlined, ring_length}
use Rattle.peel.specs.Parcel.{on_way, in_area, on_outline, told, place, odd, corner, crossings, winding, on_ring, ring_place}
use Rattle.peel.proofs.DrawEnds.{drawn_ends}
use Rattle.peel.proofs.Simple.{reads, side}
use Rattle.peel.proofs.RingSum.{kept_even, border_iff, ring_sum}
use Rattle.peel.proofs.Parcels.{On, on_way_iff, in_area_iff, on_outline_iff, own_points}
use Rattle.peel.proofs.Crossings.{winding_total, odd_is}

module _ {o : Office} {n : ℕ} {k : List ℕ} (a : Acceptable o) (r : Reached o n k) (z : Point) where
  h : Sound o n k
  h = sound o a r

  -- how often a ray to the right leaves the kept triangles
  abbrev W : ℤ
  W = around_by o (kept o k) z (pos 1) (pos 0)

  abbrev F : ℕ → ℕ → ℤ
  F i j = cross z (pos 1) (pos 0) (point o i) (point o j)

  -- is how often the ring goes round
  winding_is : winding o (ring o k) z ≡ W
  winding_is = winding_total o (ring o k) z ∙ ring_sum a h F (λ i j. cross_anti z (pos 1) (pos 0) (point o i) (point o j))

  -- on the outline or not, once or not at all
  pub once_or_never : (winding o (ring o k) z ≡ pos 1) ⊎ (winding o (ring o k) z ≡ pos 0)
  once_or_never = step (either W)
    where
      step : Pos W ⊎ Non (opp W) → (winding o (ring o k) z ≡ pos 1) ⊎ (winding o (ring o k) z ≡ pos 0)
      step (inl p) = inl (winding_is ∙ left_once o (tiling a) (kept o k) z p)
      step (inr p) = inr (winding_is ∙ not_left o (tiling a) (kept o k) z (λ q. both q p))

  -- once round a point in the area that is not on the outline, and not at all round a point outside
  pub goes_round : on_outline o k z ≡ false → winding o (ring o k) z ≡ pos (mark (in_area o k z))
  goes_round off = winding_is ∙ step (in_area o k z) refl
    where
      step : (b : Bool) → in_area o k z ≡ b → W ≡ pos (mark b)
      step true e =
          let (t, l, x, y) = (in_area_iff o z k).0 e in
          left_once o (tiling a) (kept o k) z (held_left o (tiling a) (kept o k) z (kept_even o k) (rim o k) (border_iff o k)
          (λ s b c d m. false_iff.0 off ((on_outline_iff o z k).1 (s, b, c, (d, m))))
          t l (eqb_iff.1 (ap (λ i. get_or k i 0) (own_triangle t) ∙ x)) y)
      step false e = not_left o (tiling a) (kept o k) z (λ p.
          let (t, l, x, y) = left_held o (tiling a) (kept o k) z p in
          false_iff.0 e ((in_area_iff o z k).1 (t, l, ap (λ i. get_or k i 0) (sym (own_triangle t)) ∙ eqb_iff.0 x, y)))

  pub crosses_odd : on_outline o k z ≡ false → odd (crossings o (ring o k) z) ≡ in_area o k z
  crosses_odd off = odd_is o (ring o k) z (in_area o k z) (goes_round off)

  -- the rim sides are the ring's steps
  pub on_ring_is : on_ring o (ring o k) z ≡ on_outline o k z
  unfolding on_ring
  on_ring_is = same_answer
      (λ e.
      let (i, l, x) = (any_iff {test = λ i. on_way (corner o (ring o k) i) (corner o (ring o k) (i + 1)) z}).0 e in
      let (s, b, c, u, w) = side a h i in
      (on_outline_iff o z k).1 (s, b, c, subst₂ (λ p q. On z (point o p) (point o q)) (sym u) (sym w) ((on_way_iff _ _ z).0 x)))
      (λ e.
      let (s, b, c, x) = (on_outline_iff o z k).0 e in
      let (i, u, w) = (outlined a h).round.all (tail o s) (head o s) (s, b, c, refl, refl) in
      let (j, l, f, g) = early (outlined a h).round i in
      any_iff.1 (j, rw (ring_length a h) l, (on_way_iff _ _ z).1 (subst₂ (λ p q. On z (point o p) (point o q)) (sym (reads a h j ∙ f ∙ u)) (sym (reads a h (j + 1) ∙ g ∙ w)) x)))

  -- the place by the kept triangles is the place by the ring alone
  pub place_by_ring : place o k z ≡ ring_place o (ring o k) z
  unfolding place ring_place
  place_by_ring = step (on_outline o k z) refl ∙ ap (λ b. told b (odd (crossings o (ring o k) z))) (sym on_ring_is)
    where
      step : (b : Bool) → on_outline o k z ≡ b → told b (in_area o k z) ≡ told b (odd (crossings o (ring o k) z))
      step true e = refl
      step false e = ap (told false) (sym (crosses_odd e))

-- of every draw; and no limit leaves a point of the office outside
pub drawn_place : {o : Office} → Acceptable o → (limit : ℕ) (z : Point) → place o (drawn o limit) z ≡ ring_place o (ring o (drawn o limit)) z
drawn_place a limit z = let (m, l, c, d) = drawn_ends a limit in place_by_ring a c z

pub drawn_own_points : {o : Office} → Acceptable o → (limit p : ℕ) → p < points o → in_area o (drawn o limit) (point o p) ≡ true
drawn_own_points a limit = let (m, l, c, d) = drawn_ends a limit in own_points a c
