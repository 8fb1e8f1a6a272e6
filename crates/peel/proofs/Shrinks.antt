-- The area only shrinks: a peel keeps no triangle that was gone, and a triangle kept at a smaller limit is kept at a greater one; so what is
-- outside stays outside. Assumes nothing.
use mathlib.Core.Path.{◌≡◌, refl}
use mathlib.Core.Logic.{◌↔◌}
use mathlib.Core.Bool.{Bool, true, false, cond}
use mathlib.Core.List.{List, [], ◌∷◌}
use mathlib.Core.Option.{Option, none, some}
use Prim.Native.Nat.{ℕ, zero, suc, ◌≤◌}
use native.Mathlib.Omega.{arith}
use lib.Dec.{ltb}
use lib.ListN.{get_or, set}
use borrow.Author.Tests.{ltb-true, ltb-false}
use Rattle.laws.proofs.Test.{false_iff}
use Rattle.sheet.specs.Plane.{Point}
use Rattle.sheet.specs.Office.{Office, triangles}
use Rattle.sheet.specs.Acceptable.{Acceptable}
use Rattle.rim.specs.Peel.{long, best, peel, turned, peels, whole, drawn}
use Rattle.peel.specs.Parcel.{in_area, on_outline, told, place}
use Rattle.peel.proofs.Parcels.{in_area_iff, outline_in_area}

-- all that marks j keep, marks k keep
abbrev pub Fewer : List ℕ → List ℕ → Type 0
Fewer j k = (t : ℕ) → get_or j t 0 ≡ 1 → get_or k t 0 ≡ 1

dropped : (k : List ℕ) (i : ℕ) → Fewer (set k i 0) k
dropped [] i t h = h
dropped (x ∷ k) zero zero h = absurd (omega arith)
dropped (x ∷ k) zero (suc t) h = h
dropped (x ∷ k) (suc i) zero h = h
dropped (x ∷ k) (suc i) (suc t) h = dropped k i t h

pub peel_fewer : (k : List ℕ) (s : ℕ) → Fewer (peel k s) k
peel_fewer k s = dropped k _

module _ (o : Office) where
  turn_fewer : (limit : ℕ) (k : List ℕ) (others : List ℕ → List ℕ) (b : Option ℕ) → ((j : List ℕ) → Fewer (others j) j) → Fewer (turned o others limit k b) k
  unfolding turned
  turn_fewer limit k others none ih t h = h
  turn_fewer limit k others (some s) ih t h = step (ltb limit (long o s)) h
    where
      step : (b : Bool) → get_or (cond b (others (peel k s)) k) t 0 ≡ 1 → get_or k t 0 ≡ 1
      step true h = peel_fewer k s t (ih (peel k s) t h)
      step false h = h

  pub peels_fewer : (fuel limit : ℕ) (k : List ℕ) → Fewer (peels o fuel limit k) k
  unfolding peels
  peels_fewer zero limit k t h = h
  peels_fewer (suc fuel) limit k t h = turn_fewer limit k (peels o fuel limit) (best o k) (peels_fewer fuel limit) t h

  module _ (small large : ℕ) (below : small ≤ large) where
    turn_shrinks : (k : List ℕ) (low high : List ℕ → List ℕ) (b : Option ℕ) → ((j : List ℕ) → Fewer (low j) j) → ((j : List ℕ) → Fewer (low j) (high j)) → Fewer (turned o low small k b) (turned o high large k b)
    unfolding turned
    turn_shrinks k low high none f ih t h = h
    turn_shrinks k low high (some s) f ih t h = step (ltb small (long o s)) (ltb large (long o s)) refl refl h
      where
        step : (x y : Bool) → ltb small (long o s) ≡ x → ltb large (long o s) ≡ y → get_or (cond x (low (peel k s)) k) t 0 ≡ 1 → get_or (cond y (high (peel k s)) k) t 0 ≡ 1
        step true true e d h = ih (peel k s) t h
        step true false e d h = peel_fewer k s t (f (peel k s) t h)
        step false true e d h = absurd (let l = ltb-false small (long o s) e in let m = ltb-true large (long o s) d in omega arith)
        step false false e d h = h

    peels_shrink : (fuel : ℕ) (k : List ℕ) → Fewer (peels o fuel small k) (peels o fuel large k)
    unfolding peels
    peels_shrink zero k t h = h
    peels_shrink (suc fuel) k t h = turn_shrinks k (peels o fuel small) (peels o fuel large) (best o k) (peels_fewer fuel small) (peels_shrink fuel) t h

    pub drawn_shrinks : Fewer (drawn o small) (drawn o large)
    unfolding drawn
    drawn_shrinks = peels_shrink (triangles o) (whole o)

  -- fewer kept triangles cover no more points
  pub fewer_area : (j k : List ℕ) → Fewer j k → (z : Point) → in_area o j z ≡ true → in_area o k z ≡ true
  fewer_area j k f z e = let (t, l, x, y) = (in_area_iff o z j).0 e in (in_area_iff o z k).1 (t, l, f t x, y)

  pub area_shrinks : (small large : ℕ) → small ≤ large → (z : Point) → in_area o (drawn o small) z ≡ true → in_area o (drawn o large) z ≡ true
  area_shrinks small large l = fewer_area (drawn o small) (drawn o large) (drawn_shrinks small large l)

module _ {o : Office} (a : Acceptable o) (z : Point) where
  -- outside is where it is not in the area
  pub outside_iff : (k : List ℕ) → (place o k z ≡ 0) ↔ (in_area o k z ≡ false)
  unfolding place
  outside_iff k = step (on_outline o k z) (in_area o k z) (outline_in_area a k z)
    where
      step : (x y : Bool) → (x ≡ true → y ≡ true) → (◌≡◌ {A = ℕ} (told x y) 0) ↔ (y ≡ false)
      step true true f = ((λ e. absurd (omega arith)), (λ e. absurd (false_iff.0 e refl)))
      step true false f = ((λ e. refl), (λ e. absurd (false_iff.0 e (f refl))))
      step false true f = ((λ e. absurd (omega arith)), (λ e. absurd (false_iff.0 e refl)))
      step false false f = ((λ e. refl), (λ e. refl))

  fewer_outside : (j k : List ℕ) → Fewer j k → place o k z ≡ 0 → place o j z ≡ 0
  fewer_outside j k f e = (outside_iff j).1 (false_iff.1 (λ t. false_iff.0 ((outside_iff k).0 e) (fewer_area o j k f z t)))

  -- a peel never turns an outside point into one in the area
  pub peel_stays_outside : (k : List ℕ) (s : ℕ) → place o k z ≡ 0 → place o (peel k s) z ≡ 0
  peel_stays_outside k s = fewer_outside (peel k s) k (peel_fewer k s)

  -- nor does a smaller limit
  pub stays_outside : (small large : ℕ) → small ≤ large → place o (drawn o large) z ≡ 0 → place o (drawn o small) z ≡ 0
  stays_outside small large l = fewer_outside (drawn o small) (drawn o large) (drawn_shrinks o small large l)
