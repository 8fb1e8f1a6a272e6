-- What a step leaves: the state as it was, or the state after one peel. Assumes nothing.
use mathlib.Core.Path.{◌≡◌, refl, sym, ap, subst, ◌∙◌}
use mathlib.Core.Bool.{Bool, true, false, ◌||◌}
use mathlib.Core.List.{List}
use mathlib.Core.Option.{Option, none, some}
use Prim.Native.Nat.{ℕ, suc, ◌+◌, ◌-◌, ◌/◌, ◌<◌, ◌≤◌}
use native.Mathlib.Decide.{ℕ_discrete}
use native.Mathlib.Omega.{arith}
use lib.Dec.{eqb}
use lib.IntN.{nat_abs}
use lib.ListN.{get_or, set, length-set}
use lib.Seq.{length-take-le, take-set-lt, drop-set-lt, get_or-set_same, get_or-set_other}
use borrow.Author.Tests.{lt-ltb, le-ltb, eq-eqb, ne_eqb}
use Rattle.sheet.specs.Office.{Office, points, sides, triangles, apex, area, last}
use Rattle.sheet.proofs.Side.{last_below}
use Rattle.rim.specs.Peel.{mark, on_rim, long, best, peel, turned, rims, doubled}
use Rattle.rim.specs.Reached.{Reached, more}
use Rattle.rim.specs.Code.{front, State, Stepped, told, answered}
use Rattle.std.specs.Prelude.{Option as Maybe, Some, None}
use Rattle.rim.specs.declared.answers.Side.{Side}
use Rattle.rim.specs.declared.answers.Step.TheVariants.{Peeled, Nothing as Stays}
use Rattle.rim.proofs.OnePeel.{Peelable}
use Rattle.rim.proofs.RimPoints.{on_rim_after}
use Rattle.rim.proofs.Tallied.{doubled_after}
use Rattle.rim.proofs.Reached.{sound}
use Rattle.rim.proofs.Rings.{rims_are, rims_after, ring_fits, some_kept}
use Rattle.rim.proofs.TopSide.{Top, best_iff}

-- what the code found is the best side
none_told : (o : Office) (x : Option ℕ) → None ≡ told o x → x ≡ none
none_told o none e = refl
none_told o (some s) e = absurd (let z : ◌≡◌ {A = ℕ} 0 1 = cc in omega arith)

some_told : (o : Office) (x : Option ℕ) (s : Side) → Some s ≡ told o x → (x ≡ some s.place) × (s.squared ≡ long o s.place)
some_told o none s e = absurd (let z : ◌≡◌ {A = ℕ} 0 1 = cc in omega arith)
some_told o (some r) s e = let z : s.place ≡ r = cc in (ap some (sym z), (let w : s.squared ≡ long o r = cc in w ∙ ap (long o) (sym z)))

module _ (o : Office) (limit : ℕ) (mate kept rim : List ℕ) (peeled area ring : ℕ) (h : State o mate kept rim peeled area ring) where
  abbrev k : List ℕ
  k = front o.corners kept

  -- nothing is removable above the limit
  stays : (x : Option ℕ) → best o k ≡ x → answered o limit x ≡ Stays → turned o (λ j. j) limit k x ≡ k → Stepped o limit mate kept rim kept rim peeled Stays peeled area ring
  stays x e says marks = record {
    state = h;
    says = sym says ∙ ap (answered o limit) (sym e);
    marks = sym marks ∙ ap (turned o (λ j. j) limit k) (sym e);
    counts = omega arith;
    kept_rest = refl;
    rim_rest = refl;
    kept_long = refl;
    rim_long = refl;
  }

  pub nothing_left : {found : Maybe Side} → found ≡ told o (best o k) → found ≡ None → Stepped o limit mate kept rim kept rim peeled Stays peeled area ring
  unfolding turned
  nothing_left e f = stays none (none_told o (best o k) (sym f ∙ e)) refl refl

  module _ {found : Maybe Side} (side : Side) (e : found ≡ told o (best o k)) (f : found ≡ Some side) where
    abbrev s : ℕ
    s = side.place

    abbrev q : ℕ
    q = side.squared

    best_is : best o k ≡ some s
    best_is = (some_told o (best o k) side (sym f ∙ e)).0

    long_is : q ≡ long o s
    long_is = (some_told o (best o k) side (sym f ∙ e)).1

    pub nothing_above : q ≤ limit → Stepped o limit mate kept rim kept rim peeled Stays peeled area ring
    unfolding turned
    nothing_above l = let z = long_is in let b = le-ltb limit (long o s) (omega arith) in stays (some s) best_is (rw b) (rw b)

    top : Top h.held.acceptable k (sides o) (some s)
    top = (best_iff h.held.acceptable k (some s)).0 best_is

    pub side_there : s < sides o
    side_there = top.0

    pub can : Peelable o k s
    can = record { size = length-take-le (triangles o) kept h.held.room; below = top.0; may = top.1 }

    pub triangle_there : s / 3 < triangles o
    triangle_there = omega (arith, side_there, h.held.acceptable.corners_bound)

    pub third_there : apex o s < points o
    third_there = h.held.acceptable.numbered (last s) (last_below (sides o) s h.held.acceptable.corners_bound.1 side_there)

    -- the triangle's area is part of the whole
    pub area_there : nat_abs (Rattle.sheet.specs.Office.area o (s / 3)) ≤ area
    area_there = omega (arith, doubled_after h.held.acceptable can, h.areas)

    pub peels_there : peeled < triangles o
    peels_there = some_kept h.held.acceptable (sound o h.held.acceptable h.reached)

    pub ring_there : ring ≤ points o
    ring_there = let r = sound o h.held.acceptable h.reached in omega (arith, rims_are h.held.acceptable r, ring_fits h.held.acceptable r, h.rings)

    abbrev kept' : List ℕ
    kept' = set kept (s / 3) 0

    rim' : List ℕ
    rim' = set rim (apex o s) 1

    pub front_is : front o.corners (set kept (s / 3) 0) ≡ peel k s
    front_is = take-set-lt (triangles o) kept (s / 3) 0 triangle_there

    pub on : (p : ℕ) → p < points o → get_or (set rim (apex o s) 1) p 0 ≡ mark (on_rim o (front o.corners kept') p)
    unfolding rim'
    on p l = step (ℕ_discrete p (apex o s)) ∙ ap mark (sym (on_rim_after h.held.acceptable can p)) ∙ ap (λ j. mark (on_rim o j p)) (sym front_is)
      where
        step : Dec (p ≡ apex o s) → get_or rim' p 0 ≡ mark (on_rim o k p || eqb p (apex o s))
        step (yes z) = ap (λ i. get_or rim' i 0) z ∙ get_or-set_same rim (apex o s) 1 0 (omega (arith, third_there, h.held.places)) ∙ sym (ap (λ b. mark (on_rim o k p || b)) (eq-eqb p (apex o s) z) ∙ always (on_rim o k p))
          where
            always : (b : Bool) → mark (b || true) ≡ 1
            always true = refl
            always false = refl
        step (no z) = get_or-set_other rim (apex o s) p 1 0 z ∙ h.held.on p l ∙ sym (ap (λ b. mark (on_rim o k p || b)) (ne_eqb p (apex o s) z) ∙ never (on_rim o k p))
          where
            never : (b : Bool) → mark (b || false) ≡ mark b
            never true = refl
            never false = refl

    pub peels_one : {gone peeled' area' ring' : ℕ} → limit < q → gone ≡ nat_abs (Rattle.sheet.specs.Office.area o (s / 3))
        → (peeled' ≡ peeled + 1) × (area' ≡ area - gone) × (ring' ≡ ring + 1)
        → Stepped o limit mate kept rim (set kept (s / 3) 0) (set rim (apex o s) 1) peeled (Peeled (s / 3) q) peeled' area' ring'
    unfolding turned rim'
    peels_one l z (u, x, y) = let b = (let w = long_is in lt-ltb limit (long o s) (omega arith)) in record {
      state = record {
        held = record {
          acceptable = h.held.acceptable;
          mates = h.held.mates;
          room = simp length-set h.held.room;
          places = simp length-set h.held.places;
          on = on;
        };
        reached = subst (λ n. Reached o n (front o.corners kept')) (omega arith) (subst (Reached o (suc peeled)) (sym front_is) (more s h.reached side_there top.1));
        areas = (let w = doubled_after h.held.acceptable can in let v = h.areas in omega arith) ∙ ap (doubled o) (sym front_is);
        rings = (let w = rims_after h.held.acceptable h.reached s side_there top.1 in let v = h.rings in omega arith) ∙ ap (rims o) (sym front_is);
      };
      says = (rw b (ap (Peeled (s / 3)) long_is)) ∙ ap (answered o limit) (sym best_is);
      marks = front_is ∙ sym (ap (turned o (λ j. j) limit k) best_is ∙ rw b);
      counts = omega arith;
      kept_rest = drop-set-lt (triangles o) kept (s / 3) 0 triangle_there;
      rim_rest = drop-set-lt (points o) rim (apex o s) 1 third_there;
      kept_long = length-set kept (s / 3) 0;
      rim_long = length-set rim (apex o s) 1;
    }
