-- The outline of reached marks: it goes once round the rim from its lowest point, and a peel makes it one point longer. Assumes nothing.
use mathlib.Core.Path.{◌≡◌, refl, sym, ap, subst, ◌∙◌}
use mathlib.Core.Logic.{◌⊎◌, inl, inr}
use mathlib.Core.Bool.{true, not}
use mathlib.Core.List.{List}
use Prim.Native.Nat.{ℕ, suc, ◌+◌, ◌/◌, ◌<◌, ◌≤◌}
use native.Mathlib.Decide.{dec_lt}
use native.Mathlib.Omega.{arith}
use lib.Dec.{eqb}
use lib.ListN.{length, get_or}
use lib.Seq.{ext_get_or}
use Rattle.laws.specs.First.{first, table, stepped}
use Rattle.laws.proofs.Test.{kept_iff, eqb_iff, first_of}
use Rattle.laws.proofs.Search.{first_is}
use Rattle.laws.proofs.Fill.{length-table, get_or-table}
use Rattle.laws.proofs.Count.{inject, count_all, count_less}
use Rattle.laws.proofs.Walk.{length-walk, get_or-walk}
use Rattle.laws.proofs.Round.{apart_early, from_step, from_step_at}
use Rattle.laws.specs.Round.{Round}
use Rattle.laws.proofs.Runs.{stepped_is, length_is}
use Rattle.sheet.specs.Office.{Office, points, sides, triangles, tail, head, rims as hull_sides}
use Rattle.sheet.specs.Acceptable.{Acceptable}
use Rattle.sheet.proofs.Hull.{hull_three}
use Rattle.rim.specs.Peel.{rim, on_rim, removable, peel, rims, after, ring, peeled}
use Rattle.rim.proofs.Marks.{Way, rim_iff, on_rim_iff}
use Rattle.rim.specs.Reached.{Reached, more}
use Rattle.rim.proofs.Reached.{Sound, sound}

-- a round of m rim sides that begins at the lowest point on the rim, read into the outline
pub record RingRound (o : Office) (k : List ℕ) (m : ℕ) : Type 0 where
  pub round : Round (Way o k) m
  pub begins : on_rim o k (round.at 0) ≡ true
  pub lowest : (p : ℕ) → on_rim o k p ≡ true → round.at 0 ≤ p
  pub reads : ring o k ≡ table round.at m

module _ {o : Office} {n : ℕ} {k : List ℕ} (a : Acceptable o) (h : Sound o n k) where
  pub rims_are : rims o k ≡ hull_sides o + n
  rims_are = length_is (sides o) (rim o k) (tail o) (head o) h.round a.single

  pub ring_length : length (ring o k) ≡ hull_sides o + n
  unfolding ring
  ring_length = length-walk (after o k) (first (on_rim o k) (points o)) (rims o k) ∙ rims_are

  at_point : (i : ℕ) → h.round.at i < points o
  at_point i = let (s, l, _, e, _) = h.round.goes i in subst (λ p. p < points o) e (a.numbered s l)

  at_rim : (i : ℕ) → on_rim o k (h.round.at i) ≡ true
  at_rim i = let (s, l, t, e, _) = h.round.goes i in (on_rim_iff o k (h.round.at i)).1 (s, l, inl e, (rim_iff o k s).0 t)

  -- a point on the rim is on the round
  rim_at : (p : ℕ) → on_rim o k p ≡ true → (i : ℕ) × (h.round.at i ≡ p)
  rim_at p e = let (s, l, c, t) = (on_rim_iff o k p).0 e in ends c (h.round.all (tail o s) (head o s) (s, l, (rim_iff o k s).1 t, refl, refl))
    where
      ends : {x y : ℕ} → (x ≡ p) ⊎ (y ≡ p) → (i : ℕ) × (h.round.at i ≡ x) × (h.round.at (i + 1) ≡ y) → (i : ℕ) × (h.round.at i ≡ p)
      ends (inl c) (i, u, v) = (i, u ∙ c)
      ends (inr c) (i, u, v) = (i + 1, v ∙ c)

  pub outlined : RingRound o k (hull_sides o + n)
  unfolding ring
  outlined =
      let low = first (on_rim o k) (points o) in
      let (l, e) = first_of (on_rim o k) (points o) (h.round.at 0) (at_point 0) (at_rim 0) in
      let (j, f) = rim_at low e in
      let r = from_step h.round j in
      let z : low ≡ r.at 0 = sym (from_step_at h.round j 0 ∙ ap h.round.at (omega arith) ∙ f) in
      record {
        round = r;
        begins = subst (λ p. on_rim o k p ≡ true) z e;
        lowest = λ p t. subst (λ q. q ≤ p) z (lowest_of p t);
        reads = ext_get_or 0 (ring o k) (table r.at (hull_sides o + n)) (ring_length ∙ sym (length-table r.at (hull_sides o + n)))
            (λ i b.
            let c : i < hull_sides o + n = rw ring_length at b in
            get_or-walk (after o k) low (rims o k) i (let u = rims_are in omega arith)
            ∙ ap (λ p. stepped (after o k) p i) z
            ∙ stepped_is (sides o) (rim o k) (tail o) (head o) r 0 i
            ∙ ap r.at (omega arith)
            ∙ sym (get_or-table r.at (hull_sides o + n) i c));
      }
    where
      lowest_of : (p : ℕ) → on_rim o k p ≡ true → first (on_rim o k) (points o) ≤ p
      lowest_of p t = elim (dec_lt p (first (on_rim o k) (points o))) [
        | yes l ↦ (let c = (first_is (on_rim o k) (points o)).clear p l in let z : ◌≡◌ {A = ℕ} 0 1 = cc in omega arith)
        | no f ↦ omega arith
      ]

  -- no more points than there are
  pub ring_fits : hull_sides o + n ≤ points o
  ring_fits =
      let e = count_all (hull_sides o + n) in
      let f = count_all (points o) in
      let z = inject (λ _. true) (λ _. true) (hull_sides o + n) (points o) (λ i p. (i < hull_sides o + n) × (h.round.at i ≡ p))
      (λ i l _. (h.round.at i, at_point i, refl, (l, refl))) (λ i j p x y. apart_early h.round i j x.0 y.0 (x.1 ∙ sym y.1)) in
      omega arith

  -- so two points fewer than there are bound the outlines
  pub peels_fit : n + 3 ≤ points o
  peels_fit = omega (arith, ring_fits, hull_three a)

  -- a triangle is left
  pub some_kept : n < triangles o
  unfolding peeled
  some_kept =
      let (r, l, c, e) = h.held 0 (let z = a.points_bound.0 in omega arith) in
      let z = count_less (λ t. not (eqb (get_or k t 0) 1)) (triangles o) (r / 3) (let w = a.corners_bound.1 in omega arith) (kept_iff.1 (eqb_iff.1 c)) in
      omega (arith, h.count, z)

-- outlines after different numbers of peels differ
pub ring_tells : {o : Office} {n m : ℕ} {k j : List ℕ} → Acceptable o → Sound o n k → Sound o m j → ring o k ≡ ring o j → n ≡ m
ring_tells a h g e = omega (arith, ring_length a h, ring_length a g, ap length e)

-- a peel puts one side more on the rim
pub rims_after : {o : Office} {n : ℕ} {k : List ℕ} (a : Acceptable o) (r : Reached o n k) (s : ℕ) → s < sides o → removable o k s ≡ true → rims o (peel k s) ≡ suc (rims o k)
rims_after {o} a r s l e = omega (arith, rims_are a (sound o a r), rims_are a (sound o a (more s r l e)))
