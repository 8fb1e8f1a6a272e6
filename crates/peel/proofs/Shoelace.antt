-- The doubled area of reached marks is the shoelace sum of their ring, and it is positive. Assumes nothing.
use mathlib.Core.Path.{◌≡◌, refl, sym, ap, ap₂, subst, ◌∙◌}
use mathlib.Core.Bool.{Bool, true, false, cond}
use mathlib.Core.List.{List, [], ◌∷◌, map}
use Prim.Native.Nat.{ℕ, zero, suc, ◌+◌, ◌*◌, ◌/◌, ◌%◌, ◌<◌, ◌≤◌}
use native.Mathlib.Decide.{dec_lt}
use native.Mathlib.Nat.{mod-eq_of_lt, mod_self}
use native.Mathlib.Omega.{arith}
use lib.Dec.{eqb, lt→ltb}
use lib.ListN.{length, get_or, get_or-eq_default}
use lib.IntN.{ℤ, pos, nat_abs, ◌+ℤ◌, +ℤ_idl}
use lib.Signed.{◌<ℤ◌}
use Rattle.laws.proofs.Solve.{Ex, v, k as number, ◌:+◌, ◌:-◌, ◌:*◌, solve}
use Rattle.sheet.specs.Plane.{Point, turn}
use Rattle.sheet.specs.Office.{Office, triangles, point, tail, area}
use Rattle.sheet.specs.Acceptable.{Acceptable}
use Rattle.sheet.proofs.Sign.{Pos, opp}
use Rattle.sheet.proofs.Total.{total, total_same}
use Rattle.sheet.proofs.Swap.{pos_sum, total_front}
use Rattle.sheet.proofs.Tiling.{area_pos}
use Rattle.sheet.proofs.Side.{own_triangle}
use Rattle.sheet.proofs.Mesh.{triple}
use Rattle.sheet.proofs.Wind.{term_le}
use Rattle.sheet.proofs.Tiled.{tiling}
use Rattle.rim.specs.Peel.{kept, ring, doubled}
use Rattle.rim.proofs.Reached.{Sound}
use Rattle.peel.specs.Shoelace.{lace, laces, shoelace, ring_lace}
use Rattle.peel.proofs.RingSum.{ring_sum}

lace_back : (a b : Point) → lace a b ≡ opp (lace b a)
lace_back a b = solve (v 0 :* v 3 :- v 2 :* v 1) (number (pos 0) :- (v 2 :* v 1 :- v 0 :* v 3)) (pos a.x ∷ pos a.y ∷ pos b.x ∷ pos b.y ∷ []) tt

-- ---- along a row
module _ (o : Office) where
  abbrev F : ℕ → ℕ → ℤ
  F p q = lace (point o p) (point o q)

  laces_total : (p : ℕ) (ps : List ℕ) (q : ℕ) → laces (point o p) (map (point o) ps) (point o q) ≡ total (λ i. F (get_or (p ∷ ps) i q) (get_or (p ∷ ps) (suc i) q)) (suc (length ps))
  unfolding laces total
  laces_total p [] q = sym (+ℤ_idl (F p q))
  laces_total p (r ∷ rs) q =
      ap (λ z. F p r +ℤ z) (laces_total r rs q)
      ∙ sym (total_front (λ i. F (get_or (p ∷ r ∷ rs) i q) (get_or (p ∷ r ∷ rs) (suc i) q)) (suc (length rs)))

  other_default : (row : List ℕ) (i d e : ℕ) → i < length row → get_or row i d ≡ get_or row i e
  other_default [] i d e l = absurd (omega arith)
  other_default (p ∷ ps) zero d e l = refl
  other_default (p ∷ ps) (suc i) d e l = other_default ps i d e (omega arith)

  -- past the last comes the first
  wraps : (p : ℕ) (ps : List ℕ) (i : ℕ) → i ≤ suc (length ps) → get_or (p ∷ ps) i p ≡ get_or (p ∷ ps) (i % suc (length ps)) 0
  wraps p ps i l = elim (dec_lt i (suc (length ps))) [
    | yes b ↦ other_default (p ∷ ps) i p 0 b ∙ ap (λ j. get_or (p ∷ ps) j 0) (sym (mod-eq_of_lt b))
    | no f ↦ (
        let e : i ≡ suc (length ps) = omega arith in
        rw e (get_or-eq_default ps p {n = length ps} (omega arith) ∙ ap (λ j. get_or (p ∷ ps) j 0) (sym (mod_self (suc (length ps)))))
        )
  ]

  pub lace_total : (row : List ℕ) → ring_lace o row ≡ total (λ i. F (get_or row (i % length row) 0) (get_or row ((i + 1) % length row) 0)) (length row)
  unfolding shoelace total
  lace_total [] = refl
  lace_total (p ∷ ps) =
      laces_total p ps p
      ∙ total_same _ _ (suc (length ps)) (λ i l.
      let e : suc i ≡ i + 1 = omega arith in
      ap₂ F (wraps p ps i (omega arith)) (wraps p ps (suc i) l ∙ ap (λ j. get_or (p ∷ ps) (j % suc (length ps)) 0) e))

  triple_is : (t : ℕ) → triple o F t ≡ area o t
  unfolding turn
  triple_is t =
      let at : ℕ → Point = λ s. point o (tail o s) in
      solve (cross_e 0 2 :+ cross_e 2 4 :+ cross_e 4 0) ((v 2 :- v 0) :* (v 5 :- v 1) :- (v 3 :- v 1) :* (v 4 :- v 0))
      (pos (at (t * 3)).x ∷ pos (at (t * 3)).y ∷ pos (at (t * 3 + 1)).x ∷ pos (at (t * 3 + 1)).y ∷ pos (at (t * 3 + 2)).x ∷ pos (at (t * 3 + 2)).y ∷ []) tt
    where
      cross_e : ℕ → ℕ → Ex
      cross_e i j = v i :* v (suc j) :- v j :* v (suc i)

-- ---- of reached marks
module _ {o : Office} {n : ℕ} {k : List ℕ} (a : Acceptable o) (h : Sound o n k) where
  size : (z : ℤ) → Pos z → pos (nat_abs z) ≡ z
  size z p = rw p.is

  held : (t : ℕ) → t < triangles o → pos (cond (eqb (get_or k t 0) 1) (nat_abs (area o t)) 0) ≡ cond (kept o k (t * 3)) (triple o (F o) t) (pos 0)
  held t l = rw (own_triangle t, triple_is o t) (step (eqb (get_or k t 0) 1))
    where
      step : (b : Bool) → pos (cond b (nat_abs (area o t)) 0) ≡ cond b (area o t) (pos 0)
      step true = size (area o t) (area_pos o (tiling a) t l)
      step false = refl

  -- the two ways of working out the area agree
  pub doubled_laced : pos (doubled o k) ≡ ring_lace o (ring o k)
  unfolding doubled
  doubled_laced =
      pos_sum _ (triangles o)
      ∙ total_same _ _ (triangles o) held
      ∙ sym (ring_sum a h (F o) (λ p q. lace_back (point o p) (point o q)))
      ∙ sym (lace_total o (ring o k))

  -- a kept triangle has some
  doubled_positive : 0 < doubled o k
  unfolding doubled
  doubled_positive =
      let (r, l, c, e) = h.held 0 (let z = a.points_bound.0 in omega arith) in
      let w : r / 3 < triangles o = (let u = a.corners_bound.1 in omega arith) in
      let p = area_pos o (tiling a) (r / 3) w in
      let x : nat_abs (area o (r / 3)) ≡ suc p.by = ap nat_abs p.is in
      let y : cond (eqb (get_or k (r / 3) 0) 1) (nat_abs (area o (r / 3))) 0 ≡ nat_abs (area o (r / 3)) = rw c in
      omega (arith, term_le (λ t. cond (eqb (get_or k t 0) 1) (nat_abs (area o t)) 0) (triangles o) (r / 3) w)

  -- so the ring runs counterclockwise
  pub ring_positive : pos 0 <ℤ ring_lace o (ring o k)
  ring_positive = subst (λ z. pos 0 <ℤ z) doubled_laced (record { lt = lt→ltb 0 (doubled o k) doubled_positive })
