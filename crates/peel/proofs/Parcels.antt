-- Where a point of the grid lies, in plain logic. On the outline is in the area, and so are the office's own points. Assumes nothing.
use mathlib.Core.Path.{◌≡◌, sym, subst, ◌∙◌}
use mathlib.Core.Logic.{◌↔◌}
use mathlib.Core.Bool.{true, ◌&&◌}
use mathlib.Core.List.{List, [], ◌∷◌}
use Prim.Native.Nat.{ℕ, ◌+◌, ◌*◌, ◌/◌, ◌<◌}
use lib.Dec.{eqb}
use lib.ListN.{get_or}
use lib.IntN.{pos, ◌+ℤ◌, ◌*ℤ◌}
use Rattle.laws.proofs.Solve.{v, k as number, ◌:+◌, ◌:-◌, ◌:*◌, solve}
use Rattle.laws.proofs.Test.{plain, and_iff, any_iff, eqb_iff}
use Rattle.sheet.specs.Plane.{Point, dx, dy, turn}
use Rattle.sheet.specs.Office.{Office, points, sides, triangles, point, tail, head}
use Rattle.sheet.specs.Acceptable.{Acceptable}
use Rattle.sheet.proofs.Sign.{Non, opp, non_is, non_zero, never, exact, less_pos, more_pos, not_less, non_less}
use Rattle.sheet.proofs.Cross.{turn_cycle, turn_self}
use Rattle.sheet.proofs.Side.{triangle_below}
use Rattle.sheet.proofs.Tiling.{at_triangle, to_triangle, left_turn}
use Rattle.sheet.proofs.Tiled.{tiling}
use Rattle.sheet.proofs.Facing.{dot}
use Rattle.sheet.proofs.Edge.{left_ea, left_be}
use Rattle.sheet.proofs.Pierced.{Covers}
use Rattle.rim.specs.Peel.{rim}
use Rattle.rim.specs.Reached.{Reached}
use Rattle.rim.proofs.Marks.{rim_iff}
use Rattle.rim.proofs.Reached.{sound}
use Rattle.peel.specs.Parcel.{not_right, on_way, within, along, in_area, on_outline}

-- z lies on the way from a to b, the ends counted
abbrev pub On : Point → Point → Point → Type 0
On z a b = (turn z a b ≡ pos 0) × Non (opp (dot z a b))

pub not_right_iff : (a b z : Point) → (not_right a b z ≡ true) ↔ Non (turn z a b)
not_right_iff a b z = (
  (λ e. non_is (sym (turn_cycle z a b)) (not_less _ (simp plain at e))),
  (λ h. simp plain (non_less (non_is (turn_cycle z a b) h))),
)

-- seen from z, the ends of a way through it lie opposite
opposite : (a b z : Point) → dx a z *ℤ dx z b +ℤ dy a z *ℤ dy z b ≡ opp (dot z a b)
opposite a b z =
    solve ((v 4 :- v 0) :* (v 2 :- v 4) :+ (v 5 :- v 1) :* (v 3 :- v 5)) (number (pos 0) :- ((v 0 :- v 4) :* (v 2 :- v 4) :+ (v 1 :- v 5) :* (v 3 :- v 5)))
    (pos a.x ∷ pos a.y ∷ pos b.x ∷ pos b.y ∷ pos z.x ∷ pos z.y ∷ []) tt

pub on_way_iff : (a b z : Point) → (on_way a b z ≡ true) ↔ On z a b
on_way_iff a b z = (
  (λ e.
      let h = simp plain at e in
      (turn_cycle z a b ∙ exact (not_less _ h.0.0) (λ p. h.0.1 (more_pos p)), non_is (opposite a b z) (not_less _ h.1))),
  (λ h.
      let e = sym (turn_cycle z a b) ∙ h.0 in
      simp plain ((non_less (non_zero e), λ l. never (less_pos _ l) e), non_less (non_is (sym (opposite a b z)) h.1))),
)

module _ (o : Office) (z : Point) where
  -- z lies in triangle t
  abbrev pub In : ℕ → Type 0
  In = at_triangle o (λ a b c. Covers z (point o a) (point o b) (point o c))

  pub within_iff : (t : ℕ) → (within o t z ≡ true) ↔ In t
  within_iff t = (
    (λ e.
        let (h, w) = (and_iff {a = not_right (point o (tail o (t * 3))) (point o (tail o (t * 3 + 1))) z && not_right (point o (tail o (t * 3 + 1))) (point o (tail o (t * 3 + 2))) z}).0 e in
        let (x, y) = (and_iff {a = not_right (point o (tail o (t * 3))) (point o (tail o (t * 3 + 1))) z}).0 h in
        ((not_right_iff _ _ z).0 x, (not_right_iff _ _ z).0 y, (not_right_iff _ _ z).0 w)),
    (λ h. and_iff.1 (and_iff.1 ((not_right_iff _ _ z).1 h.0, (not_right_iff _ _ z).1 h.1), (not_right_iff _ _ z).1 h.2)),
  )

  module _ (k : List ℕ) where
    pub in_area_iff : (in_area o k z ≡ true) ↔ ((t : ℕ) × (t < triangles o) × (get_or k t 0 ≡ 1) × In t)
    unfolding in_area
    in_area_iff = (
      (λ e.
          let (t, l, h) = (any_iff {test = λ t. eqb (get_or k t 0) 1 && within o t z}).0 e in
          let (x, y) = (and_iff {a = eqb (get_or k t 0) 1}).0 h in
          (t, l, eqb_iff.0 x, (within_iff t).0 y)),
      (λ (t, l, x, y). any_iff.1 (t, l, and_iff.1 (eqb_iff.1 x, (within_iff t).1 y))),
    )

    pub on_outline_iff : (on_outline o k z ≡ true) ↔ ((s : ℕ) × (s < sides o) × (rim o k s ≡ true) × On z (point o (tail o s)) (point o (head o s)))
    unfolding on_outline
    on_outline_iff = (
      (λ e.
          let (s, l, h) = (any_iff {test = λ s. rim o k s && along o s z}).0 e in
          let (x, y) = (and_iff {a = rim o k s}).0 h in
          (s, l, x, (on_way_iff _ _ z).0 y)),
      (λ (s, l, x, y). any_iff.1 (s, l, and_iff.1 (x, (on_way_iff _ _ z).1 y))),
    )

module _ {o : Office} (a : Acceptable o) where
  -- what lies on a side lies in its triangle
  pub on_in : (z : Point) (s : ℕ) → s < sides o → On z (point o (tail o s)) (point o (head o s)) → In o z (s / 3)
  on_in z s l (flat, between) =
      to_triangle o (tiling a) (λ i j l. Covers z (point o i) (point o j) (point o l)) (λ i j l (x, y, w). (y, w, x)) s l
      (non_zero flat, left_be z _ _ _ flat between (left_turn o (tiling a) s l), left_ea z _ _ _ flat between (left_turn o (tiling a) s l))

  pub outline_in_area : (k : List ℕ) (z : Point) → on_outline o k z ≡ true → in_area o k z ≡ true
  outline_in_area k z e =
      let (s, l, x, y) = (on_outline_iff o z k).0 e in
      (in_area_iff o z k).1 (s / 3, triangle_below (sides o) s a.corners_bound.1 l, ((rim_iff o k s).0 x).0, on_in z s l y)

  -- after any peels every point of the office is in the area
  pub own_points : {n : ℕ} {k : List ℕ} → Reached o n k → (p : ℕ) → p < points o → in_area o k (point o p) ≡ true
  own_points {k = k} r p b =
      let (s, l, c, e) = (sound o a r).held p b in
      (in_area_iff o (point o p) k).1 (s / 3, triangle_below (sides o) s a.corners_bound.1 l, c, on_in (point o p) s l (subst (λ q. On (point o p) (point o q) (point o (head o s))) (sym e) (at_start (point o p) (point o (head o s)))))
    where
      at_start : (q b : Point) → On q q b
      at_start q b = (turn_self q b, non_zero (solve (number (pos 0) :- ((v 0 :- v 0) :* v 2 :+ (v 1 :- v 1) :* v 3)) (number (pos 0)) (pos q.x ∷ pos q.y ∷ dx q b ∷ dy q b ∷ []) tt))
