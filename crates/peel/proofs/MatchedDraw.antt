-- A draw of a matched office keeps the same triangles, and peels as many of the same area. Assumes nothing.
use mathlib.Core.Path.{◌≡◌, sym, ap, ap₂, subst, ◌∙◌}
use mathlib.Core.Bool.{Bool, true, false, not, cond}
use mathlib.Core.List.{List}
use mathlib.Core.Option.{Option, none, some, map}
use Prim.Native.Nat.{ℕ, zero, suc, ◌*◌, ◌/◌, ◌%◌, ◌<◌}
use native.Mathlib.Omega.{arith}
use lib.Dec.{eqb, ltb}
use lib.IntN.{nat_abs}
use lib.ListN.{get_or}
use Rattle.laws.proofs.Bijection.{count_along, sum_along}
use Rattle.sheet.specs.Plane.{turn}
use Rattle.sheet.specs.Office.{Office, sides, triangles, area}
use Rattle.sheet.proofs.Side.{own_triangle}
use Rattle.sheet.proofs.Rotate.{Of, turn_rotates}
use Rattle.sheet.proofs.Matched.{Matched, turned_back, moved, moved_triangle, same_sides, whole_moved, of_moved, moved_below, triangle_back}
use Rattle.sheet.specs.Acceptable.{Acceptable}
use Rattle.rim.specs.Peel.{long, best, peel, turned, peels, whole, drawn, peeled, doubled}
use Rattle.rim.proofs.TopSide.{Top, best_top}
use Rattle.peel.proofs.MatchedMarks.{Carried, whole_carried, long_moved, best_moved, peel_carried}

module _ {o n : Office} (re : Matched o n) (a : Acceptable o) where
  thirds : sides o % 3 ≡ 0
  thirds = a.corners_bound.1

  pub same_triangles : triangles n ≡ triangles o
  same_triangles = ap (λ s. s / 3) (same_sides re)

  turn_carried : {k j : List ℕ} (draw redraw : List ℕ → List ℕ) (limit : ℕ) (b : Option ℕ) → Carried re k j → Top a k (sides o) b
      → ((s : ℕ) → s < sides o → Carried re (draw (peel k s)) (redraw (peel j (moved re s))))
      → Carried re (turned o draw limit k b) (turned n redraw limit j (map (moved re) b))
  unfolding turned
  turn_carried draw redraw limit none c t ih = c
  turn_carried {k} {j} draw redraw limit (some s) c (l, _, _) ih = rw (long_moved re a s l) (step (ltb limit (long o s)))
    where
      step : (b : Bool) → Carried re (cond b (draw (peel k s)) k) (cond b (redraw (peel j (moved re s))) j)
      step true = ih s l
      step false = c

  pub peels_carried : (fuel limit : ℕ) {k j : List ℕ} → Carried re k j → Carried re (peels o fuel limit k) (peels n fuel limit j)
  unfolding peels
  peels_carried zero limit c = c
  peels_carried (suc fuel) limit {k} {j} c =
      subst (λ b. Carried re (turned o (peels o fuel limit) limit k (best o k)) (turned n (peels n fuel limit) limit j b)) (sym (best_moved re a c))
      (turn_carried (peels o fuel limit) (peels n fuel limit) limit (best o k) c (best_top a k) (λ s l. peels_carried fuel limit (peel_carried re a c s l)))

  pub drawn_carried : (limit : ℕ) → Carried re (drawn o limit) (drawn n limit)
  unfolding drawn
  drawn_carried limit = subst (λ f. Carried re (drawn o limit) (peels n f limit (whole n))) (sym same_triangles) (peels_carried (triangles o) limit (whole_carried re a))

  module _ {k j : List ℕ} (c : Carried re k j) where
    -- triangle by triangle
    pub mark_moved : (t : ℕ) → t < triangles o → get_or j (moved_triangle re t) 0 ≡ get_or k t 0
    mark_moved t l = c.mark (t * 3) (omega arith) ∙ ap (λ t. get_or k t 0) (own_triangle t)

    pub peeled_same : peeled n j ≡ peeled o k
    unfolding peeled
    peeled_same = count_along (moved_triangle re) (moved_triangle (turned_back re)) (moved_below re thirds) (moved_below (turned_back re) (whole_moved re thirds))
        (triangle_back re thirds) (triangle_back (turned_back re) (whole_moved re thirds)) _ _ (λ t l. ap (λ m. not (eqb m 1)) (mark_moved t l))

    pub doubled_same : doubled n j ≡ doubled o k
    unfolding doubled
    doubled_same = sum_along (moved_triangle re) (moved_triangle (turned_back re)) (moved_below re thirds) (moved_below (turned_back re) (whole_moved re thirds))
        (triangle_back re thirds) (triangle_back (turned_back re) (whole_moved re thirds)) _ _
        (λ t l. ap₂ (λ m z. cond (eqb m 1) (nat_abs z) 0) (mark_moved t l) (area_moved t l))
      where
        area_moved : (t : ℕ) → t < triangles o → area n (moved_triangle re t) ≡ area o t
        area_moved t l = of_moved re thirds a.numbered turn turn_rotates (t * 3) (omega arith) ∙ ap (Of turn o) (own_triangle t)
