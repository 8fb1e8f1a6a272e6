-- Document 02, 6/13, in one statement: the area by triangles is the area by the ring, after each peel; the hull's is the outline's and those of
-- the triangles named in the history; and every ring runs counterclockwise. Assumes nothing.
use mathlib.Core.Path.{◌≡◌, refl, sym, ap, subst, ◌∙◌}
use mathlib.Core.List.{List, [], ◌∷◌, map}
use Prim.Native.Nat.{ℕ, ◌+◌}
use lib.IntN.{pos, ◌+ℤ◌}
use lib.ListN.{length, get_or, take}
use lib.Seq.{take-length}
use lib.Signed.{◌<ℤ◌}
use Rattle.sheet.specs.Plane.{Point}
use Rattle.sheet.specs.Office.{Office, point}
use Rattle.sheet.specs.Acceptable.{Acceptable}
use Rattle.rim.specs.Peel.{whole, drawn, ring, doubled}
use Rattle.rim.specs.Reached.{Reached, begun}
use Rattle.rim.proofs.Reached.{sound}
use Rattle.peel.specs.Shoelace.{shoelace, ring_lace, spots}
use Rattle.peel.specs.History.{history, areas, without}
use Rattle.peel.proofs.DrawnOutline.{stripped_reached}
use Rattle.peel.proofs.Shoelace.{doubled_laced, ring_positive}
use Rattle.peel.proofs.History.{history_leads, drawn_without}

-- marks k, once the triangles ts are peeled
pub record Deed (o : Office) (k ts : List ℕ) : Type 0 where
  -- by triangles and by the ring
  pub agree : pos (doubled o k) ≡ ring_lace o (ring o k)
  -- counterclockwise
  pub positive : pos 0 <ℤ ring_lace o (ring o k)
  -- the hull's, by triangles and by the rings
  pub hull : doubled o (whole o) ≡ doubled o k + areas o ts
  pub hull_ring : ring_lace o (ring o (whole o)) ≡ ring_lace o (ring o k) +ℤ pos (areas o ts)

module _ {o : Office} (a : Acceptable o) where
  -- any marks that peels of removable sides lead to
  pub reached_laced : {n : ℕ} {k : List ℕ} → Reached o n k → pos (doubled o k) ≡ ring_lace o (ring o k)
  reached_laced r = doubled_laced a (sound o a r)

  module _ (limit : ℕ) where
    -- after the first m peels of a draw
    pub after_each : (m : ℕ) → Deed o (without (whole o) (take m (history o limit))) (take m (history o limit))
    after_each m =
        let h = history_leads a limit m in
        let r = stripped_reached a limit h.strips in
        record {
          agree = reached_laced r;
          positive = ring_positive a (sound o a r);
          hull = h.gone;
          hull_ring = sym (reached_laced begun) ∙ ap pos h.gone ∙ ap (λ z. z +ℤ pos (areas o (take m (history o limit)))) (reached_laced r);
        }

    -- after a draw
    pub drawn_deed : Deed o (drawn o limit) (history o limit)
    drawn_deed =
        subst (λ k. Deed o k (history o limit)) (sym (drawn_without o limit))
        (subst (λ ts. Deed o (without (whole o) ts) ts) (take-length (history o limit)) (after_each (length (history o limit))))

-- the polygon written of a ring has the ring's points
ring_spots : (o : Office) (row : List ℕ) → spots (map (λ p. get_or o.xs p 0) row) (map (λ p. get_or o.ys p 0) row) ≡ map (point o) row
unfolding spots
ring_spots o [] = refl
ring_spots o (p ∷ row) = ap {B = List Point} (λ l. point o p ∷ l) (ring_spots o row)

-- so the polygon of every drawn outline runs counterclockwise
pub drawn_polygon : {o : Office} → Acceptable o → (limit : ℕ)
    → pos 0 <ℤ shoelace (spots (map (λ p. get_or o.xs p 0) (ring o (drawn o limit))) (map (λ p. get_or o.ys p 0) (ring o (drawn o limit))))
drawn_polygon {o} a limit = subst (λ l. pos 0 <ℤ shoelace l) (sym (ring_spots o (ring o (drawn o limit)))) (drawn_deed a limit).positive
