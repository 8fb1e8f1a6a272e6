-- Two offices with the same points, of which each has the triangles of the other: one is the other renumbered, and its points keep their
-- numbers. Assumes nothing.
use mathlib.Core.Path.{◌≡◌, refl, sym, ap, subst, ◌∙◌}
use mathlib.Core.Bool.{◌&&◌}
use mathlib.Core.Logic.{inl, inr}
use mathlib.Core.List.{List}
use Prim.Native.Nat.{ℕ, zero, suc, ◌+◌, ◌*◌, ◌/◌, ◌%◌, ◌<◌}
use native.Mathlib.Omega.{arith}
use lib.Dec.{eqb}
use Rattle.laws.specs.First.{first}
use Rattle.laws.specs.Bijection.{Bijection}
use Rattle.laws.proofs.Test.{and_iff, eqb_iff, first_of}
use Rattle.laws.proofs.Bijection.{as_many}
use Rattle.laws.proofs.Permutation.{extended, extended_to}
use Rattle.sheet.specs.Office.{Office, office, sides, triangles, tail, head, next, last}
use Rattle.sheet.specs.Acceptable.{Single}
use Rattle.sheet.specs.Renumbered.{Renumbered}
use Rattle.sheet.proofs.Side.{triangle_below, OneOf, same_triangle, head_next, head_last, apex_next, apex_last}
use Rattle.sheet.proofs.Coincide.{Twin, Holds}

module _ {o n : Office} {s r : ℕ} (t : Twin o n s r) where
  twin_next : Twin o n (next s) (next r)
  twin_next = record { tails = t.heads; heads = head_next o s ∙ t.apexes ∙ sym (head_next n r); apexes = apex_next o s ∙ t.tails ∙ sym (apex_next n r) }

  twin_last : Twin o n (last s) (last r)
  twin_last = record { tails = t.apexes; heads = head_last o s ∙ t.tails ∙ sym (head_last n r); apexes = apex_last o s ∙ t.heads ∙ sym (apex_last n r) }

-- o has whole triangles, no side twice, and each triangle of n
pub record Covers (o n : Office) : Type 0 where
  pub whole : sides o % 3 ≡ 0
  pub single : Single o
  pub holds : Holds o n

-- the place in n of the side that runs as side s of o
unfoldable place : Office → Office → ℕ → ℕ
place o n s = first (λ r. eqb (tail n r) (tail o s) && eqb (head n r) (head o s)) (sides n)

module _ {o n : Office} (f : Covers n o) (s : ℕ) (l : s < sides o) where
  placed : (place o n s < sides n) × Twin n o (place o n s) s
  unfolding place
  placed =
      let (r, lr, t) = f.holds s l in
      let (b, h) = first_of (λ r. eqb (tail n r) (tail o s) && eqb (head n r) (head o s)) (sides n) r lr (and_iff.1 (eqb_iff.1 t.tails, eqb_iff.1 t.heads)) in
      let (x, y) = (and_iff {a = eqb (tail n (place o n s)) (tail o s)}).0 h in
      (b, subst (λ r. Twin n o r s) (f.single r (place o n s) lr b (t.tails ∙ sym (eqb_iff.0 x)) (t.heads ∙ sym (eqb_iff.0 y))) t)

-- the same of triangles
abbrev to : Office → Office → ℕ → ℕ
to o n t = place o n (t * 3) / 3

module _ {o n : Office} (f : Covers n o) (g : Covers o n) (t : ℕ) (l : t < triangles o) where
  start : t * 3 < sides o
  start = let w = g.whole in omega arith

  to_below : to o n t < triangles n
  to_below = triangle_below (sides n) _ f.whole (placed f (t * 3) start).0

  from_to : to n o (to o n t) ≡ t
  from_to = step (same_triangle x r (omega arith))
    where
      r : ℕ
      r = place o n (t * 3)

      x : ℕ
      x = r / 3 * 3

      back : (place n o x < sides o) × Twin o n (place n o x) x
      back = placed g x (let b = (placed f (t * 3) start).0 in let w = f.whole in omega arith)

      -- a side of o that runs as side r of n is the first of triangle t
      same : (s : ℕ) → s < sides o → Twin o n s r → s ≡ t * 3
      same s b w = let h = (placed f (t * 3) start).1 in g.single s (t * 3) b start (w.tails ∙ h.tails) (w.heads ∙ h.heads)

      step : OneOf x r → to n o (to o n t) ≡ t
      step (inl e) = let i = same (place n o x) back.0 (subst (Twin o n (place n o x)) (sym e) back.1) in omega arith
      step (inr (inl e)) = let i = same (next (place n o x)) (let w = g.whole in let b = back.0 in omega arith) (subst (Twin o n (next (place n o x))) (sym e) (twin_next back.1)) in omega arith
      step (inr (inr e)) = let i = same (last (place n o x)) (let w = g.whole in let b = back.0 in omega arith) (subst (Twin o n (last (place n o x))) (sym e) (twin_last back.1)) in omega arith

module _ {xs ys c d : List ℕ} (f : Covers (office xs ys d) (office xs ys c)) (g : Covers (office xs ys c) (office xs ys d)) where
  abbrev o : Office
  o = office xs ys c

  abbrev n : Office
  n = office xs ys d

  as_many_triangles : triangles n ≡ triangles o
  as_many_triangles = as_many (to n o) (to o n) (to_below g f) (to_below f g) (from_to g f) (from_to f g)

  triangle : Bijection (triangles o) (triangles n)
  triangle = extended (record {
    to = to o n;
    from = to n o;
    to_below = λ t l. rw (sym as_many_triangles) (to_below f g t l);
    from_below = λ t l. to_below g f t (rw as_many_triangles l);
    from_to = from_to f g;
    to_from = λ t l. from_to g f t (rw as_many_triangles l);
  }) as_many_triangles

  triangle_to : (t : ℕ) → t < triangles o → triangle.to t ≡ to o n t
  unfolding triangle
  triangle_to t l = extended_to _ as_many_triangles t l

  corner_at : (t i : ℕ) → t < triangles o → i < 3 → tail n (to o n t * 3 + (i + place o n (t * 3) % 3) % 3) ≡ tail o (t * 3 + i)
  corner_at t zero l b = ap (tail n) (omega arith) ∙ (placed f (t * 3) (start f g t l)).1.tails ∙ ap (tail o) (omega arith)
  corner_at t (suc zero) l b = ap (tail n) (omega arith) ∙ (placed f (t * 3) (start f g t l)).1.heads ∙ ap (tail o) (omega arith)
  corner_at t (suc (suc zero)) l b = ap (tail n) (omega arith) ∙ (placed f (t * 3) (start f g t l)).1.apexes ∙ ap (tail o) (omega arith)
  corner_at t (suc (suc (suc i))) l b = absurd (omega arith)

  pub reordered : Renumbered o n
  reordered = record {
    number = record { to = λ p. p; from = λ p. p; from_to = λ p. refl; to_from = λ p. refl; to_below = λ p l. l; from_below = λ p l. l };
    triangle = triangle;
    turned = λ t. place o n (t * 3) % 3;
    as_many_ys = refl;
    as_many_corners = let w = f.whole in let z = g.whole in let e = as_many_triangles in omega arith;
    same_x = λ p l. refl;
    same_y = λ p l. refl;
    corner = λ t i l b. ap (λ u. tail n (u * 3 + (i + place o n (t * 3) % 3) % 3)) (triangle_to t l) ∙ corner_at t i l b;
  }

  pub keeps_numbers : (p : ℕ) → reordered.number.to p ≡ p
  unfolding reordered
  keeps_numbers p = refl
