-- A renumbered office side by side with the first: by points, and by places in the corner lists. Assumes nothing.
use mathlib.Core.Path.{◌≡◌, sym, ap, subst, ◌∙◌}
use mathlib.Core.Logic.{◌↔◌, inl, inr}
use Prim.Native.Nat.{ℕ, ◌*◌, ◌/◌, ◌%◌, ◌<◌}
use native.Mathlib.Omega.{arith}
use lib.ListN.{length, get_or}
use Rattle.laws.specs.Bijection.{Bijection}
use Rattle.laws.proofs.Bijection.{inverse, to_single, same_size}
use Rattle.sheet.specs.Plane.{Point}
use Rattle.sheet.specs.Office.{Office, points, sides, triangles, point, tail, head, apex, next, last}
use Rattle.sheet.specs.Acceptable.{Reverse}
use Rattle.sheet.proofs.Side.{own_triangle, next_next, next_below, last_below, next_triangle, last_triangle, OneOf, same_triangle}
use Rattle.sheet.proofs.Rotate.{Rotates, Of, From, from_any}

-- a bijection of point numbers keeps the coordinates, and a bijection of places in the corner lists keeps the corners and the way round each
-- triangle
pub record Matched (o n : Office) : Type 0 where
  pub numbers : Bijection (points o) (points n)
  pub places : Bijection (sides o) (sides n)
  pub paired : length n.ys ≡ length o.ys
  pub same_x : (p : ℕ) → p < points o → get_or n.xs (numbers.to p) 0 ≡ get_or o.xs p 0
  pub same_y : (p : ℕ) → p < points o → get_or n.ys (numbers.to p) 0 ≡ get_or o.ys p 0
  pub corner : (s : ℕ) → s < sides o → tail n (places.to s) ≡ numbers.to (tail o s)
  pub onward : (s : ℕ) → s < sides o → next (places.to s) ≡ places.to (next s)

-- the first office is the second renumbered back
abbrev pub turned_back : {o n : Office} → Matched o n → Matched n o
turned_back {o} {n} re = record {
  numbers = inverse re.numbers;
  places = inverse re.places;
  paired = sym re.paired;
  same_x = λ p l. sym (re.same_x _ (re.numbers.from_below p l)) ∙ ap (λ q. get_or n.xs q 0) (re.numbers.to_from p);
  same_y = λ p l. sym (re.same_y _ (re.numbers.from_below p l)) ∙ ap (λ q. get_or n.ys q 0) (re.numbers.to_from p);
  corner = λ s l.
      sym (re.numbers.from_to _)
      ∙ ap re.numbers.from (sym (re.corner _ (re.places.from_below s l)) ∙ ap (tail n) (re.places.to_from s));
  onward = λ s l.
      sym (re.places.from_to _)
      ∙ ap re.places.from (sym (re.onward _ (re.places.from_below s l)) ∙ ap next (re.places.to_from s));
}

module _ {o n : Office} (re : Matched o n) where
  -- the new number of a point, and the new place of a side
  abbrev pub named : ℕ → ℕ
  named = re.numbers.to

  abbrev pub moved : ℕ → ℕ
  moved = re.places.to

  -- the new number of a triangle
  abbrev pub moved_triangle : ℕ → ℕ
  moved_triangle t = moved (t * 3) / 3

  pub same_points : points n ≡ points o
  same_points = sym (same_size re.numbers)

  pub same_sides : sides n ≡ sides o
  same_sides = sym (same_size re.places)

  pub point_named : (p : ℕ) → p < points o → point n (named p) ≡ point o p
  point_named p l = λ i. record { x = re.same_x p l i; y = re.same_y p l i }

  module _ (whole : sides o % 3 ≡ 0) where
    pub head_moved : (s : ℕ) → s < sides o → head n (moved s) ≡ named (head o s)
    head_moved s l = ap (tail n) (re.onward s l) ∙ re.corner (next s) (next_below (sides o) s whole l)

    pub last_moved : (s : ℕ) → s < sides o → last (moved s) ≡ moved (last s)
    last_moved s l =
        sym (next_next (moved s))
        ∙ ap next (re.onward s l)
        ∙ re.onward (next s) (next_below (sides o) s whole l)
        ∙ ap moved (next_next s)

    pub apex_moved : (s : ℕ) → s < sides o → apex n (moved s) ≡ named (apex o s)
    apex_moved s l = ap (tail n) (last_moved s l) ∙ re.corner (last s) (last_below (sides o) s whole l)

    -- sides of one triangle stay so
    pub together : (s r : ℕ) → s < sides o → r / 3 ≡ s / 3 → moved r / 3 ≡ moved s / 3
    together s r l e = step (same_triangle s r e)
      where
        step : OneOf s r → moved r / 3 ≡ moved s / 3
        step (inl h) = ap (λ i. moved i / 3) h
        step (inr (inl h)) = ap (λ i. moved i / 3) h ∙ ap (λ i. i / 3) (sym (re.onward s l)) ∙ next_triangle (moved s)
        step (inr (inr h)) = ap (λ i. moved i / 3) h ∙ ap (λ i. i / 3) (sym (last_moved s l)) ∙ last_triangle (moved s)

    -- the new triangles and the old ones are matched
    pub whole_moved : sides n % 3 ≡ 0
    whole_moved = rw same_sides whole

    pub moved_below : (t : ℕ) → t < triangles o → moved_triangle t < triangles n
    moved_below t l = let h = re.places.to_below (t * 3) (omega arith) in let w = whole_moved in omega arith

    pub reverse_moved : (s r : ℕ) → s < sides o → r < sides o → Reverse o s r ↔ Reverse n (moved s) (moved r)
    reverse_moved s r l b = (
      (λ v. (re.corner r b ∙ ap named v.0 ∙ sym (head_moved s l), head_moved r b ∙ ap named v.1 ∙ sym (re.corner s l))),
      (λ v. (
        to_single re.numbers _ _ (sym (re.corner r b) ∙ v.0 ∙ head_moved s l),
        to_single re.numbers _ _ (sym (head_moved r b) ∙ v.1 ∙ re.corner s l),
      )),
    )

    module _ (numbered : (s : ℕ) → s < sides o → tail o s < points o) where
      -- the ends of a side are where they were
      pub tail_point : (s : ℕ) → s < sides o → point n (tail n (moved s)) ≡ point o (tail o s)
      tail_point s l = ap (point n) (re.corner s l) ∙ point_named (tail o s) (numbered s l)

      pub head_point : (s : ℕ) → s < sides o → point n (head n (moved s)) ≡ point o (head o s)
      head_point s l = ap (point n) (head_moved s l) ∙ point_named (head o s) (numbered (next s) (next_below (sides o) s whole l))

      apex_point : (s : ℕ) → s < sides o → point n (apex n (moved s)) ≡ point o (apex o s)
      apex_point s l = ap (point n) (apex_moved s l) ∙ point_named (apex o s) (numbered (last s) (last_below (sides o) s whole l))

      -- what goes by the points of a triangle, in their order round it, is the same
      pub of_moved : {A : Type 0} (F : Point → Point → Point → A) → Rotates F → (s : ℕ) → s < sides o → Of F n (moved s / 3) ≡ Of F o (s / 3)
      of_moved F rotates s l = sym (from_any F rotates n (moved s)) ∙ three ∙ from_any F rotates o s
        where
          three : From F n (moved s) ≡ From F o s
          three = rw (tail_point s l, head_point s l, apex_point s l)

  -- each new number, place and triangle comes from an old one
  pub each_point : (P : ℕ → Type 0) → ((p : ℕ) → p < points o → P (named p)) → (p : ℕ) → p < points n → P p
  each_point P f p l = subst P (re.numbers.to_from p) (f _ (re.numbers.from_below p l))

  pub each_side : (P : ℕ → Type 0) → ((s : ℕ) → s < sides o → P (moved s)) → (s : ℕ) → s < sides n → P s
  each_side P f s l = subst P (re.places.to_from s) (f _ (re.places.from_below s l))

  pub each_triangle : (P : ℕ → Type 0) → ((s : ℕ) → s < sides o → P (moved s / 3)) → (t : ℕ) → t < triangles n → P t
  each_triangle P f t l = subst P (omega arith) (each_side (λ s. P (s / 3)) f (t * 3) (omega arith))

-- the number of a triangle, renumbered and renumbered back
pub triangle_back : {o n : Office} (re : Matched o n) → sides o % 3 ≡ 0 → (t : ℕ) → t < triangles o → moved_triangle (turned_back re) (moved_triangle re t) ≡ t
triangle_back re whole t l =
    together (turned_back re) (whole_moved re whole) (moved re (t * 3)) (moved_triangle re t * 3) (re.places.to_below (t * 3) (omega arith)) (omega arith)
    ∙ ap (λ s. s / 3) (re.places.from_to (t * 3))
    ∙ own_triangle t
