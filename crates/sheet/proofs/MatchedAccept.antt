-- A matched office is acceptable exactly where the first is, with as many rim sides. Assumes nothing.
use mathlib.Core.Path.{◌≡◌, sym, ap, subst, ◌∙◌}
use mathlib.Core.Logic.{◌↔◌}
use Prim.Native.Nat.{ℕ, ◌/◌, ◌%◌, ◌<◌, ◌≤◌}
use lib.IntN.{pos}
use lib.Signed.{◌<ℤ◌}
use lib.ListN.{get_or}
use Rattle.laws.proofs.Test.{same_answer}
use Rattle.laws.proofs.Bijection.{inverse, to_single, count_along, renamed_round}
use Rattle.sheet.specs.Plane.{turn, circle}
use Rattle.sheet.specs.Office.{Office, points, sides, point, tail, rim, rims}
use Rattle.sheet.specs.Acceptable.{Acceptable, Reverse, Rim, Along}
use Rattle.sheet.proofs.Side.{triangle_below}
use Rattle.sheet.proofs.Rotate.{Of, turn_rotates, circle_rotates}
use Rattle.sheet.proofs.Rim.{rim_iff}
use Rattle.sheet.proofs.Matched.{Matched, turned_back, named, moved, same_points, same_sides, whole_moved, point_named, head_moved, reverse_moved, tail_point, head_point, of_moved, each_point, each_side, each_triangle}

module _ {o n : Office} (re : Matched o n) (whole : sides o % 3 ≡ 0) where
  pub rim_moved : (s : ℕ) → s < sides o → Rim o s → Rim n (moved re s)
  rim_moved s l h = each_side re (λ r. Reverse n (moved re s) r → ⊥) (λ r b v. h r b ((reverse_moved re whole s r l b).1 v))

  along_moved : (p q : ℕ) → Along o p q → Along n (named re p) (named re q)
  along_moved p q (s, l, h, x, y) = (moved re s, re.places.to_below s l, rim_moved s l h, re.corner s l ∙ ap (named re) x, head_moved re whole s l ∙ ap (named re) y)

module _ {o n : Office} (re : Matched o n) (a : Acceptable o) where
  back : Matched n o
  back = turned_back re

  whole : sides o % 3 ≡ 0
  whole = a.corners_bound.1

  whole_new : sides n % 3 ≡ 0
  whole_new = whole_moved re whole

  numbered : (s : ℕ) → s < sides n → tail n s < points n
  numbered = each_side re (λ s. tail n s < points n) (λ s l. subst (λ p. p < points n) (sym (re.corner s l)) (re.numbers.to_below _ (a.numbered s l)))

  pub accept : Acceptable n
  unfolding back
  accept = record {
    paired = same_points re ∙ a.paired ∙ sym re.paired;
    points_bound = rw (same_points re) a.points_bound;
    corners_bound = rw (same_sides re) a.corners_bound;
    small = each_point re (λ p. (get_or n.xs p 0 ≤ 16383) × (get_or n.ys p 0 ≤ 16383)) (λ p l. rw (re.same_x p l, re.same_y p l) (a.small p l));
    distinct = λ p q l b x y. to_single (inverse re.numbers) p q (a.distinct _ _ (re.numbers.from_below p l) (re.numbers.from_below q b)
        (back.same_x p l ∙ x ∙ sym (back.same_x q b)) (back.same_y p l ∙ y ∙ sym (back.same_y q b)));
    numbered = numbered;
    left = each_triangle re (λ t. pos 0 <ℤ Of turn n t) (λ s l. subst (λ z. pos 0 <ℤ z) (sym (of_moved re whole a.numbered turn turn_rotates s l)) (a.left (s / 3) (triangle_below (sides o) s whole l)));
    single = λ s r l b x y. to_single (inverse re.places) s r (a.single _ _ (re.places.from_below s l) (re.places.from_below r b)
        (back.corner s l ∙ ap re.numbers.from x ∙ sym (back.corner r b))
        (head_moved back whole_new s l ∙ ap re.numbers.from y ∙ sym (head_moved back whole_new r b)));
    used = each_point re (λ p. (s : ℕ) × (s < sides n) × (tail n s ≡ p)) (λ p l. let (s, b, e) = a.used p l in (moved re s, re.places.to_below s b, re.corner s b ∙ ap (named re) e));
    empty = λ t p l b. each_triangle re (λ t. pos 0 <ℤ Of (λ x y z. circle x y z (point n p)) n t → ⊥) (λ s m.
        each_point re (λ p. pos 0 <ℤ Of (λ x y z. circle x y z (point n p)) n (moved re s / 3) → ⊥) (λ q c h. a.empty (s / 3) q (triangle_below (sides o) s whole m) c
        (subst (λ z. pos 0 <ℤ z) (of_moved re whole a.numbered (λ x y z. circle x y z (point o q)) (circle_rotates (point o q)) s m)
        (subst (λ w. pos 0 <ℤ Of (λ x y z. circle x y z w) n (moved re s / 3)) (point_named re q c) h))) p b) t l;
    ring = (a.ring.0, renamed_round re.numbers (along_moved re whole) (along_moved back whole_new) a.ring.1);
    hull = λ s p l h b w. a.hull _ _ (re.places.from_below s l) (rim_moved back whole_new s l h) (re.numbers.from_below p b)
        (rw (tail_point back whole_new numbered s l, head_point back whole_new numbered s l, point_named back p b) w);
  }

pub acceptable_iff : {o n : Office} → Matched o n → Acceptable o ↔ Acceptable n
acceptable_iff re = (accept re, accept (turned_back re))

pub rims_same : {o n : Office} (re : Matched o n) → Acceptable o → rims n ≡ rims o
rims_same {o} {n} re a =
    count_along (moved re) re.places.from re.places.to_below re.places.from_below (λ s _. re.places.from_to s) (λ s _. re.places.to_from s) (rim o) (rim n)
    (λ s l. same_answer
    (λ e. (rim_iff o s).1 (subst (Rim o) (re.places.from_to s) (rim_moved (turned_back re) (whole_new re a) (moved re s) (re.places.to_below s l) ((rim_iff n (moved re s)).0 e))))
    (λ e. (rim_iff n (moved re s)).1 (rim_moved re (whole re a) s l ((rim_iff o s).0 e))))
