-- Marks of a matched office that keep the same triangles: rim, removable sides and the side to peel next are the same. Assumes nothing.
use mathlib.Core.Path.{◌≡◌, refl, sym, ap, transport, subst, ◌∙◌}
use mathlib.Core.Logic.{◌↔◌, inl, inr}
use mathlib.Core.Bool.{Bool, true, false, cond}
use mathlib.Core.List.{List, [], ◌∷◌}
use mathlib.Core.Option.{Option, none, some, map}
use Prim.Native.Nat.{ℕ, zero, suc, ◌/◌, ◌%◌, ◌<◌}
use native.Mathlib.Decide.{ℕ_discrete}
use native.Mathlib.Omega.{arith}
use lib.IntN.{nat_abs}
use lib.ListN.{get_or, set, get_or-replicate}
use lib.Seq.{get_or-set_other}
use Rattle.laws.proofs.Test.{same_answer}
use Rattle.laws.proofs.Bijection.{to_single}
use Rattle.sheet.specs.Plane.{squared}
use Rattle.sheet.specs.Office.{Office, sides, triangles, point, tail, head, apex}
use Rattle.sheet.proofs.Matched.{Matched, turned_back, named, moved, head_moved, apex_moved, together, reverse_moved, tail_point, head_point, each_side}
use Rattle.sheet.specs.Acceptable.{Acceptable, Reverse}
use Rattle.sheet.proofs.MatchedAccept.{accept}
use Rattle.rim.specs.Peel.{on_rim, removable, sooner, long, first_end, second_end, best, peel, whole}
use Rattle.rim.proofs.Marks.{Kept, Ends, Rim, OnRim, on_rim_iff, removable_iff}
use Rattle.rim.proofs.TopSide.{Precedes, Before, Top, best_top, best_iff}

-- marks j of the renumbered office keep the triangles that marks k keep
pub record Carried {o n : Office} (re : Matched o n) (k j : List ℕ) : Type 0 where
  pub mark : (s : ℕ) → s < sides o → get_or j (moved re s / 3) 0 ≡ get_or k (s / 3) 0

set-zero : (l : List ℕ) (i : ℕ) → get_or (set l i 0) i 0 ≡ 0
set-zero [] i = refl
set-zero (x ∷ l) zero = refl
set-zero (x ∷ l) (suc i) = set-zero l i

module _ {o n : Office} (re : Matched o n) (a : Acceptable o) where
  thirds : sides o % 3 ≡ 0
  thirds = a.corners_bound.1

  pub whole_carried : Carried re (whole o) (whole n)
  whole_carried = record {
    mark = λ s l.
        let h = re.places.to_below s l in
        let w = (accept re a).corners_bound.1 in
        let v = thirds in
        get_or-replicate (triangles n) (moved re s / 3) 1 0 (omega arith) ∙ sym (get_or-replicate (triangles o) (s / 3) 1 0 (omega arith));
  }

  pub long_moved : (s : ℕ) → s < sides o → long n (moved re s) ≡ long o s
  long_moved s l = λ i. nat_abs (squared (tail_point re thirds a.numbered s l i) (head_point re thirds a.numbered s l i))

  before_moved : (s r : ℕ) → s < sides o → r < sides o → Before o s r → Before n (moved re s) (moved re r)
  before_moved s r l b = transport (λ i. Precedes (long_same s l i) (first_same s l i) (second_same s l i) (long_same r b i) (first_same r b i) (second_same r b i))
    where
      from : (s : ℕ) → s < sides o → point o (tail o s) ≡ point n (tail n (moved re s))
      from s l = sym (tail_point re thirds a.numbered s l)

      to : (s : ℕ) → s < sides o → point o (head o s) ≡ point n (head n (moved re s))
      to s l = sym (head_point re thirds a.numbered s l)

      long_same : (s : ℕ) → s < sides o → long o s ≡ long n (moved re s)
      long_same s l = sym (long_moved s l)

      -- the ends come in the same order
      end_same : (s : ℕ) → s < sides o → (p q p' q' : ℕ) → point o p ≡ point n p' → point o q ≡ point n q'
          → point o (cond (sooner (point o (head o s)) (point o (tail o s))) p q) ≡ point n (cond (sooner (point n (head n (moved re s))) (point n (tail n (moved re s)))) p' q')
      end_same s l p q p' q' x y =
          subst (λ u. point o (cond (sooner (point o (head o s)) (point o (tail o s))) p q) ≡ point n (cond u p' q')) (λ i. sooner (to s l i) (from s l i)) (either (sooner (point o (head o s)) (point o (tail o s))))
        where
          either : (u : Bool) → point o (cond u p q) ≡ point n (cond u p' q')
          either true = x
          either false = y

      first_same : (s : ℕ) → s < sides o → point o (first_end o s) ≡ point n (first_end n (moved re s))
      first_same s l = end_same s l (head o s) (tail o s) (head n (moved re s)) (tail n (moved re s)) (to s l) (from s l)

      second_same : (s : ℕ) → s < sides o → point o (second_end o s) ≡ point n (second_end n (moved re s))
      second_same s l = end_same s l (tail o s) (head o s) (tail n (moved re s)) (head n (moved re s)) (from s l) (to s l)

  module _ {k j : List ℕ} (c : Carried re k j) where
    pub rim_moved : (s : ℕ) → s < sides o → Rim o k s ↔ Rim n j (moved re s)
    rim_moved s l = (
      (λ h. (c.mark s l ∙ h.0, each_side re (λ r. Kept j r → Reverse n (moved re s) r → ⊥) (λ r b v w. h.1 r b (sym (c.mark r b) ∙ v) ((reverse_moved re thirds s r l b).1 w)))),
      (λ h. (sym (c.mark s l) ∙ h.0, λ r b v w. h.1 (moved re r) (re.places.to_below r b) (c.mark r b ∙ v) ((reverse_moved re thirds s r l b).0 w))),
    )

    ends_moved : (s p : ℕ) → s < sides o → Ends o s p ↔ Ends n (moved re s) (named re p)
    ends_moved s p l = (to, from)
      where
        to : Ends o s p → Ends n (moved re s) (named re p)
        to (inl e) = inl (re.corner s l ∙ ap (named re) e)
        to (inr e) = inr (head_moved re thirds s l ∙ ap (named re) e)

        from : Ends n (moved re s) (named re p) → Ends o s p
        from (inl e) = inl (to_single re.numbers _ _ (sym (re.corner s l) ∙ e))
        from (inr e) = inr (to_single re.numbers _ _ (sym (head_moved re thirds s l) ∙ e))

    on_rim_moved : (p : ℕ) → OnRim o k p ↔ OnRim n j (named re p)
    on_rim_moved p = (
      (λ (s, l, e, h). (moved re s, re.places.to_below s l, (ends_moved s p l).0 e, (rim_moved s l).0 h)),
      (λ (s, l, e, h). each_side re (λ s. Ends n s (named re p) → Rim n j s → OnRim o k p) (λ s l e h. (s, l, (ends_moved s p l).1 e, (rim_moved s l).1 h)) s l e h),
    )

    pub on_rim_same : (p : ℕ) → on_rim n j (named re p) ≡ on_rim o k p
    on_rim_same p = same_answer
        (λ e. (on_rim_iff o k p).1 ((on_rim_moved p).1 ((on_rim_iff n j (named re p)).0 e)))
        (λ e. (on_rim_iff n j (named re p)).1 ((on_rim_moved p).0 ((on_rim_iff o k p).0 e)))

    pub removable_moved : (s : ℕ) → s < sides o → (removable o k s ≡ true) ↔ (removable n j (moved re s) ≡ true)
    removable_moved s l = (
      (λ e. let (h, f) = (removable_iff o k s).0 e in (removable_iff n j (moved re s)).1 ((rim_moved s l).0 h, λ r. f ((on_rim_moved (apex o s)).1 (subst (OnRim n j) (apex_moved re thirds s l) r)))),
      (λ e. let (h, f) = (removable_iff n j (moved re s)).0 e in (removable_iff o k s).1 ((rim_moved s l).1 h, λ r. f (subst (OnRim n j) (sym (apex_moved re thirds s l)) ((on_rim_moved (apex o s)).0 r)))),
    )

    -- the side to peel next
    pub best_moved : best n j ≡ map (moved re) (best o k)
    best_moved = (best_iff (accept re a) j (map (moved re) (best o k))).1 (top (best o k) (best_top a k))
      where
        top : (b : Option ℕ) → Top a k (sides o) b → Top (accept re a) j (sides n) (map (moved re) b)
        top none t = each_side re (λ q. removable n j q ≡ true → ⊥) (λ q l e. t q l ((removable_moved q l).1 e))
        top (some r) (l, e, t) = (
          re.places.to_below r l,
          (removable_moved r l).0 e,
          each_side re (λ q. removable n j q ≡ true → (q ≡ moved re r → ⊥) → Before n (moved re r) q) (λ q m u f. before_moved r q l m (t q m ((removable_moved q m).1 u) (λ z. f (ap (moved re) z)))),
        )

    -- and the marks after it is peeled
    pub peel_carried : (s : ℕ) → s < sides o → Carried re (peel k s) (peel j (moved re s))
    peel_carried s l = record {
      mark = λ r b. elim (ℕ_discrete (r / 3) (s / 3)) [
        | yes e ↦ gone j (moved re r / 3) (moved re s / 3) (together re thirds s r l e) ∙ sym (gone k (r / 3) (s / 3) e)
        | no f ↦ get_or-set_other j (moved re s / 3) (moved re r / 3) 0 0 (λ e. f (apart r e)) ∙ c.mark r b ∙ sym (get_or-set_other k (s / 3) (r / 3) 0 0 f)
      ];
    }
      where
        gone : (k : List ℕ) (t u : ℕ) → t ≡ u → get_or (set k u 0) t 0 ≡ 0
        gone k t u e = ap (λ i. get_or (set k u 0) i 0) e ∙ set-zero k u

        apart : (r : ℕ) → moved re r / 3 ≡ moved re s / 3 → r / 3 ≡ s / 3
        apart r e =
            ap (λ i. i / 3) (sym (re.places.from_to r))
            ∙ together (turned_back re) (accept re a).corners_bound.1 (moved re s) (moved re r) (re.places.to_below s l) e
            ∙ ap (λ i. i / 3) (re.places.from_to s)
