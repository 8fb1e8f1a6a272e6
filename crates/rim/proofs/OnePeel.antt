-- What one peel of a removable side changes: its triangle is kept no more, it leaves the rim, and two sides laid bare join it. Assumes nothing.
use mathlib.Core.Path.{◌≡◌, refl, sym, ap, subst, ◌∙◌}
use mathlib.Core.Logic.{◌↔◌, ◌⊎◌, inl, inr}
use mathlib.Core.Bool.{Bool, true, false}
use mathlib.Core.List.{List}
use Prim.Native.Nat.{ℕ, ◌/◌, ◌%◌, ◌<◌}
use native.Mathlib.Decide.{ℕ_discrete}
use native.Mathlib.Omega.{arith}
use lib.ListN.{length, get_or}
use lib.Seq.{get_or-set_same, get_or-set_other}
use Rattle.laws.proofs.Test.{false_iff}
use Rattle.sheet.specs.Office.{Office, sides, triangles, tail, head, apex, next, last}
use Rattle.sheet.proofs.Side.{next_below, last_below, next_triangle, last_triangle, OneOf, same_triangle, head_next, head_last}
use Rattle.sheet.proofs.Corner.{reverse_elsewhere}
use Rattle.sheet.specs.Acceptable.{Reverse, Acceptable}
use Rattle.rim.specs.Peel.{rim, removable, peel}
use Rattle.rim.proofs.Marks.{Kept, Rim, Way, OnRim, rim_iff, removable_iff, inner}

-- a mark for each triangle, and a removable side
pub record Peelable (o : Office) (k : List ℕ) (s : ℕ) : Type 0 where
  pub size : length k ≡ triangles o
  pub below : s < sides o
  pub may : removable o k s ≡ true

module _ {o : Office} {k : List ℕ} {s : ℕ} (a : Acceptable o) (can : Peelable o k s) where
  pub triangle_below : s / 3 < triangles o
  triangle_below = let l = can.below in let w = a.corners_bound.1 in omega arith

  pub gone : get_or (peel k s) (s / 3) 0 ≡ 0
  gone = get_or-set_same k (s / 3) 0 0 (omega (arith, can.size, triangle_below))

  -- what is kept afterwards stands in another triangle
  pub kept_iff : (r : ℕ) → Kept (peel k s) r ↔ (Kept k r × (r / 3 ≡ s / 3 → ⊥))
  kept_iff r = (
    (λ e. let f = other e in (sym (get_or-set_other k (s / 3) (r / 3) 0 0 f) ∙ e, f)),
    (λ h. get_or-set_other k (s / 3) (r / 3) 0 0 h.1 ∙ h.0),
  )
    where
      other : Kept (peel k s) r → r / 3 ≡ s / 3 → ⊥
      other e f = let z : get_or (peel k s) (r / 3) 0 ≡ 0 = rw f gone in omega (arith, e)

  pub on : Rim o k s
  on = ((removable_iff o k s).0 can.may).0

  pub off : OnRim o k (apex o s) → ⊥
  off = ((removable_iff o k s).0 can.may).1

  whole : sides o % 3 ≡ 0
  whole = a.corners_bound.1

  next_here : next s < sides o
  next_here = next_below (sides o) s whole can.below

  last_here : last s < sides o
  last_here = last_below (sides o) s whole can.below

  -- the two other sides have kept reverses
  next_inner : Rim o k (next s) → ⊥
  next_inner h = off (next s, next_here, inr (head_next o s), h)

  last_inner : Rim o k (last s) → ⊥
  last_inner h = off (last s, last_here, inl refl, h)

  same_kept : (r : ℕ) → r / 3 ≡ s / 3 → Kept k r
  same_kept r e = ap (λ t. get_or k t 0) e ∙ on.0

  -- the side laid bare by a side r of the triangle: its reverse, which stays
  pub record Bared (r b : ℕ) : Type 0 where
    pub below : b < sides o
    pub kept : Kept (peel k s) b
    pub back : Reverse o r b

  bared : (r : ℕ) → r < sides o → r / 3 ≡ s / 3 → (Rim o k r → ⊥) → (b : ℕ) × Bared r b
  bared r l e f =
      let (b, h, c, v) = inner o k r (same_kept r e) f in
      (b, record { below = h; kept = (kept_iff b).1 (c, λ z. reverse_elsewhere o whole a.left r b l v.0 v.1 (z ∙ sym e)); back = v })

  pub outward : (b : ℕ) × Bared (next s) b
  outward = bared (next s) next_here (next_triangle s) next_inner

  pub inward : (b : ℕ) × Bared (last s) b
  inward = bared (last s) last_here (last_triangle s) last_inner

  -- a side laid bare is on the rim
  bared_rim : {r b : ℕ} → r < sides o → r / 3 ≡ s / 3 → Bared r b → Rim o (peel k s) b
  bared_rim {r} {b} l e h = (
    h.kept,
    λ q m c v.
        let z : q ≡ r = a.single q r m l (v.0 ∙ h.back.1) (v.1 ∙ h.back.0) in
        ((kept_iff q).0 c).1 (ap (λ t. t / 3) z ∙ e),
  )

  is_bared : {r b : ℕ} (q : ℕ) → q < sides o → Bared r b → Reverse o r q → q ≡ b
  is_bared q l h v = a.single q _ l h.below (v.0 ∙ sym h.back.0) (v.1 ∙ sym h.back.1)

  -- side r was on the rim, and is not the one peeled; or it is one of the two laid bare
  abbrev pub OldOrBared : ℕ → Type 0
  OldOrBared r = ((rim o k r ≡ true) × (r ≡ s → ⊥)) ⊎ ((r ≡ outward.0) ⊎ (r ≡ inward.0))

  -- the rim afterwards
  pub rim_after : (r : ℕ) → r < sides o → (rim o (peel k s) r ≡ true) ↔ OldOrBared r
  rim_after r l = ((λ e. away ((rim_iff o (peel k s) r).0 e) (rim o k r) refl), back)
    where
      away : Rim o (peel k s) r → (b : Bool) → rim o k r ≡ b → OldOrBared r
      away h true e = inl (e, λ z. ((kept_iff r).0 h.0).1 (ap (λ t. t / 3) z))
      away h false e =
          let (q, m, c, v) = inner o k r ((kept_iff r).0 h.0).0 (λ x. false_iff.0 e ((rim_iff o k r).1 x)) in
          elim (ℕ_discrete (q / 3) (s / 3)) [
            | no f ↦ absurd (h.1 q m ((kept_iff q).1 (c, f)) v)
            | yes f ↦ new q v (same_triangle s q f)
          ]
        where
          turned : (x : ℕ) → Reverse o r x → Reverse o x r
          turned x v = (sym v.1, sym v.0)

          new : (q : ℕ) → Reverse o r q → OneOf s q → OldOrBared r
          new q v (inl z) = absurd (on.1 r l ((kept_iff r).0 h.0).0 (turned s (subst (Reverse o r) z v)))
          new q v (inr (inl z)) = inr (inl (is_bared r l outward.1 (turned (next s) (subst (Reverse o r) z v))))
          new q v (inr (inr z)) = inr (inr (is_bared r l inward.1 (turned (last s) (subst (Reverse o r) z v))))

      back : OldOrBared r → rim o (peel k s) r ≡ true
      back (inl (e, f)) =
          let h = (rim_iff o k r).0 e in
          (rim_iff o (peel k s) r).1 ((kept_iff r).1 (h.0, λ z. elsewhere h (same_triangle s r z)), λ q m c. h.1 q m ((kept_iff q).0 c).0)
        where
          elsewhere : Rim o k r → OneOf s r → ⊥
          elsewhere h (inl z) = f z
          elsewhere h (inr (inl z)) = next_inner (subst (Rim o k) z h)
          elsewhere h (inr (inr z)) = last_inner (subst (Rim o k) z h)
      back (inr (inl z)) = (rim_iff o (peel k s) r).1 (subst (Rim o (peel k s)) (sym z) (bared_rim next_here (next_triangle s) outward.1))
      back (inr (inr z)) = (rim_iff o (peel k s) r).1 (subst (Rim o (peel k s)) (sym z) (bared_rim last_here (last_triangle s) inward.1))

  -- the two new sides run from the tail to the bared corner, and from there to the head
  pub inward_ends : (tail o inward.0 ≡ tail o s) × (head o inward.0 ≡ apex o s)
  inward_ends = (inward.1.back.0 ∙ head_last o s, inward.1.back.1)

  pub outward_ends : (tail o outward.0 ≡ apex o s) × (head o outward.0 ≡ head o s)
  outward_ends = (outward.1.back.0 ∙ head_next o s, outward.1.back.1)

  pub inward_way : Way o (peel k s) (tail o s) (apex o s)
  inward_way = (inward.0, inward.1.below, (rim_after inward.0 inward.1.below).1 (inr (inr refl)), inward_ends.0, inward_ends.1)

  pub outward_way : Way o (peel k s) (apex o s) (head o s)
  outward_way = (outward.0, outward.1.below, (rim_after outward.0 outward.1.below).1 (inr (inl refl)), outward_ends.0, outward_ends.1)
