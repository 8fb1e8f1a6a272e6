-- Two acceptable triangulations of the same points, the first unambiguous: each triangle of the second is one of the first. Assumes nothing.
use mathlib.Core.Path.{◌≡◌, sym, ap, ap₂, subst, ◌∙◌}
use mathlib.Core.Logic.{◌⊎◌, inl, inr}
use mathlib.Core.List.{List}
use Prim.Native.Nat.{ℕ, ◌<◌}
use lib.IntN.{pos}
use Rattle.sheet.specs.Plane.{Point, turn, circle}
use Rattle.sheet.specs.Office.{Office, office, points, sides, point, tail, head, apex}
use Rattle.sheet.specs.Acceptable.{Acceptable}
use Rattle.sheet.specs.Unambiguous.{Unambiguous}
use Rattle.sheet.proofs.Sign.{Pos, Non, opp, weak, pos_is, never, both, not_more}
use Rattle.sheet.proofs.Cross.{turn_swap, turn_zero, turn_self, turn_back}
use Rattle.sheet.proofs.Ray.{Enters}
use Rattle.sheet.proofs.Aim.{level_u, level_w}
use Rattle.sheet.proofs.Tiling.{Tiling, head_in, apex_in, left_turn}
use Rattle.sheet.proofs.Tiled.{tiling}
use Rattle.sheet.proofs.Cavity.{round}
use Rattle.sheet.proofs.Global.{outside, locally}
use Rattle.sheet.proofs.Reach.{way_x, way_y}
use Rattle.sheet.proofs.Fan.{One, fan}
use Rattle.sheet.proofs.Strict.{on_corner}
use Rattle.sheet.proofs.Lens.{both_on}

-- side s of office o has the corners of side r of office n, in their order
pub record Twin (o n : Office) (s r : ℕ) : Type 0 where
  pub tails : tail o s ≡ tail n r
  pub heads : head o s ≡ head n r
  pub apexes : apex o s ≡ apex n r

-- each side of n has such a side of o
abbrev pub Holds : Office → Office → Type 0
Holds o n = (r : ℕ) → r < sides n → (s : ℕ) × (s < sides o) × Twin o n s r

module _ {xs ys c d : List ℕ} (a : Acceptable (office xs ys c)) (e : Acceptable (office xs ys d)) (clear : Unambiguous (office xs ys c)) where
  abbrev o : Office
  o = office xs ys c

  abbrev n : Office
  n = office xs ys d

  abbrev τ : Tiling o
  τ = tiling a

  abbrev σ : Tiling n
  σ = tiling e

  abbrev P : ℕ → Point
  P = point o

  -- the triangle i u w of n, and one of o at i
  module _ (r : ℕ) (lr : r < sides n) (s : ℕ) (ls : s < sides o) (es : tail o s ≡ tail n r) where
    abbrev i : ℕ
    i = tail n r

    abbrev u : ℕ
    u = head n r

    abbrev w : ℕ
    w = apex n r

    uw : Pos (turn (P i) (P u) (P w))
    uw = left_turn n σ r lr

    bc : Pos (turn (P i) (P (head o s)) (P (apex o s)))
    bc = subst (λ q. Pos (turn (P q) (P (head o s)) (P (apex o s)))) es (left_turn o τ s ls)

    -- no circle holds a point
    empty_o : (q : ℕ) → q < points o → Non (opp (circle (P i) (P (head o s)) (P (apex o s)) (P q)))
    empty_o q l = subst (λ j. Non (opp (round o q j (head o s) (apex o s)))) es (not_more _ (outside o τ a.empty s q ls l))

    empty_n : (q : ℕ) → q < points o → Non (opp (circle (P i) (P u) (P w) (P q)))
    empty_n q l = not_more _ (outside n σ e.empty r q lr l)

    -- what lies on the circle of o's triangle, but not at i
    corner : (q : ℕ) → q < points o → (i ≡ q → ⊥) → circle (P i) (P (head o s)) (P (apex o s)) (P q) ≡ pos 0 → (head o s ≡ q) ⊎ (apex o s ≡ q)
    corner q l f z = step (on_corner o τ (locally o τ a.empty) clear q l s ls (ap (λ j. round o q j (head o s) (apex o s)) es ∙ z))
      where
        step : One q (tail o s) (head o s) (apex o s) → (head o s ≡ q) ⊎ (apex o s ≡ q)
        step (inl h) = absurd (f (sym es ∙ h))
        step (inr h) = h

    -- u and w are its two others, in their order
    in_order : (head o s ≡ u) ⊎ (apex o s ≡ u) → (head o s ≡ w) ⊎ (apex o s ≡ w) → Twin o n s r
    in_order (inl x) (inr y) = record { tails = es; heads = x; apexes = y }
    in_order (inl x) (inl y) = absurd (never uw (ap (λ q. turn (P i) (P u) (P q)) (sym y ∙ x) ∙ turn_zero (P i) (P u)))
    in_order (inr x) (inr y) = absurd (never uw (ap (λ q. turn (P i) (P u) (P q)) (sym y ∙ x) ∙ turn_zero (P i) (P u)))
    in_order (inr x) (inl y) = both bc (weak (pos_is (turn_swap (P i) (P u) (P w) ∙ ap opp (ap₂ (λ p q. turn (P i) (P p) (P q)) (sym y) (sym x))) uw))

    -- where the ray from i between u and w goes into it
    same : Enters (P i) (way_x o i u w) (way_y o i u w) (P (head o s)) (P (apex o s)) → Twin o n s r
    same h =
        let lu = head_in n σ r lr in
        let lw = apex_in n σ r lr in
        let (x, y) = both_on (P i) (way_x o i u w) (way_y o i u w) (P (head o s)) (P (apex o s)) (P u) (P w)
        h.from h.to (level_u (points o) P (P i) (P u) (P w) uw) (level_w (points o) P (P i) (P u) (P w) uw)
        (empty_o u lu) (empty_o w lw) (empty_n (head o s) (head_in o τ s ls)) (empty_n (apex o s) (apex_in o τ s ls)) in
        in_order
        (corner u lu (λ f. never uw (ap (λ q. turn (P i) (P q) (P w)) (sym f) ∙ turn_self (P i) (P w))) x)
        (corner w lw (λ f. never uw (ap (λ q. turn (P i) (P u) (P q)) (sym f) ∙ turn_back (P i) (P u))) y)

  pub holds : Holds o n
  holds r lr =
      let (s, ls, es, h) = fan o τ (tail n r) (e.numbered r lr) (head n r) (apex n r) (head_in n σ r lr) (apex_in n σ r lr) (left_turn n σ r lr) in
      (s, ls, same r lr s ls es h)
