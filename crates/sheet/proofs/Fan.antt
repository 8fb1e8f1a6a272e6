-- The triangles at a point p: between any two points that turn left at p, one of them starts. Assumes nothing.
use mathlib.Core.Path.{◌≡◌, refl, sym, ap, subst, ◌∙◌}
use mathlib.Core.Bool.{Bool, true, false, cond, ◌||◌}
use mathlib.Core.Logic.{◌⊎◌, inl, inr}
use Prim.Native.Nat.{ℕ, ◌/◌, ◌<◌}
use lib.Dec.{eqb}
use lib.IntN.{pos}
use Rattle.laws.proofs.Test.{or_iff, eqb_iff, same_answer}
use Rattle.sheet.specs.Plane.{turn}
use Rattle.sheet.specs.Office.{Office, points, sides, point, tail, head, apex, last}
use Rattle.sheet.proofs.Sign.{Pos, pos_is, never, both}
use Rattle.sheet.proofs.Total.{total_some}
use Rattle.sheet.proofs.Cross.{turn_cycle, turn_self, turn_back}
use Rattle.sheet.proofs.Side.{triangle_below, last_below, head_last, apex_last}
use Rattle.sheet.proofs.Ray.{Enters}
use Rattle.sheet.proofs.Tiling.{Tiling, Even, even_at, even_of, at_side, left_turn}
use Rattle.sheet.proofs.Cancel.{part}
use Rattle.sheet.proofs.Wind.{enters_of}
use Rattle.sheet.proofs.Spread.{Spreads}
use Rattle.sheet.proofs.Reach.{way_x, way_y, crossed, reached}

-- i is one of three corners
abbrev pub One : ℕ → ℕ → ℕ → ℕ → Type 0
One i a b c = (a ≡ i) ⊎ ((b ≡ i) ⊎ (c ≡ i))

abbrev pub one : ℕ → ℕ → ℕ → ℕ → Bool
one i a b c = eqb a i || (eqb b i || eqb c i)

module _ (i : ℕ) where
  pub is_one : {a b c : ℕ} → one i a b c ≡ true → One i a b c
  is_one {a} {b} {c} h = step ((or_iff {a = eqb a i}).0 h)
    where
      rest : (eqb b i ≡ true) ⊎ (eqb c i ≡ true) → One i a b c
      rest (inl e) = inr (inl (eqb_iff.0 e))
      rest (inr e) = inr (inr (eqb_iff.0 e))

      step : (eqb a i ≡ true) ⊎ ((eqb b i || eqb c i) ≡ true) → One i a b c
      step (inl e) = inl (eqb_iff.0 e)
      step (inr e) = rest ((or_iff {a = eqb b i}).0 e)

  pub one_is : {a b c : ℕ} → One i a b c → one i a b c ≡ true
  one_is {a} (inl e) = (or_iff {a = eqb a i}).1 (inl (eqb_iff.1 e))
  one_is {a} {b} (inr (inl e)) = (or_iff {a = eqb a i}).1 (inr ((or_iff {a = eqb b i}).1 (inl (eqb_iff.1 e))))
  one_is {a} {b} (inr (inr e)) = (or_iff {a = eqb a i}).1 (inr ((or_iff {a = eqb b i}).1 (inr (eqb_iff.1 e))))

  turned : {a b c : ℕ} → One i a b c → One i b c a
  turned (inl e) = inr (inr e)
  turned (inr (inl e)) = inl e
  turned (inr (inr e)) = inr (inl e)

  pub one_cycle : (a b c : ℕ) → one i a b c ≡ one i b c a
  one_cycle a b c = same_answer (λ e. one_is (turned (is_one e))) (λ e. one_is (turned (turned (is_one e))))

module _ (o : Office) (τ : Tiling o) (i : ℕ) (li : i < points o) where
  -- the triangles at i
  abbrev there : ℕ → Bool
  there = at_side o (one i)

  there_even : Even there
  there_even = even_of o (one i) (one_cycle i)

  -- the side beyond which there is none is the one across from i
  there_spreads : Spreads o i there
  there_spreads s r l lr (x, y) h n = one_is i (step (is_one i h))
    where
      step : One i (tail o s) (head o s) (apex o s) → One i (tail o r) (head o r) (apex o r)
      step (inl e) = inr (inl (y ∙ e))
      step (inr (inl e)) = inl (x ∙ e)
      step (inr (inr e)) = both (pos_is (sym (turn_cycle _ _ _) ∙ ap (λ q. turn (point o q) (point o (tail o s)) (point o (head o s))) e) (left_turn o τ s l)) n

  module _ (u w : ℕ) (lu : u < points o) (lw : w < points o) (uw : Pos (turn (point o i) (point o u) (point o w))) where
    abbrev Between : ℕ → ℕ → Type 0
    Between a b = Enters (point o i) (way_x o i u w) (way_y o i u w) (point o a) (point o b)

    -- the ray from i between u and w goes into the triangle of a side that starts at i
    pub fan : (s : ℕ) × (s < sides o) × (tail o s ≡ i) × Between (head o s) (apex o s)
    fan =
        let (z, lz, e) = τ.used i li in
        let (s, l, h) = total_some (part o there (crossed o i u w)) (sides o)
        (reached o τ i li there there_even there_spreads u w lu lw uw (z / 3) (triangle_below (sides o) z τ.whole lz) (sym (even_at there there_even z) ∙ one_is i (inl e))) in
        step s l (there s) refl h
      where
        across : (s : ℕ) → s < sides o → Between (tail o s) (head o s) → One i (tail o s) (head o s) (apex o s) → (s : ℕ) × (s < sides o) × (tail o s ≡ i) × Between (head o s) (apex o s)
        across s l h (inl e) = absurd (never h.left (ap (λ q. turn (point o i) (point o q) (point o (head o s))) e ∙ turn_self _ _))
        across s l h (inr (inl e)) = absurd (never h.left (ap (λ q. turn (point o i) (point o (tail o s)) (point o q)) e ∙ turn_back _ _))
        across s l h (inr (inr e)) =
            (last s, last_below (sides o) s τ.whole l, e, subst (λ a. Between a (apex o (last s))) (sym (head_last o s)) (subst (Between (tail o s)) (sym (apex_last o s)) h))

        step : (s : ℕ) → s < sides o → (b : Bool) → there s ≡ b → Pos (cond b (crossed o i u w (tail o s) (head o s)) (pos 0)) → (s : ℕ) × (s < sides o) × (tail o s ≡ i) × Between (head o s) (apex o s)
        step s l true e h = across s l (enters_of (point o i) (way_x o i u w) (way_y o i u w) _ _ h) (is_one i e)
        step s l false e h = absurd (never h refl)
