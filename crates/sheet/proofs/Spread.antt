-- Triangles such that beyond a side that does not have p strictly on its left there is another of them: p lies left of each side of their
-- border, or on a rim side's line. Assumes nothing.
use mathlib.Core.Path.{◌≡◌, sym}
use mathlib.Core.Bool.{Bool, true}
use mathlib.Core.Logic.{◌⊎◌, inl, inr}
use Prim.Native.Nat.{ℕ, ◌<◌}
use lib.IntN.{ℤ}
use Rattle.sheet.specs.Plane.{turn}
use Rattle.sheet.specs.Office.{Office, points, sides, point, tail, head}
use Rattle.sheet.specs.Acceptable.{Reverse, Rim}
use Rattle.sheet.proofs.Sign.{Pos, Non, opp, weak, non_is, either}
use Rattle.sheet.proofs.Cancel.{Border, mate}
use Rattle.sheet.proofs.Cross.{turn_cycle}
use Rattle.sheet.proofs.Tiling.{Tiling, hull_non}

module _ (o : Office) (i : ℕ) where
  -- above 0 where the point lies left of side s
  abbrev pub seen : ℕ → ℤ
  seen s = turn (point o i) (point o (tail o s)) (point o (head o s))

  -- beyond a side that does not have it strictly on its left there is another triangle of N
  abbrev pub Spreads : (ℕ → Bool) → Type 0
  Spreads N = (s r : ℕ) → s < sides o → r < sides o → Reverse o s r → N s ≡ true → Non (opp (seen s)) → N r ≡ true

  -- so a side of the border is a rim side, or has it strictly on its left
  pub data Side (s : ℕ) : Type 0 where
    rim : Rim o s → Non (seen s) → Side s
    inner : Pos (seen s) → Side s

module _ (o : Office) (τ : Tiling o) (i : ℕ) (li : i < points o) (N : ℕ → Bool) (spreads : Spreads o i N) where
  pub side : (s : ℕ) → s < sides o → Border o N s → Side o i s
  side s l b = step (mate o s)
    where
      past : (r : ℕ) → r < sides o → Reverse o s r → Pos (seen o i s) ⊎ Non (opp (seen o i s)) → Side o i s
      past r lr m (inl h) = inner h
      past r lr m (inr h) = absurd (b.alone r lr (spreads s r l lr m b.of h) m)

      step : ((r : ℕ) × (r < sides o) × Reverse o s r) ⊎ Rim o s → Side o i s
      step (inl (r, lr, m)) = past r lr m (either (seen o i s))
      step (inr f) = rim f (non_is (sym (turn_cycle (point o i) (point o (tail o s)) (point o (head o s)))) (hull_non o τ s i l f li))

  pub not_right : (s : ℕ) → s < sides o → Border o N s → Non (seen o i s)
  not_right s l b = step (side s l b)
    where
      step : Side o i s → Non (seen o i s)
      step (rim r h) = h
      step (inner h) = weak h
