-- What the marks say, in plain logic: kept sides, the rim, the points on it, removable sides. Assumes nothing.
use mathlib.Core.Path.{◌≡◌, refl}
use mathlib.Core.Logic.{◌↔◌, ◌⊎◌, inl, inr}
use mathlib.Core.Bool.{Bool, true, false, ◌&&◌, ◌||◌}
use mathlib.Core.List.{List}
use Prim.Native.Nat.{ℕ, ◌/◌, ◌<◌}
use lib.Dec.{eqb}
use lib.ListN.{get_or}
use Rattle.laws.specs.First.{any}
use Rattle.laws.proofs.Test.{plain, and_iff, not_iff, or_iff, eqb_iff, any_iff}
use Rattle.laws.specs.Round.{Runs}
use Rattle.sheet.specs.Office.{Office, sides, tail, head, apex, reverse}
use Rattle.sheet.specs.Acceptable.{Reverse}
use Rattle.rim.specs.Peel.{kept, rim, on_rim, removable}

-- the triangle of side s is kept
abbrev pub Kept : List ℕ → ℕ → Type 0
Kept k s = get_or k (s / 3) 0 ≡ 1

-- point p is an end of side s
abbrev pub Ends : Office → ℕ → ℕ → Type 0
Ends o s p = (tail o s ≡ p) ⊎ (head o s ≡ p)

module _ (o : Office) (k : List ℕ) where
  -- side s is kept, and no kept side runs back along it
  abbrev pub Rim : ℕ → Type 0
  Rim s = Kept k s × ((r : ℕ) → r < sides o → Kept k r → Reverse o s r → ⊥)

  -- a rim side runs from p to q
  abbrev pub Way : ℕ → ℕ → Type 0
  Way = Runs (sides o) (λ s. rim o k s ≡ true) (tail o) (head o)

  -- point p is an end of a rim side
  abbrev pub OnRim : ℕ → Type 0
  OnRim p = (s : ℕ) × (s < sides o) × Ends o s p × Rim s

  -- a kept triangle has point p for a corner
  abbrev pub Held : ℕ → Type 0
  Held p = (r : ℕ) × (r < sides o) × Kept k r × (tail o r ≡ p)

  pub rim_iff : (s : ℕ) → (rim o k s ≡ true) ↔ Rim s
  unfolding rim
  rim_iff s = (
    (λ e. let h = simp plain at e in (h.0, λ r l c v. h.1 (r, l, (c, v)))),
    (λ h. simp plain (h.0, λ (r, l, (c, v)). h.1 r l c v)),
  )

  pub on_rim_iff : (p : ℕ) → (on_rim o k p ≡ true) ↔ OnRim p
  unfolding on_rim
  on_rim_iff p = (
    (λ e. let (s, l, h) = (any_iff {test = λ s. (eqb (tail o s) p || eqb (head o s) p) && rim o k s}).0 e in one s l ((and_iff {a = eqb (tail o s) p || eqb (head o s) p}).0 h)),
    (λ (s, l, c, h). any_iff.1 (s, l, and_iff.1 (or_iff.1 (ends s c), (rim_iff s).1 h))),
  )
    where
      one : (s : ℕ) → s < sides o → (((eqb (tail o s) p || eqb (head o s) p) ≡ true) × (rim o k s ≡ true)) → OnRim p
      one s l h = (s, l, read ((or_iff {a = eqb (tail o s) p}).0 h.0), (rim_iff s).0 h.1)
        where
          read : ((eqb (tail o s) p ≡ true) ⊎ (eqb (head o s) p ≡ true)) → Ends o s p
          read (inl e) = inl (eqb_iff.0 e)
          read (inr e) = inr (eqb_iff.0 e)

      ends : (s : ℕ) → Ends o s p → (eqb (tail o s) p ≡ true) ⊎ (eqb (head o s) p ≡ true)
      ends s (inl e) = inl (eqb_iff.1 e)
      ends s (inr e) = inr (eqb_iff.1 e)

  pub removable_iff : (s : ℕ) → (removable o k s ≡ true) ↔ (Rim s × (OnRim (apex o s) → ⊥))
  unfolding removable
  removable_iff s = (
    (λ e. let h = (and_iff {a = rim o k s}).0 e in ((rim_iff s).0 h.0, λ c. not_iff.0 h.1 ((on_rim_iff (apex o s)).1 c))),
    (λ h. and_iff.1 ((rim_iff s).1 h.0, not_iff.1 (λ e. h.1 ((on_rim_iff (apex o s)).0 e)))),
  )

  -- a kept side that is not on the rim has a kept reverse
  pub inner : (s : ℕ) → Kept k s → (Rim s → ⊥) → (r : ℕ) × (r < sides o) × Kept k r × Reverse o s r
  inner s c off = step (any (λ r. kept o k r && reverse o s r) (sides o)) refl
    where
      step : (b : Bool) → any (λ r. kept o k r && reverse o s r) (sides o) ≡ b → (r : ℕ) × (r < sides o) × Kept k r × Reverse o s r
      step true e = let (r, l, (d, v)) = simp plain at e in (r, l, d, v)
      step false e = let f = simp plain at e in absurd (off (c, λ r l d v. f (r, l, (d, v))))
