-- Whether an office is unambiguous, by a test; the printed office is, and the dozen's two triangulations of a square are not. Assumes nothing.
use mathlib.Core.Path.{◌≡◌, refl, ap}
use mathlib.Core.Bool.{true, false}
use mathlib.Core.List.{[], ◌∷◌}
use mathlib.Core.Logic.{◌↔◌}
use Prim.Native.Nat.{suc}
use native.Mathlib.Omega.{arith}
use lib.IntN.{ℤ, pos, negsuc, nat_abs}
use Rattle.laws.specs.First.{first, any}
use Rattle.laws.proofs.Test.{false_iff, any_iff, and_iff, eqb_iff}
use Rattle.sheet.specs.Plane.{turn, squared, circle}
use Rattle.sheet.specs.Office.{Office, office, sides}
use Rattle.sheet.proofs.Dozen.{square}
use Rattle.sheet.specs.Unambiguous.{Unambiguous, ambiguous}

size_zero : (z : ℤ) → nat_abs z ≡ 0 → z ≡ pos 0
size_zero (pos n) e = ap pos e
size_zero (negsuc n) e = absurd (let f : suc n ≡ 0 = e in omega arith)

pub unambiguous_iff : (o : Office) → (any (ambiguous o) (sides o) ≡ false) ↔ Unambiguous o
unambiguous_iff o = (
  (λ e s r l b (x, y) z. false_iff.0 e (any_iff.1 (s, l, any_iff.1 (r, b, and_iff.1 (and_iff.1 (eqb_iff.1 x, eqb_iff.1 y), eqb_iff.1 (ap nat_abs z)))))),
  (λ clear. false_iff.1 (λ e.
      let (s, l, f) = (any_iff {test = ambiguous o}).0 e in
      let (r, b, g) = any_iff.0 f in
      let (w, z) = and_iff.0 g in
      let (x, y) = and_iff.0 w in
      clear s r l b (eqb_iff.0 x, eqb_iff.0 y) (size_zero _ (eqb_iff.0 z)))),
)

abbrev printed : Office
printed = office (0 ∷ 10 ∷ 10 ∷ 0 ∷ 5 ∷ []) (0 ∷ 0 ∷ 10 ∷ 10 ∷ 2 ∷ []) (0 ∷ 1 ∷ 4 ∷ 1 ∷ 2 ∷ 4 ∷ 2 ∷ 3 ∷ 4 ∷ 3 ∷ 0 ∷ 4 ∷ [])

printed_clear : any (ambiguous printed) 12 ≡ false
unfolding first turn squared circle
printed_clear = refl

square_not : (any (ambiguous (square (0 ∷ 1 ∷ 2 ∷ 0 ∷ 2 ∷ 3 ∷ []))) 6 ≡ true) × (any (ambiguous (square (0 ∷ 1 ∷ 3 ∷ 1 ∷ 2 ∷ 3 ∷ []))) 6 ≡ true)
unfolding first turn squared circle
square_not = (refl, refl)
