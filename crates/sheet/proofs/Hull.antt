-- The rim of an acceptable office: a round of as many points as there are rim sides, three at least. Assumes nothing.
use mathlib.Core.Path.{◌≡◌, sym, ap, ◌∙◌}
use mathlib.Core.Logic.Iff
use Prim.Native.Nat.{ℕ, ◌+◌, ◌≤◌}
use native.Mathlib.Decide.{ℕ_discrete}
use native.Mathlib.Omega.{arith}
use Rattle.laws.specs.Round.{Round}
use Rattle.laws.proofs.Runs.{same_sides, length_is}
use Rattle.sheet.specs.Office.{Office, sides, tail, head, rim, rims}
use Rattle.sheet.proofs.Corner.{tail_not_head}
use Rattle.sheet.proofs.Rim.{Tested, rim_iff}
use Rattle.sheet.specs.Acceptable.{Acceptable}

module _ {o : Office} (a : Acceptable o) where
  pub hull_round : Round (Tested o) (rims o)
  hull_round =
      let (m, r) = a.ring in
      let told : Round (Tested o) m = same_sides (λ s _. Iff.symm (rim_iff o s)) r in
      rw (length_is (sides o) (rim o) (tail o) (head o) told a.single) told

  pub hull_three : 3 ≤ rims o
  hull_three = elim (ℕ_discrete (rims o) 1) [
    | yes e ↦ absurd (not_one e)
    | no f ↦ elim (ℕ_discrete (rims o) 2) [ yes e ↦ absurd (not_two e) | no g ↦ (let l = hull_round.long in omega arith) ]
  ]
    where
      at : ℕ → ℕ
      at = hull_round.at

      not_one : rims o ≡ 1 → ⊥
      not_one e =
          let (s, l, _, x, y) = hull_round.goes 0 in
          tail_not_head o a.corners_bound.1 a.left s l (x ∙ sym (hull_round.back 0) ∙ ap (λ i. at (0 + i)) e ∙ sym y)

      not_two : rims o ≡ 2 → ⊥
      not_two e =
          let (s, l, t, x, y) = hull_round.goes 0 in
          let (r, m, _, u, v) = hull_round.goes 1 in
          (rim_iff o s).0 t r m (u ∙ sym y, v ∙ ap (λ i. at (0 + i)) (sym e) ∙ hull_round.back 0 ∙ sym x)
