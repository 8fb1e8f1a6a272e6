-- No doubled area of an accepted office is greater than 536,805,378, nor is the sum over all its triangles. Assumes nothing.
use mathlib.Core.Path.{◌≡◌, sym, ap, ◌∙◌}
use mathlib.Core.List.{[], ◌∷◌}
use Prim.Native.Nat.{ℕ, ◌+◌, ◌≤◌, ◌<◌}
use native.Mathlib.Omega.{arith}
use lib.IntN.{pos, nat_abs, ◌+ℤ◌, ◌-ℤ◌}
use Rattle.laws.specs.First.{sum}
use Rattle.laws.proofs.Solve.{v, ◌:+◌, ◌:-◌, solve}
use Rattle.sheet.specs.Office.{Office, triangles, area}
use Rattle.sheet.specs.Acceptable.{Acceptable}
use Rattle.sheet.proofs.Sign.{Non, non_is}
use Rattle.sheet.proofs.Total.{total, total_same}
use Rattle.sheet.proofs.Swap.{pos_sum}
use Rattle.sheet.proofs.Tiling.{area_pos}
use Rattle.sheet.proofs.Tiled.{tiling}
use Rattle.sheet.proofs.Bound.{area_bound}
use Rattle.sheet.proofs.Wind.{term_le}

not_above : (m n : ℕ) → Non (pos m -ℤ pos n) → n ≤ m
not_above m n h =
    let e : pos m ≡ pos (h.by + n) = solve (v 0) (v 0 :- v 1 :+ v 1) (pos m ∷ pos n ∷ []) tt ∙ ap (λ z. z +ℤ pos n) h.is in
    let f : m ≡ h.by + n = ap nat_abs e in
    omega arith

module _ {o : Office} (a : Acceptable o) where
  pub areas_fit : sum (λ t. nat_abs (area o t)) (triangles o) ≤ 536805378
  areas_fit = not_above 536805378 _ (non_is (ap (λ z. pos 536805378 -ℤ z) (sym whole)) (area_bound o (tiling a) 16383 a.small))
    where
      whole : pos (sum (λ t. nat_abs (area o t)) (triangles o)) ≡ total (area o) (triangles o)
      whole = pos_sum _ (triangles o) ∙ total_same _ _ (triangles o) (λ t l. rw (area_pos o (tiling a) t l).is)

  pub area_fits : (t : ℕ) → t < triangles o → nat_abs (area o t) ≤ 536805378
  area_fits t l = let h = term_le (λ t. nat_abs (area o t)) (triangles o) t l in let b = areas_fit in omega arith
