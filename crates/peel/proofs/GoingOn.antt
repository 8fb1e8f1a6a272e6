-- Moving the limit down: peeling on from a limit's outline to a lower limit comes to that limit's outline. Assumes nothing.
use mathlib.Core.Path.{◌≡◌, refl, ap, ◌∙◌}
use mathlib.Core.Bool.{Bool, true, false, cond}
use mathlib.Core.List.{List}
use mathlib.Core.Option.{Option, none, some}
use Prim.Native.Nat.{ℕ, zero, suc, ◌+◌, ◌-◌, ◌<◌, ◌≤◌}
use native.Mathlib.Omega.{arith}
use borrow.Author.Tests.{ltb-true}
use lib.Dec.{ltb}
use Rattle.sheet.specs.Office.{Office, sides, triangles}
use Rattle.sheet.specs.Acceptable.{Acceptable}
use Rattle.rim.specs.Peel.{long, best, peel, turned, peels, whole, drawn}
use Rattle.rim.specs.Reached.{Reached, begun, more}
use Rattle.rim.proofs.TopSide.{Top, best_top}
use Rattle.peel.proofs.Ahead.{Ahead, all_ahead, peel_ahead}

module _ {o : Office} (a : Acceptable o) (high low : ℕ) (below : low ≤ high) where
  -- marks after n peels, from which as many turns as triangles are left come to the lower limit's outline
  abbrev OnTheWay : ℕ → List ℕ → Type 0
  OnTheWay n k = Reached o n k × (left : ℕ) × (n + left ≡ triangles o) × Ahead o low n left k

  turn_on : (n : ℕ) (k : List ℕ) (others : List ℕ → List ℕ) (b : Option ℕ) → best o k ≡ b → OnTheWay n k → Top a k (sides o) b
      → ((s : ℕ) → OnTheWay (suc n) (peel k s) → (m : ℕ) × OnTheWay m (others (peel k s))) → (m : ℕ) × OnTheWay m (turned o others high k b)
  unfolding turned
  turn_on n k others none e w t on = (n, w)
  turn_on n k others (some s) e (r, left, all, h) (l, x, t) on = step (ltb high (long o s)) refl
    where
      step : (b : Bool) → ltb high (long o s) ≡ b → (m : ℕ) × OnTheWay m (cond b (others (peel k s)) k)
      step true f =
          let longer : low < long o s = (let g = ltb-true high (long o s) f in omega arith) in
          let (m, z, g) = peel_ahead a h s r e longer in
          on s (more s r l x, m, omega arith, g)
      step false f = (n, (r, left, all, h))

  peels_on : (fuel n : ℕ) (k : List ℕ) → OnTheWay n k → (m : ℕ) × OnTheWay m (peels o fuel high k)
  unfolding peels
  peels_on zero n k w = (n, w)
  peels_on (suc fuel) n k w = turn_on n k (peels o fuel high) (best o k) refl w (best_top a k) (λ s v. peels_on fuel (suc n) (peel k s) v)

  -- GOING ON from a limit's outline, with the peels that are left, comes to the lower limit's outline
  pub going_on : (n : ℕ) × Reached o n (drawn o high) × (peels o (triangles o - n) low (drawn o high) ≡ drawn o low)
  unfolding drawn
  going_on =
      let (n, (r, left, all, h)) = peels_on (triangles o) 0 (whole o) (begun, triangles o, omega arith, all_ahead) in
      let is : triangles o - n ≡ left = omega arith in
      (n, r, ap (λ (m : ℕ). peels o m low (peels o (triangles o) high (whole o))) is ∙ h.goes)
