-- The history of a draw: its marks are those without the triangles of the history, a higher limit's history is the front of a lower one's, what
-- is left of it is the history from there on; and, of an acceptable office, its first peels are peels of best sides whose areas are what is gone.
-- Assumes nothing.
use mathlib.Core.Path.{◌≡◌, refl, sym, ap, subst, ◌∙◌}
use mathlib.Core.Bool.{Bool, true, false, cond}
use mathlib.Core.List.{List, [], ◌∷◌}
use mathlib.Core.Option.{Option, none, some}
use Prim.Native.Nat.{ℕ, zero, suc, ◌+◌, ◌-◌, ◌/◌, ◌<◌, ◌≤◌}
use native.Mathlib.Omega.{arith}
use lib.Dec.{ltb}
use lib.ListN.{length, get_or, take, drop}
use lib.Seq.{take-nil, take-length}
use borrow.Author.Tests.{ltb-true, ltb-false}
use Rattle.sheet.specs.Office.{Office, points, sides, triangles}
use Rattle.sheet.specs.Acceptable.{Acceptable}
use Rattle.rim.specs.Peel.{long, best, peel, turned, peels, whole, drawn, doubled}
use Rattle.rim.specs.Reached.{Stripped, none_yet, one_more}
use Rattle.rim.proofs.Tallied.{doubled_after}
use Rattle.rim.proofs.Reached.{sound, peelable}
use Rattle.rim.proofs.Rings.{peels_fit}
use Rattle.rim.proofs.TopSide.{Top, best_top}
use Rattle.peel.specs.History.{noted, history_from, history, areas, without}
use Rattle.peel.proofs.DrawnOutline.{stripped_reached}

module _ (o : Office) where
  -- ---- the marks
  turn_without : (others logs : List ℕ → List ℕ) (limit : ℕ) (k : List ℕ) (b : Option ℕ) → ((j : List ℕ) → others j ≡ without j (logs j)) → turned o others limit k b ≡ without k (noted o logs limit k b)
  unfolding turned noted without
  turn_without others logs limit k none ih = refl
  turn_without others logs limit k (some s) ih = step (ltb limit (long o s))
    where
      step : (b : Bool) → cond b (others (peel k s)) k ≡ without k (cond b (s / 3 ∷ logs (peel k s)) [])
      step true = ih (peel k s)
      step false = refl

  peels_without : (fuel limit : ℕ) (k : List ℕ) → peels o fuel limit k ≡ without k (history_from o fuel limit k)
  unfolding peels history_from without
  peels_without zero limit k = refl
  peels_without (suc fuel) limit k = turn_without (peels o fuel limit) (history_from o fuel limit) limit k (best o k) (peels_without fuel limit)

  pub drawn_without : (limit : ℕ) → drawn o limit ≡ without (whole o) (history o limit)
  unfolding drawn history
  drawn_without limit = peels_without (triangles o) limit (whole o)

  -- ---- a higher limit
  module _ {low high : ℕ} (below : low ≤ high) where
    turn_front : (lows highs : List ℕ → List ℕ) (k : List ℕ) (b : Option ℕ) → ((j : List ℕ) → highs j ≡ take (length (highs j)) (lows j))
        → noted o highs high k b ≡ take (length (noted o highs high k b)) (noted o lows low k b)
    unfolding noted
    turn_front lows highs k none ih = refl
    turn_front lows highs k (some s) ih = step (ltb high (long o s)) (ltb low (long o s)) refl refl
      where
        step : (x y : Bool) → ltb high (long o s) ≡ x → ltb low (long o s) ≡ y
            → cond x (s / 3 ∷ highs (peel k s)) [] ≡ take (length (cond x (s / 3 ∷ highs (peel k s)) [])) (cond y (s / 3 ∷ lows (peel k s)) [])
        step true true e f = ap {B = List ℕ} (λ l. s / 3 ∷ l) (ih (peel k s))
        step true false e f = absurd (let l = ltb-true high (long o s) e in let m = ltb-false low (long o s) f in omega arith)
        step false y e f = refl

    front_from : (fuel : ℕ) (k : List ℕ) → history_from o fuel high k ≡ take (length (history_from o fuel high k)) (history_from o fuel low k)
    unfolding history_from
    front_from zero k = refl
    front_from (suc fuel) k = turn_front (history_from o fuel low) (history_from o fuel high) k (best o k) (front_from fuel)

    pub history_front : history o high ≡ take (length (history o high)) (history o low)
    unfolding history
    history_front = front_from (triangles o) (whole o)

  -- ---- what is left of it
  module _ (limit : ℕ) where
    -- once nothing is peeled, nothing is
    ends_here : (others : List ℕ → List ℕ) (k : List ℕ) → noted o others limit k (best o k) ≡ [] → (fuel : ℕ) → history_from o fuel limit k ≡ []
    unfolding history_from noted
    ends_here others k e zero = refl
    ends_here others k e (suc fuel) = at_best (best o k) e
      where
        step : (s : ℕ) (b : Bool) → cond b (s / 3 ∷ others (peel k s)) [] ≡ [] → cond b (s / 3 ∷ history_from o fuel limit (peel k s)) [] ≡ []
        step s true e = absurd (let z = ap length e in omega arith)
        step s false e = refl

        at_best : (b : Option ℕ) → noted o others limit k b ≡ [] → noted o (history_from o fuel limit) limit k b ≡ []
        at_best none e = refl
        at_best (some s) e = step s (ltb limit (long o s)) e

    abbrev Rest : ℕ → ℕ → List ℕ → List ℕ → Type 0
    Rest fuel j k ts = drop j ts ≡ history_from o (fuel - j) limit (without k (take j ts))

    turn_rest : (fuel j : ℕ) (k : List ℕ) (b : Option ℕ) → best o k ≡ b → ((i : List ℕ) → Rest fuel j i (history_from o fuel limit i))
        → Rest (suc fuel) (suc j) k (noted o (history_from o fuel limit) limit k b)
    unfolding noted without
    turn_rest fuel j k none e ih = sym (ends_here (history_from o fuel limit) k (ap (noted o (history_from o fuel limit) limit k) e) (suc fuel - suc j))
    turn_rest fuel j k (some s) e ih = step (ltb limit (long o s)) refl
      where
        step : (b : Bool) → ltb limit (long o s) ≡ b → Rest (suc fuel) (suc j) k (cond b (s / 3 ∷ history_from o fuel limit (peel k s)) [])
        step true f = ih (peel k s) ∙ ap (λ n. history_from o n limit (without (peel k s) (take j (history_from o fuel limit (peel k s))))) (let z : fuel - j ≡ suc fuel - suc j = omega arith in z)
        step false f = sym (ends_here (history_from o fuel limit) k (ap (noted o (history_from o fuel limit) limit k) e ∙ ap (λ b. cond b (s / 3 ∷ history_from o fuel limit (peel k s)) []) f) (suc fuel - suc j))

    rest_from : (fuel j : ℕ) (k : List ℕ) → Rest fuel j k (history_from o fuel limit k)
    unfolding history_from without
    rest_from fuel zero k = ap (λ n. history_from o n limit k) (let z : fuel ≡ fuel - 0 = omega arith in z)
    rest_from zero (suc j) k = ap (λ n. history_from o n limit k) (let z : 0 ≡ 0 - suc j = omega arith in z)
    rest_from (suc fuel) (suc j) k = turn_rest fuel j k (best o k) refl (rest_from fuel j)

    -- what is left after j peels is the history from their marks on
    pub history_rest : (j : ℕ) → drop j (history o limit) ≡ history_from o (triangles o - j) limit (without (whole o) (take j (history o limit)))
    unfolding history
    history_rest j = rest_from (triangles o) j (whole o)

-- ---- of an acceptable office
-- from marks k, n peels on the way, the triangles ts are the next peels of best sides, and their areas are what is gone
pub record Leads (o : Office) (limit n : ℕ) (k ts : List ℕ) : Type 0 where
  pub strips : Stripped o limit (n + length ts) (without k ts)
  pub gone : doubled o k ≡ doubled o (without k ts) + areas o ts
  pub there : (j : ℕ) → j < length ts → get_or ts j 0 < triangles o

module _ {o : Office} (a : Acceptable o) (limit : ℕ) where
  stay : {n : ℕ} {k : List ℕ} → Stripped o limit n k → Leads o limit n k []
  unfolding without areas
  stay {n} {k} r = record { strips = subst (λ m. Stripped o limit m k) (omega arith) r; gone = omega arith; there = λ j l. absurd (omega arith) }

  turn_leads : {n : ℕ} {k : List ℕ} (logs : List ℕ → List ℕ) (b : Option ℕ) → best o k ≡ b → Stripped o limit n k → Top a k (sides o) b
      → ((s : ℕ) → Stripped o limit (suc n) (peel k s) → (m : ℕ) → Leads o limit (suc n) (peel k s) (take m (logs (peel k s)))) → (m : ℕ) → Leads o limit n k (take m (noted o logs limit k b))
  unfolding noted without areas
  turn_leads logs b e r t ih zero = stay r
  turn_leads logs none e r t ih (suc m) = stay r
  turn_leads {n} {k} logs (some s) f r t ih (suc m) = step (ltb limit (long o s)) refl
    where
      step : (b : Bool) → ltb limit (long o s) ≡ b → Leads o limit n k (take (suc m) (cond b (s / 3 ∷ logs (peel k s)) []))
      step true x =
          let h = ih s (one_more s r f (ltb-true limit (long o s) x)) m in
          record {
            strips = subst (λ i. Stripped o limit i (without (peel k s) (take m (logs (peel k s))))) (omega arith) h.strips;
            gone = let x = h.gone in let y = doubled_after a (peelable o a (sound o a (stripped_reached a limit r)) s t.0 t.1) in omega arith;
            there = in_row (let c = a.corners_bound.1 in omega arith) h.there;
          }
        where
          in_row : s / 3 < triangles o → ((j : ℕ) → j < length (take m (logs (peel k s))) → get_or (take m (logs (peel k s))) j 0 < triangles o)
              → (j : ℕ) → j < suc (length (take m (logs (peel k s)))) → get_or (s / 3 ∷ take m (logs (peel k s))) j 0 < triangles o
          in_row w g zero b = w
          in_row w g (suc j) b = g j (omega arith)
      step false x = stay r

  from_leads : (fuel : ℕ) {n : ℕ} {k : List ℕ} → Stripped o limit n k → (m : ℕ) → Leads o limit n k (take m (history_from o fuel limit k))
  unfolding history_from
  from_leads zero r m = rw (take-nil {A = ℕ} m) (stay r)
  from_leads (suc fuel) {k = k} r m = turn_leads (history_from o fuel limit) (best o k) refl r (best_top a k) (λ s q. from_leads fuel q) m

  -- the first m peels of a draw
  pub history_leads : (m : ℕ) → Leads o limit 0 (whole o) (take m (history o limit))
  unfolding history
  history_leads m = from_leads (triangles o) none_yet m

  all_leads : Leads o limit 0 (whole o) (history o limit)
  all_leads = subst (Leads o limit 0 (whole o)) (take-length (history o limit)) (history_leads (length (history o limit)))

  -- all fit a log's numbers
  pub history_low : (j : ℕ) → j < length (history o limit) → get_or (history o limit) j 0 ≤ 2042
  history_low j l = let h = all_leads.there j l in let c = a.corners_bound in omega arith

  pub history_short : length (history o limit) + 3 ≤ points o
  history_short = let h = peels_fit a (sound o a (stripped_reached a limit all_leads.strips)) in omega arith
