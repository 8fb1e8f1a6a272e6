-- The index agrees with a draw at every limit. Assumes nothing.
use mathlib.Core.Path.{◌≡◌, refl, sym, ap, ◌∙◌}
use mathlib.Core.Logic.{◌↔◌, ◌⊎◌, inl, inr}
use mathlib.Core.Bool.{Bool, true, false, cond, ◌||◌}
use mathlib.Core.List.{List}
use mathlib.Core.Option.{Option, none, some}
use Prim.Native.Nat.{ℕ, zero, suc, ◌<◌, ◌≤◌}
use native.Mathlib.Decide.{ℕ_discrete, dec_lt}
use native.Mathlib.Omega.{arith}
use lib.Dec.{ltb, eqb}
use borrow.Author.Tests.{lt-ltb, le-ltb, ltb-true, ltb-false}
use Rattle.laws.proofs.Test.{false_iff, or_iff, eqb_iff, ltb_iff}
use Rattle.sheet.specs.Office.{Office, sides, triangles, apex}
use Rattle.sheet.specs.Acceptable.{Acceptable}
use Rattle.rim.specs.Peel.{on_rim, long, best, peel, turned, peels, whole, drawn}
use Rattle.rim.specs.Reached.{Reached, begun, more}
use Rattle.rim.proofs.Reached.{sound, peelable}
use Rattle.rim.proofs.RimPoints.{on_rim_after}
use Rattle.rim.proofs.TopSide.{Top, best_top}
use Rattle.peel.specs.Index.{smaller, bared, index_from, index, shown, Indexed}
use Rattle.peel.proofs.Long.{long_bound}

smaller_law : (a b : ℕ) → (smaller a b ≤ a) × (smaller a b ≤ b) × ((l : ℕ) → l < a → l < b → l < smaller a b)
smaller_law a b = step (ltb a b) refl
  where
    step : (c : Bool) → ltb a b ≡ c → (cond c a b ≤ a) × (cond c a b ≤ b) × ((l : ℕ) → l < a → l < b → l < cond c a b)
    step true e = let h = ltb-true a b e in (omega arith, omega arith, λ l x y. x)
    step false e = let h = ltb-false a b e in (omega arith, omega arith, λ l x y. y)

or-false : (a : Bool) → (a || false) ≡ a
or-false true = refl
or-false false = refl

module _ {o : Office} (a : Acceptable o) where
  pub rim_grows : {n : ℕ} {k : List ℕ} (s p : ℕ) → Reached o n k → s < sides o → Top a k (sides o) (some s) → on_rim o (peel k s) p ≡ (on_rim o k p || eqb p (apex o s))
  rim_grows s p r l (_, e, _) = on_rim_after a (peelable o a (sound o a r) s l e) p

  module _ (p : ℕ) where
    -- a point on the rim stays on it
    turn_stays : (limit : ℕ) {n : ℕ} {k : List ℕ} (others : List ℕ → List ℕ) (b : Option ℕ) → Reached o n k → Top a k (sides o) b → on_rim o k p ≡ true
        → ((s : ℕ) → Reached o (suc n) (peel k s) → on_rim o (peel k s) p ≡ true → on_rim o (others (peel k s)) p ≡ true) → on_rim o (turned o others limit k b) p ≡ true
    unfolding turned
    turn_stays limit others none r t h ih = h
    turn_stays limit {n} {k} others (some s) r (l, e, t) h ih = step (ltb limit (long o s))
      where
        step : (b : Bool) → on_rim o (cond b (others (peel k s)) k) p ≡ true
        step true = ih s (more s r l e) (rim_grows s p r l (l, e, t) ∙ ap (λ b. b || eqb p (apex o s)) h)
        step false = h

    stays_on : (limit fuel : ℕ) {n : ℕ} {k : List ℕ} → Reached o n k → on_rim o k p ≡ true → on_rim o (peels o fuel limit k) p ≡ true
    unfolding peels
    stays_on limit zero r h = h
    stays_on limit (suc fuel) {n} {k} r h = turn_stays limit (peels o fuel limit) (best o k) r (best_top a k) h (λ s x y. stays_on limit fuel x y)

    -- an index is not above what was peeled before, nor above any length
    abbrev Low : ℕ → ℕ → Type 0
    Low m i = (i ≤ m) × (i ≤ 536805378)

    bared_low : (others : ℕ → List ℕ → ℕ) (m : ℕ) (k : List ℕ) (b : Option ℕ) → Top a k (sides o) b → ((m : ℕ) (j : List ℕ) → Low m (others m j)) → Low m (bared o others m k p b)
    unfolding bared
    bared_low others m k none t ih = (omega arith, omega arith)
    bared_low others m k (some s) (l, _, _) ih = step (eqb p (apex o s))
      where
        step : (b : Bool) → Low m (cond b (smaller (long o s) m) (others (smaller (long o s) m) (peel k s)))
        step true = let (x, y, _) = smaller_law (long o s) m in let z = long_bound a s l in (y, omega arith)
        step false = let (_, y, _) = smaller_law (long o s) m in let (u, v) = ih (smaller (long o s) m) (peel k s) in (omega arith, v)

    index_low : (fuel m : ℕ) (k : List ℕ) → Low m (index_from o fuel m k p)
    unfolding index_from
    index_low zero m k = (omega arith, omega arith)
    index_low (suc fuel) m k = bared_low (λ least j. index_from o fuel least j p) m k (best o k) (best_top a k) (λ m j. index_low fuel m j)

    module _ (limit : ℕ) where
      -- the least length so far is above the limit where a side's is
      abbrev Over : ℕ → Type 0
      Over m = (s : ℕ) → s < sides o → limit < long o s → limit < m

      turn_reads : {n : ℕ} {k : List ℕ} (draws : List ℕ → List ℕ) (later : ℕ → List ℕ → ℕ) (m : ℕ) (b : Option ℕ) → Reached o n k → Top a k (sides o) b → Over m → on_rim o k p ≡ false
          → ((s : ℕ) → Reached o (suc n) (peel k s) → on_rim o (peel k s) p ≡ true → on_rim o (draws (peel k s)) p ≡ true)
          → ((m : ℕ) (j : List ℕ) → Low m (later m j))
          → ((s m : ℕ) → Reached o (suc n) (peel k s) → Over m → on_rim o (peel k s) p ≡ false → on_rim o (draws (peel k s)) p ≡ ltb limit (later m (peel k s)))
          → on_rim o (turned o draws limit k b) p ≡ ltb limit (bared o later m k p b)
      unfolding turned bared
      turn_reads draws later m none r t over off stays low ih = off ∙ sym (le-ltb limit 0 (omega arith))
      turn_reads {n} {k} draws later m (some s) r (l, e, t) over off stays low ih = step (ltb limit (long o s)) (eqb p (apex o s)) refl refl
        where
          q : ℕ
          q = smaller (long o s) m

          next : Reached o (suc n) (peel k s)
          next = more s r l e

          grown : on_rim o (peel k s) p ≡ eqb p (apex o s)
          grown = rim_grows s p r l (l, e, t) ∙ ap (λ b. b || eqb p (apex o s)) off

          step : (b c : Bool) → ltb limit (long o s) ≡ b → eqb p (apex o s) ≡ c → on_rim o (cond b (draws (peel k s)) k) p ≡ ltb limit (cond c q (later q (peel k s)))
          step true c x y =
              let u = ltb-true limit (long o s) x in
              let w : limit < q = (smaller_law (long o s) m).2 limit u (over s l u) in
              at c (grown ∙ y) w
            where
              at : (c : Bool) → on_rim o (peel k s) p ≡ c → limit < q → on_rim o (draws (peel k s)) p ≡ ltb limit (cond c q (later q (peel k s)))
              at true y w = stays s next y ∙ sym (lt-ltb limit q w)
              at false y w = ih s q next (λ _ _ _. w) y
          step false c x y = off ∙ sym (le-ltb limit _ (at c))
            where
              at : (c : Bool) → cond c q (later q (peel k s)) ≤ limit
              at true = let u = ltb-false limit (long o s) x in let (v, _, _) = smaller_law (long o s) m in omega arith
              at false = let u = ltb-false limit (long o s) x in let (v, _, _) = smaller_law (long o s) m in let (w, _) = low q (peel k s) in omega arith

      reads : (fuel : ℕ) {n : ℕ} {k : List ℕ} (m : ℕ) → Reached o n k → Over m → on_rim o k p ≡ false → on_rim o (peels o fuel limit k) p ≡ ltb limit (index_from o fuel m k p)
      unfolding peels index_from
      reads zero m r over off = off ∙ sym (le-ltb limit 0 (omega arith))
      reads (suc fuel) {n} {k} m r over off =
          turn_reads (peels o fuel limit) (λ least j. index_from o fuel least j p) m (best o k) r (best_top a k) over off
          (λ s x y. stays_on limit fuel x y) (λ m j. index_low fuel m j) (λ s m x y z. reads fuel m x y z)

      -- by the index, a point is on the outline where it is
      pub on_outline : on_rim o (drawn o limit) p ≡ shown o limit p
      unfolding drawn index
      on_outline = step (on_rim o (whole o) p) refl
        where
          i : ℕ
          i = index_from o (triangles o) 4294967295 (whole o) p

          step : (b : Bool) → on_rim o (whole o) p ≡ b → on_rim o (peels o (triangles o) limit (whole o)) p ≡ (ltb limit (cond b 4294967295 i) || eqb (cond b 4294967295 i) 4294967295)
          step true e = stays_on limit (triangles o) begun e ∙ sym ((or_iff {a = ltb limit 4294967295}).1 (inr refl))
          step false e =
              reads (triangles o) 4294967295 begun (λ s l h. let z = long_bound a s l in omega arith) e
              ∙ sym (ap (λ b. ltb limit i || b) (false_iff.1 (λ h. let z : i ≡ 4294967295 = eqb_iff.0 h in let (_, w) = index_low (triangles o) 4294967295 (whole o) in omega arith)) ∙ or-false (ltb limit i))

    index_fits : index o p ≤ 4294967295
    unfolding index
    index_fits = step (on_rim o (whole o) p)
      where
        step : (b : Bool) → cond b 4294967295 (index_from o (triangles o) 4294967295 (whole o) p) ≤ 4294967295
        step true = omega arith
        step false = (index_low (triangles o) 4294967295 (whole o)).0

    agrees : (limit : ℕ) → (on_rim o (drawn o limit) p ≡ true) ↔ ((limit < index o p) ⊎ (index o p ≡ 4294967295))
    agrees limit = (
      (λ e. told ((or_iff {a = ltb limit (index o p)}).0 (sym (on_outline limit) ∙ e))),
      (λ h. on_outline limit ∙ or_iff.1 (tells h)),
    )
      where
        told : (ltb limit (index o p) ≡ true) ⊎ (eqb (index o p) 4294967295 ≡ true) → (limit < index o p) ⊎ (index o p ≡ 4294967295)
        told (inl h) = inl (ltb_iff.0 h)
        told (inr h) = inr (eqb_iff.0 h)

        tells : (limit < index o p) ⊎ (index o p ≡ 4294967295) → (ltb limit (index o p) ≡ true) ⊎ (eqb (index o p) 4294967295 ≡ true)
        tells (inl h) = inl (ltb_iff.1 h)
        tells (inr h) = inr (eqb_iff.1 h)

    -- the points of the hull alone have the greatest number
    hull_index : (index o p ≡ 4294967295) ↔ (on_rim o (whole o) p ≡ true)
    unfolding index
    hull_index = step (on_rim o (whole o) p)
      where
        step : (b : Bool) → (cond b 4294967295 (index_from o (triangles o) 4294967295 (whole o) p) ≡ 4294967295) ↔ (b ≡ true)
        step true = ((λ _. refl), (λ _. refl))
        step false = ((λ e. let (_, w) = index_low (triangles o) 4294967295 (whole o) in absurd (omega arith)), (λ e. absurd (false_iff.0 refl e)))

    pub indexed : Indexed o p (index o p)
    indexed = record {
      agrees = agrees;
      hull = hull_index;
      always = ((λ e limit. (agrees limit).1 (inr e)), (λ f. greatest ((agrees 4294967295).0 (f 4294967295))));
      never = (
        (λ e limit. false_iff.1 (λ h. zero-not limit e ((agrees limit).0 h))),
        (λ f. elim (ℕ_discrete (index o p) 0) [ yes e ↦ e | no g ↦ absurd (false_iff.0 (f 0) ((agrees 0).1 (inl (omega arith)))) ]),
      );
      least = λ g. (
        false_iff.1 (λ h. not_there g ((agrees (index o p)).0 h)),
        λ limit e. elim (dec_lt limit (index o p)) [ yes l ↦ absurd (false_iff.0 e ((agrees limit).1 (inl l))) | no f ↦ omega arith ],
      );
    }
      where
        greatest : (4294967295 < index o p) ⊎ (index o p ≡ 4294967295) → index o p ≡ 4294967295
        greatest (inl h) = let w = index_fits in absurd (omega arith)
        greatest (inr h) = h

        zero-not : (limit : ℕ) → index o p ≡ 0 → (limit < index o p) ⊎ (index o p ≡ 4294967295) → ⊥
        zero-not limit e (inl h) = omega arith
        zero-not limit e (inr h) = omega arith

        not_there : (index o p ≡ 4294967295 → ⊥) → (index o p < index o p) ⊎ (index o p ≡ 4294967295) → ⊥
        not_there g (inl h) = omega arith
        not_there g (inr h) = g h
