-- From a limit to a smaller one the outline only gains points: without these, every round of the rim there is one of the rim here. Assumes nothing.
use mathlib.Core.Path.{◌≡◌, refl, sym, ap, ap₂, subst, ◌∙◌}
use mathlib.Core.Bool.{Bool, true, false, cond, ◌||◌}
use mathlib.Core.List.{List, [], ◌∷◌, ◌++◌}
use mathlib.Core.Option.{Option, none, some}
use Prim.Native.Nat.{ℕ, zero, suc, ◌+◌, ◌-◌, ◌≤◌}
use native.Mathlib.Omega.{arith}
use lib.Dec.{ltb, eqb}
use Rattle.laws.specs.First.{table}
use Rattle.laws.specs.Round.{Round, rotated}
use Rattle.laws.proofs.Test.{false_iff}
use Rattle.laws.proofs.Fill.{length-table}
use Rattle.laws.proofs.Front.{table_same}
use Rattle.laws.proofs.Round.{from_step, from_step_at}
use Rattle.laws.proofs.OneRound.{one_round, one_length, rotated-table}
use Rattle.sheet.specs.Office.{Office, sides, triangles, tail, head, apex}
use Rattle.sheet.specs.Acceptable.{Acceptable}
use Rattle.rim.specs.Peel.{on_rim, long, best, peel, turned, peels, drawn}
use Rattle.rim.specs.Reached.{Reached, more}
use Rattle.rim.proofs.Marks.{Way, rim_iff, on_rim_iff}
use Rattle.rim.proofs.OnePeel.{Peelable, on, off}
use Rattle.rim.proofs.Grow.{grown_round, grown_old, grown_new}
use Rattle.rim.proofs.Reached.{sound, peelable}
use Rattle.rim.proofs.TopSide.{Top, best_top}
use Rattle.peel.specs.Index.{keep}
use Rattle.peel.proofs.GoingOn.{going_on}
use Rattle.peel.proofs.Keep.{keep_twice, keep_table, keep_rotated, table_last}
use Rattle.peel.proofs.Indexes.{rim_grows}
use Rattle.peel.proofs.RoundPoints.{at_rim}

-- every round of the rim of marks k, without what is not on that of marks j, is a round of that of marks j
abbrev pub Thins : Office → List ℕ → List ℕ → Type 0
Thins o j k = (m : ℕ) (r : Round (Way o k) m) → (n : ℕ) × (q : Round (Way o j) n) × (table q.at n ≡ keep (on_rim o j) (table r.at m))

module _ (o : Office) where
  thin_none : (k : List ℕ) → Thins o k k
  thin_none k m r = (m, r, sym (keep_table (on_rim o k) r.at m (at_rim o k r)))

  thin_more : (i j k : List ℕ) → ((p : ℕ) → on_rim o i p ≡ true → on_rim o j p ≡ true) → Thins o i j → Thins o j k → Thins o i k
  thin_more i j k mono f g m r =
      let (n, q, e) = g m r in
      let (l, t, d) = f n q in
      (l, t, d ∙ ap (keep (on_rim o i)) e ∙ keep_twice (on_rim o i) (on_rim o j) (table r.at m) mono)

module _ {o : Office} (a : Acceptable o) where
  -- one peel
  thin_grown : {k : List ℕ} {s c : ℕ} (can : Peelable o k s) (R : Round (Way o k) c) → R.at 0 ≡ head o s → Thins o k (peel k s)
  thin_grown {k} {s} {c} can R start m r =
      let G = grown_round a can R start in
      let (j, l, f) = one_round G r in
      let q = from_step R j in (
        c,
        q,
        sym (
            ap (λ n. keep test (table r.at n)) (one_length G r)
            ∙ ap (keep test) (table_same r.at (λ i. G.at (j + i)) (suc c) (λ i _. f i) ∙ sym (rotated-table G.at (suc c) j (omega arith) G.back) ∙ ap (rotated j) row)
            ∙ keep_rotated test (apex o s) (false_iff.1 (λ e. off a can ((on_rim_iff o k (apex o s)).0 e))) (table R.at c) j (let z = length-table R.at c in omega arith)
            ∙ ap (keep test) (rotated-table R.at c j (omega arith) R.back ∙ table_same (λ i. R.at (j + i)) q.at c (λ i _. sym (from_step_at R j i)))
            ∙ keep_table test q.at c (at_rim o k q)),
      )
    where
      test : ℕ → Bool
      test = on_rim o k

      row : table (grown_round a can R start).at (suc c) ≡ table R.at c ++ apex o s ∷ []
      row =
          table_last (grown_round a can R start).at c
          ∙ ap₂ (λ (l : List ℕ) (p : ℕ). l ++ p ∷ []) (table_same (grown_round a can R start).at R.at c (λ i l. grown_old a can R start i l)) (grown_new a can R start)

  module _ {n : ℕ} {k : List ℕ} (r : Reached o n k) (s : ℕ) (t : Top a k (sides o) (some s)) where
    pub thin_peel : Thins o k (peel k s)
    thin_peel =
        let h = (sound o a r).round in
        let can = peelable o a (sound o a r) s t.0 t.1 in
        let (j, x, y) = h.all (tail o s) (head o s) (s, t.0, (rim_iff o k s).1 (on a can), refl, refl) in
        thin_grown can (from_step h (j + 1)) (from_step_at h (j + 1) 0 ∙ ap h.at (omega arith) ∙ y)

    -- a peel and then more
    thin_then : (j : List ℕ) → Thins o (peel k s) j → Thins o k j
    thin_then j = thin_more o k (peel k s) j (λ p e. rim_grows a s p r t.0 t ∙ ap (λ b. b || eqb p (apex o s)) e) thin_peel

  -- all that comes after marks k
  turn_thins : (limit : ℕ) {n : ℕ} {k : List ℕ} (others : List ℕ → List ℕ) (b : Option ℕ) → Reached o n k → Top a k (sides o) b
      → ((s : ℕ) → Reached o (suc n) (peel k s) → Thins o (peel k s) (others (peel k s))) → Thins o k (turned o others limit k b)
  unfolding turned
  turn_thins limit {n} {k} others none r t ih = thin_none o k
  turn_thins limit {n} {k} others (some s) r (l, e, t) ih = step (ltb limit (long o s))
    where
      step : (b : Bool) → Thins o k (cond b (others (peel k s)) k)
      step true = thin_then r s (l, e, t) (others (peel k s)) (ih s (more s r l e))
      step false = thin_none o k

  peels_thin : (limit fuel : ℕ) {n : ℕ} {k : List ℕ} → Reached o n k → Thins o k (peels o fuel limit k)
  unfolding peels
  peels_thin limit zero {n} {k} r = thin_none o k
  peels_thin limit (suc fuel) {n} {k} r = turn_thins limit (peels o fuel limit) (best o k) r (best_top a k) (λ s x. peels_thin limit fuel x)

  -- peeling on from a limit's outline comes to that of a smaller limit
  pub drawn_thins : (small large : ℕ) → small ≤ large → Thins o (drawn o large) (drawn o small)
  drawn_thins small large below = let (n, r, e) = going_on a large small below in subst (λ k. Thins o (drawn o large) k) e (peels_thin small (triangles o - n) r)
