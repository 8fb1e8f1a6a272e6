-- The laws of keeping some numbers of a list. Assumes nothing.
use mathlib.Core.Path.{◌≡◌, refl, sym, ap, ap₂, subst, ◌∙◌}
use mathlib.Core.Bool.{Bool, true, false, cond}
use mathlib.Core.List.{List, [], ◌∷◌, ◌++◌}
use Prim.Native.Nat.{ℕ, zero, suc, ◌<◌, ◌≤◌, zero-le, suc-le-suc}
use native.Mathlib.Nat.{not-suc-le-zero}
use native.Mathlib.Omega.{arith}
use lib.Dec.{eqb}
use lib.ListN.{length, get_or, take, drop, length-take, length-drop}
use lib.Seq.{get_or-take, get_or-drop, take-append-le, drop-append-le}
use Rattle.laws.specs.First.{first, table}
use Rattle.laws.specs.Round.{rotated}
use Rattle.laws.proofs.Test.{false_iff}
use Rattle.peel.specs.Index.{keep, begin, thin}

pub keep_append : (test : ℕ → Bool) (ps qs : List ℕ) → keep test (ps ++ qs) ≡ keep test ps ++ keep test qs
unfolding keep
keep_append test [] qs = refl
keep_append test (p ∷ ps) qs = step (test p) (keep_append test ps qs)
  where
    step : (b : Bool) → keep test (ps ++ qs) ≡ keep test ps ++ keep test qs → cond b (p ∷ keep test (ps ++ qs)) (keep test (ps ++ qs)) ≡ cond b (p ∷ keep test ps) (keep test ps) ++ keep test qs
    step true ih = ap (λ (l : List ℕ). p ∷ l) ih
    step false ih = ih

-- a narrower test alone
pub keep_twice : (f g : ℕ → Bool) (ps : List ℕ) → ((p : ℕ) → f p ≡ true → g p ≡ true) → keep f (keep g ps) ≡ keep f ps
unfolding keep
keep_twice f g [] e = refl
keep_twice f g (p ∷ ps) e = step (g p) refl (f p) refl (keep_twice f g ps e)
  where
    step : (b : Bool) → g p ≡ b → (c : Bool) → f p ≡ c → keep f (keep g ps) ≡ keep f ps → keep f (cond b (p ∷ keep g ps) (keep g ps)) ≡ cond c (p ∷ keep f ps) (keep f ps)
    step true x true y ih = rw y (ap (λ (l : List ℕ). p ∷ l) ih)
    step true x false y ih = rw y ih
    step false x true y ih = absurd (false_iff.0 x (e p y))
    step false x false y ih = ih

-- all of a table
pub keep_table : (test : ℕ → Bool) (at : ℕ → ℕ) (m : ℕ) → ((i : ℕ) → test (at i) ≡ true) → keep test (table at m) ≡ table at m
unfolding keep table
keep_table test at zero e = refl
keep_table test at (suc m) e = rw (e zero) (ap (λ (l : List ℕ). at zero ∷ l) (keep_table test (λ i. at (suc i)) m (λ i. e (suc i))))

-- the first of a table stays the first
pub keep_head : (test : ℕ → Bool) (at : ℕ → ℕ) (m : ℕ) → 0 < m → test (at 0) ≡ true → get_or (keep test (table at m)) 0 0 ≡ at 0
unfolding keep table
keep_head test at zero l e = absurd (not-suc-le-zero l)
keep_head test at (suc m) l e = rw e

-- what is not kept can stand anywhere: here at the end, and the list turned
module _ (test : ℕ → Bool) (c : ℕ) (off : test c ≡ false) where
  end : (ps : List ℕ) → keep test (ps ++ c ∷ []) ≡ keep test ps
  unfolding keep
  end [] = rw off
  end (p ∷ ps) = ap (λ (l : List ℕ). cond (test p) (p ∷ l) l) (end ps)

  pub keep_rotated : (ps : List ℕ) (j : ℕ) → j ≤ length ps → keep test (rotated j (ps ++ c ∷ [])) ≡ keep test (rotated j ps)
  keep_rotated ps j l =
      keep_append test (drop j (ps ++ c ∷ [])) (take j (ps ++ c ∷ []))
      ∙ ap₂ ◌++◌ (ap (keep test) (drop-append-le j ps (c ∷ []) l) ∙ end (drop j ps)) (ap (keep test) (take-append-le j ps (c ∷ []) l))
      ∙ sym (keep_append test (drop j ps) (take j ps))

pub table_last : (at : ℕ → ℕ) (m : ℕ) → table at (suc m) ≡ table at m ++ at m ∷ []
unfolding table
table_last at zero = refl
table_last at (suc m) = ap (λ (l : List ℕ). at zero ∷ l) (table_last (λ i. at (suc i)) m)

-- ---- tests that agree on the numbers that come up
first_same : (f g : ℕ → Bool) (n : ℕ) → ((i : ℕ) → i < n → f i ≡ g i) → first f n ≡ first g n
unfolding first
first_same f g zero e = refl
first_same f g (suc n) e =
    ap₂ (λ (b : Bool) (r : ℕ). elim b as (λ _. ℕ) [ true ↦ zero | false ↦ suc r ]) (e zero (suc-le-suc zero-le)) (first_same (λ i. f (suc i)) (λ i. g (suc i)) n (λ i l. e (suc i) (suc-le-suc l)))

pub keep_within : (f g : ℕ → Bool) (ps : List ℕ) → ((i : ℕ) → i < length ps → f (get_or ps i 0) ≡ g (get_or ps i 0)) → keep f ps ≡ keep g ps
unfolding keep
keep_within f g [] e = refl
keep_within f g (p ∷ ps) e = ap₂ (λ (b : Bool) (l : List ℕ). cond b (p ∷ l) l) (e zero (suc-le-suc zero-le)) (keep_within f g ps (λ i l. e (suc i) (suc-le-suc l)))

pub thin_same : (f g : ℕ → Bool) (n : ℕ) (row : List ℕ) → ((p : ℕ) → p < n → f p ≡ g p) → ((i : ℕ) → i < length row → get_or row i 0 < n) → thin f n row ≡ thin g n row
unfolding thin
thin_same f g n row e low =
    let j = begin f n row in
    keep_append f (drop j row) (take j row)
    ∙ ap₂ ◌++◌
    (keep_within f g (drop j row) (λ i l. let z = length-drop j row in e _ (subst (λ p. p < n) (sym (get_or-drop j row i 0)) (low _ (omega arith)))))
    (keep_within f g (take j row) (λ i l. let z = length-take j row in e _ (subst (λ p. p < n) (sym (get_or-take j row i 0 (omega arith))) (low _ (omega arith)))))
    ∙ sym (keep_append g (drop j row) (take j row))
    ∙ ap (λ p. keep g (rotated (first (λ i. eqb (get_or row i 0) p) (length row)) row)) (first_same f g n e)
