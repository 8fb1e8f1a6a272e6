-- A loop that fills the front of a list by a rule and leaves the rest as it was. Assumes nothing.
use mathlib.Core.Path.{◌≡◌, refl, sym, ap, ap₂, ◌∙◌}
use mathlib.Core.List.{List, [], ◌∷◌, ◌++◌, map}
use Prim.Native.Nat.{ℕ, zero, suc, ◌+◌, ◌≤◌, ◌<◌}
use native.Mathlib.Omega.{arith}
use borrow.Author.Rules.{rules}
use lib.ListN.{length, get_or, set, drop, take-append-drop}
use lib.Seq.{drop-set-lt}
use Rattle.laws.specs.First.{table}
use Rattle.laws.proofs.Fill.{Filled, fills_none, fills_one, fills_front, length-table}

-- below i the list has the rule's values, and past n what stood there
pub record Filling (rule : ℕ → ℕ) (n size : ℕ) (old l : List ℕ) (i : ℕ) : Type 0 where
  pub filled : Filled rule n size l i
  pub rest : drop n l ≡ drop n old

module _ {rule : ℕ → ℕ} {n size : ℕ} {old : List ℕ} where
  pub filling_none : n ≤ size → length old ≡ size → Filling rule n size old old 0
  filling_none r e = record { filled = fills_none r e; rest = refl }

  pub filling_one : {l : List ℕ} {i v : ℕ} → Filling rule n size old l i → i < n → v ≡ rule i → Filling rule n size old (set l i v) (i + 1)
  filling_one {l} {i} {v} f b e = record { filled = fills_one f.filled b e; rest = drop-set-lt n l i v b ∙ f.rest }

  pub filling_all : {l : List ℕ} {i : ℕ} → Filling rule n size old l i → n ≤ i → l ≡ table rule n ++ drop n old
  filling_all {l} {i} f b = sym (take-append-drop n l) ∙ ap₂ ◌++◌ (fills_front f.filled b) f.rest

  -- the same by the length of what was filled
  pub filling_over : {l : List ℕ} {i : ℕ} → Filling rule n size old l i → n ≤ i → l ≡ table rule n ++ drop (length (table rule n)) old
  filling_over f b = filling_all f b ∙ ap (λ (k : ℕ). table rule n ++ drop k old) (sym (length-table rule n))

-- what answers the needs of such a loop
pub ruleset laying = (filling_none, filling_one, filling_all, filling_over, rules)

-- ---- tables

pub table_same : (f g : ℕ → ℕ) (n : ℕ) → ((i : ℕ) → i < n → f i ≡ g i) → table f n ≡ table g n
unfolding table
table_same f g zero h = refl
table_same f g (suc n) h = ap₂ (λ (a : ℕ) (l : List ℕ). a ∷ l) (h 0 (omega arith)) (table_same (λ i. f (suc i)) (λ i. g (suc i)) n (λ i b. h (suc i) (omega arith)))

-- a function of each number of a list, as a table
pub table-map : (f : ℕ → ℕ) (l : List ℕ) → table (λ i. f (get_or l i 0)) (length l) ≡ map f l
unfolding table
table-map f [] = refl
table-map f (a ∷ l) = ap (λ (r : List ℕ). f a ∷ r) (table-map f l)
