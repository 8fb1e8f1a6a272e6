-- Two rounds with the same steps are one round, begun at another place; and a round's list, turned. Assumes nothing.
use mathlib.Core.Path.{◌≡◌, refl, sym, ap, ◌∙◌}
use mathlib.Core.List.{List, ◌∷◌, map}
use Prim.Native.Nat.{ℕ, zero, suc, ◌+◌, ◌-◌, ◌<◌, ◌≤◌}
use native.Mathlib.Decide.{dec_lt}
use native.Mathlib.Omega.{arith}
use lib.ListN.{length, get_or, take, drop, length-append, length-take, length-drop, get_or-append}
use lib.Seq.{ext_get_or, get_or-append-add, get_or-drop, get_or-take}
use Rattle.laws.specs.First.{table}
use Rattle.laws.specs.Round.{Round, rotated}
use Rattle.laws.proofs.Order.{level}
use Rattle.laws.proofs.Round.{early, same_way}
use Rattle.laws.proofs.Fill.{length-table, get_or-table}

module _ {Step : ℕ → ℕ → Type 0} {m k : ℕ} (c : Round Step m) (r : Round Step k) where
  pub one_round : (j : ℕ) × (j < m) × ((i : ℕ) → r.at i ≡ c.at (j + i))
  one_round =
      let (x, e, _) = c.all (r.at 0) (r.at 1) (r.goes 0) in
      let (j, l, f, _) = early c x in
      (j, l, follow j (sym (f ∙ e)))
    where
      follow : (j : ℕ) → r.at 0 ≡ c.at j → (i : ℕ) → r.at i ≡ c.at (j + i)
      follow j e zero = e ∙ ap c.at (omega arith)
      follow j e (suc i) = step (c.all (r.at i) (r.at (i + 1)) (r.goes i)) (follow j e i)
        where
          step : ((x : ℕ) × (c.at x ≡ r.at i) × (c.at (x + 1) ≡ r.at (i + 1))) → r.at i ≡ c.at (j + i) → r.at (suc i) ≡ c.at (j + suc i)
          step (x, u, v) w = ap r.at (omega arith) ∙ sym v ∙ same_way c x (j + i) 1 (u ∙ w) ∙ ap c.at (omega arith)

  pub one_length : k ≡ m
  one_length =
      let (j, _, e) = one_round in
      level
      (λ l. c.apart j k r.long l (sym (e k) ∙ again ∙ e 0 ∙ ap c.at (omega arith)))
      (λ l. r.apart 0 m c.long l (e (0 + m) ∙ ap c.at (omega arith) ∙ c.back j ∙ ap c.at (omega arith) ∙ sym (e 0)))
    where
      again : r.at k ≡ r.at 0
      again = ap r.at (omega arith) ∙ r.back 0

pub map-table : (f at : ℕ → ℕ) (m : ℕ) → map f (table at m) ≡ table (λ i. f (at i)) m
unfolding table
map-table f at zero = refl
map-table f at (suc m) = ap (λ l. f (at zero) ∷ l) (map-table f (λ i. at (suc i)) m)

pub rotated-table : (at : ℕ → ℕ) (m j : ℕ) → j ≤ m → ((i : ℕ) → at (i + m) ≡ at i) → rotated j (table at m) ≡ table (λ i. at (j + i)) m
rotated-table at m j l back = ext_get_or 0 (rotated j T) (table (λ i. at (j + i)) m) (size ∙ sym (length-table (λ i. at (j + i)) m)) (λ i b. holds i (rw size at b) ∙ sym (get_or-table (λ i. at (j + i)) m i (rw size at b)))
  where
    T : List ℕ
    T = table at m

    T_size : length T ≡ m
    T_size = length-table at m

    front : length (drop j T) ≡ m - j
    front = length-drop j T ∙ ap (λ n. n - j) T_size

    size : length (rotated j T) ≡ m
    size = simp (length-append, length-drop, length-take, T_size) (omega arith)

    holds : (i : ℕ) → i < m → get_or (rotated j T) i 0 ≡ at (j + i)
    holds i b = elim (dec_lt i (m - j)) [
      | yes h ↦ get_or-append (drop j T) (take j T) 0 i (rw front h) ∙ get_or-drop j T i 0 ∙ get_or-table at m (j + i) (omega arith)
      | no f ↦ (let x = i - (m - j) in
          ap (λ i. get_or (rotated j T) i 0) (let z = front in omega arith)
          ∙ get_or-append-add (drop j T) (take j T) x 0
          ∙ get_or-take j T x 0 (omega arith)
          ∙ get_or-table at m x (omega arith)
          ∙ sym (back x)
          ∙ ap at (omega arith))
    ]

pub length-rotated : (j : ℕ) (l : List ℕ) → j ≤ length l → length (rotated j l) ≡ length l
length-rotated j l b = simp (length-append, length-drop, length-take) (omega arith)
