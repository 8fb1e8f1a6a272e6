-- The office that numbers say. Assumes nothing.
use Prim.Native.Nat.{ℕ, ◌+◌, ◌-◌, ◌*◌, ◌/◌, ◌≤◌, ◌<◌}
use mathlib.Core.Path.{◌≡◌, sym, ap, ◌∙◌}
use mathlib.Core.List.{List}
use native.Mathlib.Omega.{arith}
use borrow.Author.Tests.{le-leb}
use lib.ListN.{length, get_or, take, drop, length-drop}
use lib.Seq.{get_or-take, get_or-drop, length-take-le, take_all, ext_get_or}
use Rattle.laws.specs.First.{table}
use Rattle.laws.proofs.Fill.{length-table, get_or-table}
use Rattle.laws.proofs.Front.{table_same}
use Rattle.listing.specs.Text.{numbers}
use Rattle.listing.specs.Code.{scanned}
use Rattle.listing.proofs.Words.{scan_words}

module _ (text : List ℕ) where
  pub numbers_scan : length text ≤ 65536 → numbers text ≡ scanned 0 0 text
  numbers_scan h = rw (le-leb (length text) 65536 h, ← scan_words text)

-- what follows the two counts: the points' coordinates, and the corners
module _ (ns : List ℕ) (n : ℕ) (h : 2 + 2 * n ≤ length ns) where
  abbrev pub rest : List ℕ
  rest = take (length ns - 2) (drop 2 ns)

  abbrev pub coordinates : List ℕ
  coordinates = take (2 * n) rest

  at_rest : (j : ℕ) → get_or rest j 0 ≡ get_or ns (2 + j) 0
  at_rest j = ap (λ (l : List ℕ). get_or l j 0) (take_all (length ns - 2) (drop 2 ns) (omega (arith, length-drop 2 ns))) ∙ get_or-drop 2 ns j 0

  twice : length coordinates / 2 ≡ n
  twice = let l : length coordinates ≡ 2 * n = length-take-le (2 * n) rest (omega (arith, length-take-le (length ns - 2) (drop 2 ns) (omega (arith, length-drop 2 ns)))) in omega arith

  axis : (from to : ℕ → ℕ) → ((i : ℕ) → i < n → (from i < 2 * n) × (2 + from i ≡ to i))
      → table (λ i. get_or coordinates (from i) 0) (length coordinates / 2) ≡ table (λ i. get_or ns (to i) 0) n
  axis from to f =
      ap (table (λ i. get_or coordinates (from i) 0)) twice
      ∙ table_same (λ i. get_or coordinates (from i) 0) (λ i. get_or ns (to i) 0) n
      (λ i b. get_or-take (2 * n) rest (from i) 0 (f i b).0 ∙ at_rest (from i) ∙ ap (λ (k : ℕ). get_or ns k 0) (f i b).1)

  pub across : table (λ i. get_or coordinates (2 * i) 0) (length coordinates / 2) ≡ table (λ i. get_or ns (2 + 2 * i) 0) n
  across = axis (λ i. 2 * i) (λ i. 2 + 2 * i) (λ i b. (omega arith, omega arith))

  pub up : table (λ i. get_or coordinates (2 * i + 1) 0) (length coordinates / 2) ≡ table (λ i. get_or ns (3 + 2 * i) 0) n
  up = axis (λ i. 2 * i + 1) (λ i. 3 + 2 * i) (λ i b. (omega arith, omega arith))

  pub round : (s : ℕ) → length ns ≡ 2 + 2 * n + s → drop (2 * n) rest ≡ table (λ i. get_or ns (2 + 2 * n + i) 0) s
  round s e =
      let l : length rest ≡ 2 * n + s = length-take-le (length ns - 2) (drop 2 ns) (omega (arith, length-drop 2 ns)) ∙ (omega (arith, length-drop 2 ns)) in
      let k : length (drop (2 * n) rest) ≡ s = omega (arith, length-drop (2 * n) rest) in
      ext_get_or 0 (drop (2 * n) rest) (table (λ i. get_or ns (2 + 2 * n + i) 0) s) (k ∙ sym (length-table (λ i. get_or ns (2 + 2 * n + i) 0) s))
      (λ i b. get_or-drop (2 * n) rest i 0 ∙ at_rest (2 * n + i) ∙ ap (λ (k : ℕ). get_or ns k 0) (omega arith) ∙ sym (get_or-table (λ i. get_or ns (2 + 2 * n + i) 0) s i (omega arith)))
