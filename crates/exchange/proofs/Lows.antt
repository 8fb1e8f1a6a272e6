-- Lists of coordinates that are at most 16,383, and the numbers that stand in a block sixteen bytes apart. Assumes nothing.
use Prim.Native.Nat.{ℕ, zero, suc, ◌+◌, ◌*◌, ◌<◌, ◌≤◌, suc-le-suc, zero-le}
use mathlib.Core.Path.{◌≡◌, refl, sym, ap, ◌∙◌}
use mathlib.Core.Logic.{◌↔◌}
use mathlib.Core.Bool.{Bool, true, ◌&&◌}
use mathlib.Core.List.{List, [], ◌∷◌, ◌++◌}
use native.Mathlib.Omega.{arith}
use native.Mathlib.Nat.{le_of_suc-le-suc}
use borrow.Author.Tests.{le-leb, leb-true}
use lib.ListN.{length, take, get_or}
use lib.Seq.{take_at, get_or_at}
use Rattle.laws.proofs.Test.{and_iff}
use Rattle.shape.specs.Coordinates.{grid_at}
use Rattle.shape.specs.Writing.{around, low}
use Rattle.shape.specs.Reading.{row, grids}
use Rattle.shape.proofs.Scanned.{row_length}

-- ---- at most 16,383

pub low_parts : (x : ℕ) (xs : List ℕ) → low (x ∷ xs) ≡ true → (x ≤ 16383) × (low xs ≡ true)
low_parts x xs e = let t = and_iff.0 e in (leb-true x 16383 t.0, t.1)

pub low_more : (x : ℕ) (xs : List ℕ) → x ≤ 16383 → low xs ≡ true → low (x ∷ xs) ≡ true
low_more x xs h e = ap (λ (b : Bool). b && low xs) (le-leb x 16383 h) ∙ e

pub low_none : low [] ≡ true
low_none = refl

-- ... in plain logic
pub low_exactly : (xs : List ℕ) → (low xs ≡ true) ↔ ((i : ℕ) → i < length xs → get_or xs i 0 ≤ 16383)
low_exactly [] = ((λ e i h. absurd (omega arith)), (λ f. low_none))
low_exactly (x ∷ xs) = (
  (λ e i h. let p = low_parts x xs e in each p.0 ((low_exactly xs).0 p.1) i h),
  (λ f. low_more x xs (f 0 (suc-le-suc zero-le)) ((low_exactly xs).1 (λ i h. f (suc i) (suc-le-suc h)))),
)
  where
    each : x ≤ 16383 → ((i : ℕ) → i < length xs → get_or xs i 0 ≤ 16383) → (i : ℕ) → i < suc (length xs) → get_or (x ∷ xs) i 0 ≤ 16383
    each h f zero l = h
    each h f (suc i) l = f i (le_of_suc-le-suc l)

low_snoc : (x : List ℕ) (a : ℕ) → low x ≡ true → a ≤ 16383 → low (x ++ (a ∷ [])) ≡ true
low_snoc [] a e h = low_more a [] h low_none
low_snoc (b ∷ x) a e h =
    let p = low_parts b x e in
    low_more b (x ++ (a ∷ [])) p.0 (low_snoc x a p.1 h)

pub low_around : (x : List ℕ) → 1 ≤ length x → low x ≡ true → low (around x) ≡ true
low_around [] h e = absurd (omega arith)
low_around (a ∷ x) h e = low_snoc (a ∷ x) a e (low_parts a x e).0

pub low_front : (x : List ℕ) (a : ℕ) → low (x ++ (a ∷ [])) ≡ true → low x ≡ true
low_front [] a e = low_none
low_front (b ∷ x) a e =
    let p = low_parts b (x ++ (a ∷ [])) e in
    low_more b x p.0 (low_front x a p.1)

-- ---- numbers sixteen bytes apart

grids_last : (k order : ℕ) (s : List ℕ) (at : ℕ) → grids (k + 1) order s at ≡ grids k order s at ++ (grid_at order s (at + 16 * k) ∷ [])
unfolding row
grids_last zero order s at =
    let e : at ≡ at + 16 * 0 = omega arith in
    ap (λ (n : ℕ). grid_at order s n ∷ []) e
grids_last (suc k) order s at =
    let e : suc k + 1 ≡ suc (k + 1) = omega arith in
    let p : at + 16 + 16 * k ≡ at + 16 * suc k = omega arith in
    ap (λ (n : ℕ). grids n order s at) e ∙ ap (λ (l : List ℕ). grid_at order s at ∷ l) (grids_last k order s (at + 16) ∙ ap (λ (n : ℕ). grids k order s (at + 16) ++ (grid_at order s n ∷ [])) p)

grids_first : (k order : ℕ) (s : List ℕ) (at : ℕ) → 1 ≤ k → get_or (grids k order s at) 0 0 ≡ grid_at order s at
unfolding row
grids_first zero order s at h = absurd (omega arith)
grids_first (suc k) order s at h = refl

-- where the numbers from a place on are a list with its first repeated last, they are that list without it, and the first is the last
pub around_back : (n order : ℕ) (s : List ℕ) (at : ℕ) (x : List ℕ) → length x ≡ n → 1 ≤ n → grids (n + 1) order s at ≡ around x
    → (grids n order s at ≡ x) × (grid_at order s at ≡ grid_at order s (at + 16 * n))
around_back n order s at x e h g =
    let l : grids n order s at ++ (grid_at order s (at + 16 * n) ∷ []) ≡ x ++ (get_or x 0 0 ∷ []) = sym (grids_last n order s at) ∙ g in
    let front : grids n order s at ≡ x =
    sym (take_at (grids n order s at) (grid_at order s (at + 16 * n) ∷ []) n (row_length 16 (grid_at order s) n at)) ∙ ap (take n) l ∙ take_at x (get_or x 0 0 ∷ []) n e in
    let back : grid_at order s (at + 16 * n) ≡ get_or x 0 0 =
    sym (get_or_at (grids n order s at) (grid_at order s (at + 16 * n)) [] 0 n (row_length 16 (grid_at order s) n at)) ∙ ap (λ (k : List ℕ). get_or k n 0) l ∙ get_or_at x (get_or x 0 0) [] 0 n e in
    (front, sym (grids_first n order s at h) ∙ ap (λ (k : List ℕ). get_or k 0 0) front ∙ sym back)

-- the other way round: where the first is the last, all the numbers are those before it with the first repeated last
pub grids_around : (m order : ℕ) (s : List ℕ) (at : ℕ) → 1 ≤ m → grid_at order s at ≡ grid_at order s (at + 16 * m) → grids (m + 1) order s at ≡ around (grids m order s at)
grids_around m order s at h e =
    grids_last m order s at ∙ ap (λ (g : ℕ). grids m order s at ++ (g ∷ [])) (sym e ∙ sym (grids_first m order s at h))
