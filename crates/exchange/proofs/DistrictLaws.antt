-- The rings of a district's file one after another: their byte orders, their lengths, and how long their polygons are. Assumes nothing.
use Prim.Native.Nat.{ℕ, zero, suc, ◌+◌, ◌*◌, ◌<◌, ◌≤◌, suc-le-suc, zero-le}
use mathlib.Core.Path.{◌≡◌, refl, sym, ap, ◌∙◌}
use mathlib.Core.Logic.{◌↔◌}
use mathlib.Core.Bool.{true}
use mathlib.Core.List.{List, [], ◌∷◌, ◌++◌}
use native.Mathlib.Omega.{arith}
use native.Mathlib.Nat.{le_of_suc-le-suc}
use borrow.Author.Tests.{leb-true, le-leb}
use lib.ListN.{length, take, drop, get_or, replicate, length-append, length-drop, take-append-drop}
use lib.Seq.{length-take-le, take_at, drop_at}
use Rattle.laws.proofs.Test.{and_iff}
use Rattle.shape.specs.Bytes.{in_order}
use Rattle.shape.specs.Writing.{polygon, low}
use Rattle.shape.specs.Reading.{order_at, end}
use Rattle.shape.proofs.Lengths.{order_length, polygon_length}
use Rattle.exchange.specs.Districts.{polygons, district_head, district_file, total, rings, district_size, parts_end, ring_count}
use Rattle.exchange.specs.DistrictRefusals.{Rings}
use Rattle.exchange.proofs.Lows.{low_parts, low_more, low_none}

-- ---- byte orders

module _ (s : List ℕ) where
  -- the byte orders of k polygons one after another from a place on
  unfoldable pub part_orders : ℕ → ℕ → List ℕ
  part_orders zero at = []
  part_orders (suc k) at = order_at s at ∷ part_orders k (end s at)

  -- ... and of a file's
  abbrev pub district_orders : List ℕ
  district_orders = part_orders (ring_count s) 9

  pub all_little : (k at : ℕ) → ((i : ℕ) → i < k → order_at s (parts_end s i at) ≡ 1) → part_orders k at ≡ replicate k 1
  unfolding part_orders parts_end
  all_little zero at h = refl
  all_little (suc k) at h =
      ap (λ (o : ℕ). o ∷ part_orders k (end s at)) (h 0 (omega arith)) ∙ ap (λ (l : List ℕ). 1 ∷ l) (all_little k (end s at) (λ i l. h (suc i) (suc-le-suc l)))

  pub each_order : (k at i : ℕ) → i < k → get_or (part_orders k at) i 0 ≡ order_at s (parts_end s i at)
  unfolding part_orders parts_end
  each_order zero at i h = absurd (omega arith)
  each_order (suc k) at zero h = refl
  each_order (suc k) at (suc i) h = each_order k (end s at) i (le_of_suc-le-suc h)

-- ---- lists in two parts

pub low_both : (xs ys : List ℕ) → (low (xs ++ ys) ≡ true) ↔ ((low xs ≡ true) × (low ys ≡ true))
low_both [] ys = ((λ e. (low_none, e)), (λ h. h.1))
low_both (x ∷ xs) ys = (
  (λ e.
      let p = low_parts x (xs ++ ys) e in
      let q = (low_both xs ys).0 p.1 in
      (low_more x xs p.0 q.0, q.1)),
  (λ h.
      let p = low_parts x xs h.0 in
      low_more x (xs ++ ys) p.0 ((low_both xs ys).1 (p.1, h.1))),
)

pub low_split : (n : ℕ) (xs : List ℕ) → low xs ≡ true → (low (take n xs) ≡ true) × (low (drop n xs) ≡ true)
low_split n xs e = (low_both (take n xs) (drop n xs)).0 (ap low (take-append-drop n xs) ∙ e)

-- ---- each ring has 3 to 1,024 positions

pub rings_parts : (n : ℕ) (lengths : List ℕ) → rings (n ∷ lengths) ≡ true → (3 ≤ n) × (n ≤ 1024) × (rings lengths ≡ true)
rings_parts n lengths e =
    let t = and_iff.0 e in
    let b = and_iff.0 t.0 in
    (leb-true 3 n b.0, leb-true n 1024 b.1, t.1)

pub rings_more : (n : ℕ) (lengths : List ℕ) → 3 ≤ n → n ≤ 1024 → rings lengths ≡ true → rings (n ∷ lengths) ≡ true
rings_more n lengths lo hi e = and_iff.1 (and_iff.1 (le-leb 3 n lo, le-leb n 1024 hi), e)

pub rings_none : rings [] ≡ true
rings_none = refl

-- ... in plain logic
pub rings_exactly : (lengths : List ℕ) → (rings lengths ≡ true) ↔ Rings lengths
rings_exactly [] = ((λ e i h. absurd (omega arith)), (λ f. rings_none))
rings_exactly (n ∷ lengths) = (
  (λ e i h. let p = rings_parts n lengths e in each (p.0, p.1) ((rings_exactly lengths).0 p.2) i h),
  (λ f.
      let b = f 0 (suc-le-suc zero-le) in
      rings_more n lengths b.0 b.1 ((rings_exactly lengths).1 (λ i h. f (suc i) (suc-le-suc h)))),
)
  where
    each : (3 ≤ n) × (n ≤ 1024) → Rings lengths → (i : ℕ) → i < suc (length lengths) → (3 ≤ get_or (n ∷ lengths) i 0) × (get_or (n ∷ lengths) i 0 ≤ 1024)
    each h f zero l = h
    each h f (suc i) l = f i (le_of_suc-le-suc l)

-- ---- polygons one after another, in any byte orders

-- a ring before others
pub polygons_next : (order : ℕ) (orders : List ℕ) (n : ℕ) (lengths x y xs ys : List ℕ) → length x ≡ n → length y ≡ n
    → polygons (order ∷ orders) (n ∷ lengths) (x ++ xs) (y ++ ys) ≡ polygon order x y ++ polygons orders lengths xs ys
unfolding polygons
polygons_next order orders n lengths x y xs ys ex ey = rw (take_at x xs n ex, take_at y ys n ey, drop_at x xs n ex, drop_at y ys n ey)

pub polygons_length : (orders lengths xs ys : List ℕ) → length orders ≡ length lengths → total lengths ≤ length xs → total lengths ≤ length ys
    → length (polygons orders lengths xs ys) ≡ 29 * length lengths + 16 * total lengths
unfolding polygons total
polygons_length [] [] xs ys e h k = refl
polygons_length [] (n ∷ lengths) xs ys e h k = absurd (omega arith)
polygons_length (order ∷ orders) [] xs ys e h k = absurd (omega arith)
polygons_length (order ∷ orders) (n ∷ lengths) xs ys e h k =
    let x : length (take n xs) ≡ n = length-take-le n xs (omega arith) in
    let y : length (take n ys) ≡ n = length-take-le n ys (omega arith) in
    let f : length orders ≡ length lengths = omega arith in
    let rest = polygons_length orders lengths (drop n xs) (drop n ys) f (omega (arith, length-drop n xs)) (omega (arith, length-drop n ys)) in
    length-append (polygon order (take n xs) (take n ys)) (polygons orders lengths (drop n xs) (drop n ys))
    ∙ omega (arith, polygon_length order (take n xs) (take n ys) (x ∙ sym y), rest)

pub district_head_length : (order count : ℕ) → length (district_head order count) ≡ 9
district_head_length order count =
    ap suc (length-append (in_order order 4 6) (in_order order 4 count) ∙ omega (arith, order_length order 4 6, order_length order 4 count))

pub district_file_length : (order : ℕ) (orders lengths xs ys : List ℕ) → length orders ≡ length lengths → total lengths ≤ length xs → total lengths ≤ length ys
    → length (district_file order orders lengths xs ys) ≡ district_size lengths
district_file_length order orders lengths xs ys e h f =
    length-append (district_head order (length lengths)) (polygons orders lengths xs ys)
    ∙ omega (arith, district_head_length order (length lengths), polygons_length orders lengths xs ys e h f)
