-- The writer of district files: rings' lengths one by one, and polygons put one after the other. Assumes nothing.
use Prim.Native.Nat.{ℕ, suc, ◌+◌, ◌*◌, ◌-◌, ◌<◌, ◌≤◌}
use mathlib.Core.Path.{◌≡◌, sym, ap, ◌∙◌}
use mathlib.Core.Bool.{Bool, true, false, not, ◌&&◌}
use mathlib.Core.List.{List, [], ◌∷◌, ◌++◌}
use native.Mathlib.Omega.{arith}
use borrow.Rule.Slice.PartMut.{mid_of, put_mid, mid_len}
use borrow.Author.Tests.{leb-true, eqb-true, not-false}
use lib.Dec.{leb, eqb}
use lib.ListN.{length, take, drop, get_or, replicate, length-drop}
use lib.Seq.{drop-cons, drop-drop, length-take-le, sets, length-sets}
use Rattle.std.specs.Prelude.{sum}
use Rattle.std.specs.List.{fold}
use Rattle.laws.proofs.Test.{and_iff}
use Rattle.laws.proofs.Put.{put_next, put_rest}
use Rattle.shape.specs.Answers.{must, Answer, asked}
use Rattle.shape.specs.Writing.{polygon, low, size}
use Rattle.shape.proofs.Asking.{passes_call, passes_same}
use Rattle.shape.proofs.Lengths.{polygon_length}
use Rattle.exchange.specs.Districts.{polygons, district_head, district, total, rings, district_size, district_writing}
use Rattle.exchange.proofs.DistrictLaws.{rings_parts, district_head_length}

-- ---- the lengths from the i-th on

-- the library's sum
total_from : (lengths : List ℕ) (n : ℕ) → fold ◌+◌ n lengths ≡ n + total lengths
unfolding total
total_from [] n = omega arith
total_from (m ∷ lengths) n = total_from lengths (n + m) ∙ omega arith

pub total_is : (lengths : List ℕ) → sum lengths ≡ total lengths
total_is lengths = total_from lengths 0 ∙ omega arith

module _ (lengths : List ℕ) (i : ℕ) where
  pub total_step : i < length lengths → total (drop i lengths) ≡ get_or lengths i 0 + total (drop (i + 1) lengths)
  unfolding total
  total_step h =
      let e : i + 1 ≡ suc i = omega arith in
      rw (drop-cons lengths i 0 h, e)

  -- where all are rings' lengths, so is the i-th, and so are those after it
  pub rings_next : i < length lengths → rings (drop i lengths) ≡ true → (3 ≤ get_or lengths i 0) × (get_or lengths i 0 ≤ 1024) × (rings (drop (i + 1) lengths) ≡ true)
  rings_next h e =
      let s : suc i ≡ i + 1 = omega arith in
      rings_parts (get_or lengths i 0) (drop (i + 1) lengths) (ap (λ (k : ℕ). rings (get_or lengths i 0 ∷ drop k lengths)) (sym s) ∙ ap rings (sym (drop-cons lengths i 0 h)) ∙ e)

-- ---- polygons put one after the other

-- what is left to put from the i-th ring on, whose positions begin at a place of the lists
abbrev pub left : List ℕ → List ℕ → List ℕ → ℕ → ℕ → List ℕ
left lengths xs ys i from = polygons (replicate (length lengths - i) 1) (drop i lengths) (drop from xs) (drop from ys)

module _ (lengths xs ys : List ℕ) (i from : ℕ) where
  left_step : i < length lengths
      → left lengths xs ys i from ≡ polygon 1 (take (get_or lengths i 0) (drop from xs)) (take (get_or lengths i 0) (drop from ys)) ++ left lengths xs ys (i + 1) (from + get_or lengths i 0)
  unfolding polygons
  left_step h =
      let n : ℕ = get_or lengths i 0 in
      let e : length lengths - i ≡ suc (length lengths - (i + 1)) = omega arith in
      let s : suc i ≡ i + 1 = omega arith in
      rw (e, drop-cons lengths i 0 h, drop-drop n from xs, drop-drop n from ys, s)

  pub left_end : length lengths ≤ i → left lengths xs ys i from ≡ []
  unfolding polygons
  left_end h =
      let e : length lengths - i ≡ 0 = omega arith in
      rw e

  -- what the lists and an output of so many bytes hold, where `at` is the next to write
  pub record Holds (room at : ℕ) : Type 0 where
    pub within : i ≤ length lengths
    pub sized : rings (drop i lengths) ≡ true
    pub xs_left : from + total (drop i lengths) ≡ length xs
    pub ys_left : from + total (drop i lengths) ≡ length ys
    pub fits : at + (29 * (length lengths - i) + 16 * total (drop i lengths)) ≤ room

  -- a turn of the loop: the ring's positions are a part of each list, and its polygon is put into the rest of the output from `at` on
  module _ (out part : List ℕ) (at n : ℕ) (is : n ≡ get_or lengths i 0) where
    pub polygons_step : i < length lengths → from + n ≤ length xs → from + n ≤ length ys → at ≤ length out
        → part ≡ sets (mid_of at (length out - at) out) 0 (polygon 1 (mid_of from (from + n - from) xs) (mid_of from (from + n - from) ys))
        → sets (put_mid at (length out - at) out part) (at + (29 + 16 * n)) (left lengths xs ys (i + 1) (from + n)) ≡ sets out at (left lengths xs ys i from)
    polygons_step h x y a p =
        let px : List ℕ = take n (drop from xs) in
        let py : List ℕ = take n (drop from ys) in
        let e : from + n - from ≡ n = omega arith in
        let lx : length px ≡ n = length-take-le n (drop from xs) (omega (arith, length-drop from xs)) in
        let ly : length py ≡ n = length-take-le n (drop from ys) (omega (arith, length-drop from ys)) in
        let long : length (polygon 1 px py) ≡ 29 + 16 * n = omega (arith, polygon_length 1 px py (lx ∙ sym ly)) in
        let put : put_mid at (length out - at) out part ≡ sets out at (polygon 1 px py) =
        ap (put_mid at (length out - at) out) (p ∙ ap (λ (k : ℕ). sets (mid_of at (length out - at) out) 0 (polygon 1 (mid_of from k xs) (mid_of from k ys))) e)
        ∙ put_rest at out (polygon 1 px py) a in
        ap (λ (o : List ℕ). sets o (at + (29 + 16 * n)) (left lengths xs ys (i + 1) (from + n))) put
        ∙ put_next out (polygon 1 px py) (left lengths xs ys (i + 1) (from + n)) at (29 + 16 * n) long
        ∙ ap (sets out at) (sym (left_step h ∙ ap (λ (k : ℕ). polygon 1 (take k (drop from xs)) (take k (drop from ys)) ++ left lengths xs ys (i + 1) (from + k)) (sym is)))

-- before a turn of the loop: the ring, of n positions, is there and has its room; and what is so after it
pub record Turn (lengths xs ys : List ℕ) (i from room at n : ℕ) : Type 0 where
  pub least : 3 ≤ n
  pub most : n ≤ 1024
  pub within_xs : from + n ≤ length xs
  pub within_ys : from + n ≤ length ys
  pub room_left : at + (29 + 16 * n) ≤ room
  pub after : Holds lengths xs ys (i + 1) (from + n) room (at + (29 + 16 * n))

pub turn : {lengths xs ys : List ℕ} {i from room at n : ℕ} → n ≡ get_or lengths i 0 → i < length lengths → Holds lengths xs ys i from room at → Turn lengths xs ys i from room at n
turn {lengths} {xs} {ys} {i} {from} {room} {at} {n} is h s =
    let r = rings_next lengths i h s.sized in
    let t = total_step lengths i h in
    let least : 3 ≤ n = omega (arith, r.0) in
    let most : n ≤ 1024 = omega (arith, r.1) in
    record {
      least = least;
      most = most;
      within_xs = omega arith;
      within_ys = omega arith;
      room_left = omega arith;
      after = record { within = omega arith; sized = r.2; xs_left = omega arith; ys_left = omega arith; fits = omega arith };
    }

-- the parts of the lists and of the output that the ring's polygon is put with are as long as its writer asks
pub lent : {lengths xs ys : List ℕ} {i from room at n : ℕ} (out : List ℕ) → length out ≡ room → Turn lengths xs ys i from room at n
    → ((1 ≤ length (mid_of from (from + n - from) xs)) × (length (mid_of from (from + n - from) xs) ≤ 1024))
    × ((length (mid_of from (from + n - from) xs) ≡ length (mid_of from (from + n - from) ys))
    × (size (length (mid_of from (from + n - from) xs)) ≤ length (mid_of at (length out - at) out)))
lent {lengths} {xs} {ys} {i} {from} {room} {at} {n} out same h =
    let x : length (mid_of from (from + n - from) xs) ≡ n = mid_len from (from + n) xs h.within_xs ∙ omega arith in
    let y : length (mid_of from (from + n - from) ys) ≡ n = mid_len from (from + n) ys h.within_ys ∙ omega arith in
    let o : length (mid_of at (length out - at) out) ≡ length out - at = mid_len at (length out) out (omega arith) in
    ((omega (arith, h.least), omega (arith, h.most)), (x ∙ sym y, omega (arith, h.room_left)))

-- the head, and then the polygons in the part from byte 9 on
pub put_district : (lengths xs ys out o part : List ℕ) → 9 ≤ length out
    → o ≡ sets out 0 (district_head 1 (length lengths))
    → part ≡ sets (mid_of 9 (length o - 9) o) 0 (polygons (replicate (length lengths) 1) lengths xs ys)
    → put_mid 9 (length o - 9) o part ≡ sets out 0 (district lengths xs ys)
put_district lengths xs ys out o part h p q =
    let k : ℕ = length lengths in
    let ps : List ℕ = polygons (replicate k 1) lengths xs ys in
    let same : length o ≡ length out = ap length p ∙ length-sets out 0 (district_head 1 k) in
    ap (put_mid 9 (length o - 9) o) q
    ∙ put_rest 9 o ps (omega arith)
    ∙ ap (λ (l : List ℕ). sets l 9 ps) p
    ∙ put_next out (district_head 1 k) ps 0 9 (district_head_length 1 k)

-- ---- rings that the writer takes

-- at most 32 rings, which the lists hold and nothing besides; and the writer's answer is that of its last two questions
pub record Joined (lengths xs ys : List ℕ) : Type 0 where
  pub few : length lengths ≤ 32
  pub sized : rings lengths ≡ true
  pub all_xs : total lengths ≡ length xs
  pub all_ys : total lengths ≡ length ys
  pub most : total lengths ≤ 1024 * length lengths
  pub passed : {x : Answer ℕ} (room : ℕ) → x ≡ asked (must (low xs && low ys) 31 0 ∷ must (leb (district_size lengths) room) 32 0 ∷ []) (district_size lengths)
      → x ≡ district_writing xs ys lengths room

rings_most : (lengths : List ℕ) → rings lengths ≡ true → total lengths ≤ 1024 * length lengths
unfolding total
rings_most [] e = omega arith
rings_most (n ∷ lengths) e =
    let r = rings_next (n ∷ lengths) 0 (omega arith) e in
    omega (arith, rings_most lengths r.2)

pub few_are : {r : Bool} (n : ℕ) → r ≡ (leb 1 n && leb n 32) → not r ≡ false → n ≤ 32
few_are {r} n is e = leb-true n 32 ((and_iff {a = leb 1 n}).0 (sym is ∙ not-false r e)).1

-- what the tests of the count, the sum and the lengths say: r, t and q are their answers
pub joined : {r q : Bool} {t : ℕ} (lengths xs ys : List ℕ) → r ≡ (leb 1 (length lengths) && leb (length lengths) 32) → not r ≡ false → t ≡ total lengths → t ≡ length xs
    → q ≡ (eqb (length xs) (length ys) && rings lengths) → not q ≡ false → Joined lengths xs ys
joined {r} {q} {t} lengths xs ys c ce s se d de =
    let all = and_iff.0 (sym d ∙ not-false q de) in
    let same = eqb-true (length xs) (length ys) all.0 in
    record {
      few = few_are (length lengths) c ce;
      sized = all.1;
      all_xs = omega arith;
      all_ys = omega arith;
      most = rings_most lengths all.1;
      passed = λ room e. passes_call _ 35 0 _ _ c ce (passes_same _ _ 36 0 _ _ s se (passes_call _ 30 0 _ _ d de e));
    }
