-- Before the first peel: the sum of all areas, the marks of the rim, the whole state. Assumes nothing.
use mathlib.Core.Path.{◌≡◌, refl, sym, ap, subst, ◌∙◌}
use mathlib.Core.Bool.{Bool, true, false, ◌&&◌, ◌||◌}
use mathlib.Core.Logic.{inl, inr}
use mathlib.Core.List.{List, ◌++◌}
use Prim.Native.Nat.{ℕ, suc, ◌+◌, ◌/◌, ◌%◌, ◌<◌, ◌≤◌}
use native.Mathlib.Decide.{ℕ_discrete}
use native.Mathlib.Omega.{arith}
use lib.Dec.{eqb}
use lib.IntN.{nat_abs}
use lib.ListN.{length, get_or, set, take, drop, replicate, length-set, length-replicate, get_or-replicate, length-append, length-drop, get_or-append}
use lib.Seq.{length-take-le, take_at, drop_at, get_or-set_same, get_or-set_other, drop-set-lt}
use borrow.Author.Tests.{eq-eqb, ne_eqb}
use Rattle.laws.specs.First.{any, sum, table}
use Rattle.laws.proofs.Test.{and_iff, or_iff, false_iff}
use Rattle.laws.proofs.More.{any_more, sum_last, sum_below}
use Rattle.sheet.specs.Office.{Office, triangles, tail, head, area, next, rims as hull_sides, office, bare, mate_of}
use Rattle.sheet.proofs.Side.{next_below}
use Rattle.sheet.specs.Acceptable.{Acceptable}
use Rattle.rim.specs.Peel.{mark, rim, on_rim, whole, doubled, rims}
use Rattle.rim.specs.Reached.{Reached, begun}
use Rattle.rim.specs.Code.{front, State, ends_marked, Marked}
use Rattle.sheet.specs.Code.{Numbered}
use Rattle.rim.proofs.Reached.{sound}
use Rattle.rim.proofs.Greatest.{whole_sum, doubled_bound}
use Rattle.rim.proofs.Rings.{rims_are}

-- the areas of t triangles
pub record Summed (o : Office) (t total : ℕ) : Type 0 where
  pub within : t ≤ triangles o
  pub is : total ≡ sum (λ i. nat_abs (area o i)) t

pub sums_none : (o : Office) → Summed o 0 0
unfolding sum
sums_none o = record { within = omega arith; is = refl }

pub sums_one : {o : Office} {t total v : ℕ} → Summed o t total → t < triangles o → v ≡ nat_abs (area o t) → Summed o (t + 1) (total + v)
sums_one {o} {t} {total} {v} h l e = record {
  within = omega arith;
  is = (let w = sum_last (λ i. nat_abs (area o i)) t in let u = h.is in let z : total + v ≡ sum (λ i. nat_abs (area o i)) (suc t) = omega arith in z) ∙ ap (sum (λ i. nat_abs (area o i))) (omega arith);
}

-- none is greater than the whole
pub sum_fits : {o : Office} {t total : ℕ} → Acceptable o → Summed o t total → total ≤ 536805378
sum_fits {o} {t} a h = let w = sum_below (λ i. nat_abs (area o i)) t (triangles o) h.within in omega (arith, h.is, whole_sum o, doubled_bound a begun)

pub summed : {o : Office} {t total : ℕ} → Summed o t total → triangles o ≤ t → total ≡ doubled o (whole o)
summed {o} {t} h l = h.is ∙ ap (sum (λ i. nat_abs (area o i))) (let w = h.within in omega arith) ∙ sym (whole_sum o)

-- the marks of n points, after the sides below s
pub record Marking (corners k : List ℕ) (n : ℕ) (before marks : List ℕ) (s : ℕ) : Type 0 where
  pub within : s ≤ length corners
  pub room : n ≤ length marks
  pub so_far : (p : ℕ) → p < n → get_or marks p 0 ≡ mark (any (λ r. (eqb (tail (bare corners) r) p || eqb (head (bare corners) r) p) && rim (bare corners) k r) s)
  pub rest : drop n marks ≡ drop n before
  pub long : length marks ≡ length before

-- the front written, and the rest as it was
pub filled_is : (n v : ℕ) (entry part : List ℕ) → n ≤ length entry → part ≡ replicate (length (take n entry)) v → part ++ drop n entry ≡ replicate n v ++ drop n entry
filled_is n v entry part l e = ap (λ f. f ++ drop n entry) (e ∙ ap (λ m. replicate m v) (length-take-le n entry l))

pub filled_long : (n v : ℕ) (entry marks : List ℕ) → n ≤ length entry → marks ≡ replicate n v ++ drop n entry → length marks ≡ length entry
filled_long n v entry marks l e = ap length e ∙ simp (length-append, length-replicate, length-drop) (omega arith)

pub filled_rest : (n v : ℕ) (entry marks : List ℕ) → marks ≡ replicate n v ++ drop n entry → drop n marks ≡ drop n entry
filled_rest n v entry marks e = ap (drop n) e ∙ drop_at (replicate n v) (drop n entry) n (length-replicate n v)

pub filled_front : (n v : ℕ) (entry marks : List ℕ) → marks ≡ replicate n v ++ drop n entry → take n marks ≡ replicate n v
filled_front n v entry marks e = ap (take n) e ∙ take_at (replicate n v) (drop n entry) n (length-replicate n v)

filled_at : (n v : ℕ) (entry marks : List ℕ) → marks ≡ replicate n v ++ drop n entry → (p : ℕ) → p < n → get_or marks p 0 ≡ v
filled_at n v entry marks e p b = ap (λ m. get_or m p 0) e ∙ get_or-append (replicate n v) (drop n entry) 0 p (rw (length-replicate n v) b) ∙ get_or-replicate n p v 0 b

module _ (corners k : List ℕ) (n : ℕ) (before marks : List ℕ) (s : ℕ) (whole : length corners % 3 ≡ 0) (numbered : Numbered corners n) (h : Marking corners k n before marks s) (l : s < length corners) where
  abbrev t : ℕ
  t = get_or corners s 0

  abbrev u : ℕ
  u = get_or corners (next s) 0

  tl : t < n
  tl = numbered s l

  ul : u < n
  ul = numbered (next s) (next_below (length corners) s whole l)

  abbrev seen : ℕ → ℕ → Bool
  seen p r = (eqb (tail (bare corners) r) p || eqb (head (bare corners) r) p) && rim (bare corners) k r

  grows : (p : ℕ) (b : Bool) → seen p s ≡ b → (m : ℕ) → m ≡ mark (any (seen p) s || b) → m ≡ mark (any (seen p) (s + 1))
  grows p b f m g = g ∙ ap (λ x. mark (any (seen p) s || x)) (sym f) ∙ ap mark (sym (any_more (seen p) s))

  with_true : (b : Bool) → (b || true) ≡ true
  with_true true = refl
  with_true false = refl

  with_false : (b : Bool) → (b || false) ≡ b
  with_false true = refl
  with_false false = refl

  pub marks_one : (marks' : List ℕ) → marks' ≡ ends_marked corners s (rim (bare corners) k s) marks → Marking corners k n before marks' (s + 1)
  marks_one marks' e = step (rim (bare corners) k s) refl e
    where
      step : (b : Bool) → rim (bare corners) k s ≡ b → marks' ≡ ends_marked corners s b marks → Marking corners k n before marks' (s + 1)
      step true f e = record {
        within = omega arith;
        room = (let z = length_is in let r = h.room in omega arith);
        so_far = λ p b. at p b (ℕ_discrete p u) (ℕ_discrete p t);
        rest = ap (drop n) e ∙ drop-set-lt n (set marks t 1) u 1 ul ∙ drop-set-lt n marks t 1 tl ∙ h.rest;
        long = length_is ∙ h.long;
      }
        where
          length_is : length marks' ≡ length marks
          length_is = ap length e ∙ length-set (set marks t 1) u 1 ∙ length-set marks t 1

          marked : (p : ℕ) → (seen p s ≡ true) → get_or marks' p 0 ≡ 1 → get_or marks' p 0 ≡ mark (any (seen p) (s + 1))
          marked p f g = grows p true f (get_or marks' p 0) (g ∙ ap mark (sym (with_true (any (seen p) s))))

          at : (p : ℕ) → p < n → Dec (p ≡ u) → Dec (p ≡ t) → get_or marks' p 0 ≡ mark (any (seen p) (s + 1))
          at p b (yes z) _ = marked p (and_iff.1 ((or_iff {a = eqb t p}).1 (inr (eq-eqb u p (sym z))), f)) (ap (λ m. get_or m p 0) e ∙ ap (λ i. get_or (set (set marks t 1) u 1) i 0) z ∙ get_or-set_same (set marks t 1) u 1 0 (rw (length-set marks t 1) (let r = h.room in let w = ul in omega arith)))
          at p b (no z) (yes y) = marked p (and_iff.1 ((or_iff {a = eqb t p}).1 (inl (eq-eqb t p (sym y))), f)) (ap (λ m. get_or m p 0) e ∙ get_or-set_other (set marks t 1) u p 1 0 z ∙ ap (λ i. get_or (set marks t 1) i 0) y ∙ get_or-set_same marks t 1 0 (let r = h.room in let w = tl in omega arith))
          at p b (no z) (no y) = grows p false (ap (λ x. (x || eqb u p) && rim (bare corners) k s) (ne_eqb t p (λ w. y (sym w))) ∙ ap (λ x. x && rim (bare corners) k s) (ne_eqb u p (λ w. z (sym w)))) (get_or marks' p 0)
              (ap (λ m. get_or m p 0) e ∙ get_or-set_other (set marks t 1) u p 1 0 z ∙ get_or-set_other marks t p 1 0 y ∙ h.so_far p b ∙ ap mark (sym (with_false (any (seen p) s))))
      step false f e = record {
        within = omega arith;
        room = (let z = ap length e in let r = h.room in omega arith);
        so_far = λ p b. grows p false (false_iff.1 (λ x. false_iff.0 f ((and_iff {a = eqb t p || eqb u p}).0 x).1)) (get_or marks' p 0) (ap (λ m. get_or m p 0) e ∙ h.so_far p b ∙ ap mark (sym (with_false (any (seen p) s))));
        rest = ap (drop n) e ∙ h.rest;
        long = ap length e ∙ h.long;
      }

pub marks_all : (corners k : List ℕ) (n : ℕ) (entry before marks : List ℕ) (s : ℕ) → n ≤ length entry → before ≡ replicate n 0 ++ drop n entry
    → Marking corners k n before marks s → length corners ≤ s → Marked corners k n entry marks
unfolding on_rim
marks_all corners k n entry before marks s b e h l = record {
  on = λ p b. h.so_far p b ∙ ap (λ i. mark (any (λ r. (eqb (tail (bare corners) r) p || eqb (head (bare corners) r) p) && rim (bare corners) k r) i)) is_all;
  rest = h.rest ∙ filled_rest n 0 entry before e;
  long = h.long ∙ filled_long n 0 entry before b e;
}
  where
    is_all : s ≡ length corners
    is_all = let w = h.within in omega arith

-- the rim goes by the corners alone
on_rim_bare : (xs ys corners k : List ℕ) (p : ℕ) → on_rim (bare corners) k p ≡ on_rim (office xs ys corners) k p
unfolding on_rim rim
on_rim_bare xs ys corners k p = refl

-- the state before the first peel
module _ (xs ys corners mate : List ℕ) (a : Acceptable (office xs ys corners)) (mates : take (length corners) mate ≡ table (mate_of corners) (length corners)) where
  pub fresh : (entry kept before rim : List ℕ) {peeled area ring : ℕ} → length corners / 3 ≤ length entry → length xs ≤ length before
      → kept ≡ replicate (length corners / 3) 1 ++ drop (length corners / 3) entry
      → Marked corners (front corners kept) (length xs) before rim
      → peeled ≡ 0 → area ≡ doubled (office xs ys corners) (whole (office xs ys corners)) → ring ≡ hull_sides (office xs ys corners)
      → State (office xs ys corners) mate kept rim peeled area ring
  fresh entry kept before rim {ring = ring} room places e m p z r =
      let f : front corners kept ≡ whole (office xs ys corners) = filled_front (length corners / 3) 1 entry kept e in
      record {
        held = record {
          acceptable = a;
          mates = mates;
          room = (let w = filled_long (length corners / 3) 1 entry kept room e in omega arith);
          places = (let w = m.long in omega arith);
          on = λ q l. m.on q l ∙ ap mark (on_rim_bare xs ys corners (front corners kept) q);
        };
        reached = subst (λ n. Reached (office xs ys corners) n (front corners kept)) (sym p) (subst (Reached (office xs ys corners) 0) (sym f) begun);
        areas = z ∙ ap (doubled (office xs ys corners)) (sym f);
        rings = (let w = rims_are a (sound (office xs ys corners) a begun) in let v : ring ≡ rims (office xs ys corners) (whole (office xs ys corners)) = omega arith in v) ∙ ap (rims (office xs ys corners)) (sym f);
      }
