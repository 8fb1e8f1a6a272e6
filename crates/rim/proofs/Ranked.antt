-- The order of sides in one number. Assumes nothing.
use mathlib.Core.Path.{◌≡◌, sym, ap, ap₂, subst, ◌∙◌}
use mathlib.Core.Logic.{◌↔◌, inl, inr}
use mathlib.Core.Bool.{Bool, true, false, cond}
use Prim.Native.Nat.{ℕ, min, max, ◌+◌, ◌*◌, ◌-◌, ◌/◌, ◌<◌, ◌≤◌}
use native.Mathlib.Decide.{dec_lt}
use native.Mathlib.Omega.{arith}
use lib.Dec.{ltb}
use borrow.Author.Tests.{lt-ltb, le-ltb}
use Rattle.laws.proofs.Test.{false_iff, same_answer, ltb_iff}
use Rattle.laws.proofs.Order.{Lex, lex_iff}
use Rattle.sheet.specs.Plane.{Point, Small}
use Rattle.sheet.specs.Office.{Office, sides, point, tail, head, next}
use Rattle.sheet.specs.Acceptable.{Acceptable}
use Rattle.sheet.proofs.Side.{next_below}
use Rattle.sheet.proofs.Length.{squared_bound}
use Rattle.rim.specs.Peel.{sooner, long, first_end, second_end}
use Rattle.rim.specs.Heap.{packed, key, rank}
use Rattle.rim.proofs.TopSide.{Precedes, Before}

through : {X Y Z : Type 0} → X ↔ Y → Y ↔ Z → X ↔ Z
through f g = ((λ x. g.0 (f.0 x)), (λ z. f.1 (g.1 z)))

under : {a b : ℕ} {X Y : Type 0} → X ↔ Y → Lex a b X ↔ Lex a b Y
under {a} {b} {X} {Y} f = (into, out)
  where
    into : Lex a b X → Lex a b Y
    into (inl l) = inl l
    into (inr (e, x)) = inr (e, f.0 x)

    out : Lex a b Y → Lex a b X
    out (inl l) = inl l
    out (inr (e, y)) = inr (e, f.1 y)

-- a smaller coordinate leaves more of the grid
flip : {a c : ℕ} {X Y : Type 0} → a ≤ 16383 → c ≤ 16383 → X ↔ Y → Lex a c X ↔ Lex (16383 - c) (16383 - a) Y
flip {a} {c} {X} {Y} p q f = (into, out)
  where
    into : Lex a c X → Lex (16383 - c) (16383 - a) Y
    into (inl l) = inl (omega arith)
    into (inr (e, x)) = inr (omega arith, f.0 x)

    out : Lex (16383 - c) (16383 - a) Y → Lex a c X
    out (inl l) = inl (omega arith)
    out (inr (e, y)) = inr (omega arith, f.1 y)

flip_last : {a c : ℕ} → a ≤ 16383 → c ≤ 16383 → (a < c) ↔ (16383 - c < 16383 - a)
flip_last p q = ((λ l. omega arith), (λ l. omega arith))

-- two numbers in order, with a digit of 14 bits each, in one
fuse : {y x v u : ℕ} {X : Type 0} → v ≤ 16383 → u ≤ 16383 → Lex y x (Lex v u X) ↔ Lex (y * 16384 + v) (x * 16384 + u) X
fuse {y} {x} {v} {u} {X} p q = (into, out)
  where
    into : Lex y x (Lex v u X) → Lex (y * 16384 + v) (x * 16384 + u) X
    into (inl l) = inl (omega arith)
    into (inr (e, inl l)) = inl (omega arith)
    into (inr (e, inr (f, t))) = inr (omega arith, t)

    out : Lex (y * 16384 + v) (x * 16384 + u) X → Lex y x (Lex v u X)
    out (inl l) = elim (dec_lt y x) [ yes m ↦ inl m | no f ↦ inr (omega arith, inl (omega arith)) ]
    out (inr (e, t)) = inr (omega arith, inr (omega arith, t))

fuse_last : {y x v u : ℕ} → v ≤ 16383 → u ≤ 16383 → Lex y x (v < u) ↔ (y * 16384 + v < x * 16384 + u)
fuse_last {y} {x} {v} {u} p q = (into, out)
  where
    into : Lex y x (v < u) → y * 16384 + v < x * 16384 + u
    into (inl l) = omega arith
    into (inr (e, l)) = omega arith

    out : y * 16384 + v < x * 16384 + u → Lex y x (v < u)
    out l = elim (dec_lt y x) [ yes m ↦ inl m | no f ↦ inr (omega arith, omega arith) ]

-- a side's length and ends in one number, digit by digit
number : ℕ → Point → Point → ℕ
number l a b = (((l * 16384 + (16383 - a.x)) * 16384 + (16383 - a.y)) * 16384 + (16383 - b.x)) * 16384 + (16383 - b.y)

left : (x : ℕ) → 16383 - x ≤ 16383
left x = omega arith

number_iff : (l : ℕ) (a b : Point) (m : ℕ) (c d : Point) → Small a → Small b → Small c → Small d → Precedes l a b m c d ↔ (number m c d < number l a b)
unfolding number
number_iff l a b m c d sa sb sc sd =
    through (under (flip sa.0 sc.0 (flip sa.1 sc.1 (flip sb.0 sd.0 (flip_last sb.1 sd.1)))))
    (through (fuse (left c.x) (left a.x))
    (through (fuse (left c.y) (left a.y))
    (through (fuse (left d.x) (left b.x))
    (fuse_last (left d.y) (left b.y)))))

-- the same with each point in one number
digits : (k x y : ℕ) → x ≤ 16383 → y ≤ 16383 → (k * 16384 + (16383 - x)) * 16384 + (16383 - y) ≡ k * 268435456 + (268435455 - (x * 16384 + y))
digits k x y b c = omega arith

number_is : (l : ℕ) (a b : Point) → Small a → Small b → number l a b ≡ (l * 268435456 + (268435455 - packed a)) * 268435456 + (268435455 - packed b)
unfolding number
number_is l a b sa sb = ap (λ k. (k * 16384 + (16383 - b.x)) * 16384 + (16383 - b.y)) (digits l a.x a.y sa.0 sa.1) ∙ digits _ b.x b.y sb.0 sb.1

-- of two points, the smaller number comes before
sooner_packed : (a b : Point) → Small a → Small b → sooner a b ≡ ltb (packed a) (packed b)
sooner_packed a b sa sb = same_answer (λ e. ltb_iff.1 (into ((lex_iff ltb_iff).0 e))) (λ e. (lex_iff ltb_iff).1 (out (ltb_iff.0 e)))
  where
    into : Lex a.x b.x (a.y < b.y) → packed a < packed b
    into (inl l) = let u = sa.1 in omega arith
    into (inr (e, l)) = omega arith

    out : packed a < packed b → Lex a.x b.x (a.y < b.y)
    out l = elim (dec_lt a.x b.x) [ yes m ↦ inl m | no f ↦ (let u = sa.1 in let w = sb.1 in inr (omega arith, omega arith)) ]

-- the lesser and the greater of two numbers, by a test
min_is : (p q : ℕ) → min p q ≡ cond (ltb q p) q p
min_is p q = elim (dec_lt q p) [ yes l ↦ (omega arith ∙ sym (ap (λ b. cond b q p) (lt-ltb q p l))) | no f ↦ (omega arith ∙ sym (ap (λ b. cond b q p) (le-ltb q p (omega (arith, f))))) ]

max_is : (p q : ℕ) → max p q ≡ cond (ltb q p) p q
max_is p q = elim (dec_lt q p) [ yes l ↦ (omega arith ∙ sym (ap (λ b. cond b p q) (lt-ltb q p l))) | no f ↦ (omega arith ∙ sym (ap (λ b. cond b p q) (le-ltb q p (omega (arith, f))))) ]

pub key_is : (o : Office) (s : ℕ) {l f : ℕ} → l ≡ long o s → f ≡ packed (point o (first_end o s)) → l * 268435456 + (268435455 - f) ≡ key o s
unfolding key
key_is o s = ap₂ (λ l f. l * 268435456 + (268435455 - f))

-- a key holds its length
pub key_long : (o : Office) (s : ℕ) → key o s / 268435456 ≡ long o s
unfolding key
key_long o s = omega arith

module _ {o : Office} (a : Acceptable o) where
  -- an end is a point of the grid
  ends : (i : ℕ) (b : Bool) → i < sides o → Small (point o (cond b (head o i) (tail o i))) × Small (point o (cond b (tail o i) (head o i)))
  ends i b l = step b
    where
      start : Small (point o (tail o i))
      start = a.small (tail o i) (a.numbered i l)

      end : Small (point o (head o i))
      end = a.small (head o i) (a.numbered (next i) (next_below (sides o) i a.corners_bound.1 l))

      step : (b : Bool) → Small (point o (cond b (head o i) (tail o i))) × Small (point o (cond b (tail o i) (head o i)))
      step true = (end, start)
      step false = (start, end)

  turned : ℕ → Bool
  turned i = sooner (point o (head o i)) (point o (tail o i))

  -- the side that goes before another has the greater number
  pub rank_iff : (s r : ℕ) → s < sides o → r < sides o → Before o s r ↔ (rank o r < rank o s)
  unfolding rank key turned
  rank_iff s r l m =
      let (x, y) = ends s (turned s) l in
      let (u, v) = ends r (turned r) m in
      let p = number_is (long o s) (point o (first_end o s)) (point o (second_end o s)) x y in
      let q = number_is (long o r) (point o (first_end o r)) (point o (second_end o r)) u v in
      through (number_iff (long o s) (point o (first_end o s)) (point o (second_end o s)) (long o r) (point o (first_end o r)) (point o (second_end o r)) x y u v)
      ((λ h. subst (λ n. n < rank o s) q (subst (λ n. number (long o r) (point o (first_end o r)) (point o (second_end o r)) < n) p h)), (λ h. subst (λ n. n < number (long o s) (point o (first_end o s)) (point o (second_end o s))) (sym q) (subst (λ n. rank o r < n) (sym p) h)))

  -- of the numbers of a side's corners, the smaller is its first end's
  module _ (s : ℕ) (l : s < sides o) {p q : ℕ} (x : p ≡ packed (point o (tail o s))) (y : q ≡ packed (point o (head o s))) where
    is_turned : turned s ≡ ltb q p
    unfolding turned
    is_turned = let (t, h) = ends s false l in sooner_packed (point o (head o s)) (point o (tail o s)) h t ∙ ap (λ n. ltb n (packed (point o (tail o s)))) (sym y) ∙ ap (ltb q) (sym x)

    pub first_packed : {n : ℕ} → n ≡ min p q → n ≡ packed (point o (first_end o s))
    unfolding turned
    first_packed e = e ∙ min_is p q ∙ step (ltb q p) ∙ ap (λ b. packed (point o (cond b (head o s) (tail o s)))) (sym is_turned)
      where
        step : (b : Bool) → cond b q p ≡ packed (point o (cond b (head o s) (tail o s)))
        step true = y
        step false = x

    pub second_packed : {n : ℕ} → n ≡ max p q → n ≡ packed (point o (second_end o s))
    unfolding turned
    second_packed e = e ∙ max_is p q ∙ step (ltb q p) ∙ ap (λ b. packed (point o (cond b (tail o s) (head o s)))) (sym is_turned)
      where
        step : (b : Bool) → cond b p q ≡ packed (point o (cond b (tail o s) (head o s)))
        step true = x
        step false = y

  second_low : (s : ℕ) → s < sides o → packed (point o (second_end o s)) ≤ 268435455
  unfolding turned
  second_low s l = let (_, h) = ends s (turned s) l in let u = h.0 in let w = h.1 in omega arith

  -- a key has 58 bits
  pub key_low : (s : ℕ) → s < sides o → key o s < 288230376151711744
  unfolding key
  key_low s l = let (t, h) = ends s false l in let u = squared_bound (point o (tail o s)) (point o (head o s)) t h in omega arith

  -- unequal keys decide, and of equal keys the second ends
  pub by_key : (s r : ℕ) → key o r < key o s → rank o r < rank o s
  unfolding rank
  by_key s r h = omega arith

  pub by_keys : (s r : ℕ) → (key o r ≡ key o s → ⊥) → ltb (key o r) (key o s) ≡ ltb (rank o r) (rank o s)
  by_keys s r f = same_answer (λ e. ltb_iff.1 (by_key s r (ltb_iff.0 e))) (λ e. ltb_iff.1 (back (ltb_iff.0 e)))
    where
      back : rank o r < rank o s → key o r < key o s
      back h = elim (dec_lt (key o s) (key o r)) [ yes m ↦ absurd (let u = by_key r s m in omega arith) | no g ↦ omega (arith, f) ]

  pub by_seconds : {b : Bool} (s r : ℕ) → s < sides o → r < sides o → key o r ≡ key o s → b ≡ ltb (packed (point o (second_end o s))) (packed (point o (second_end o r))) → b ≡ ltb (rank o r) (rank o s)
  unfolding rank
  by_seconds s r l m z e = e ∙ same_answer (λ t. ltb_iff.1 (into (ltb_iff.0 t))) (λ t. ltb_iff.1 (out (ltb_iff.0 t)))
    where
      into : packed (point o (second_end o s)) < packed (point o (second_end o r)) → rank o r < rank o s
      into h = let u = second_low s l in let w = second_low r m in omega arith

      out : rank o r < rank o s → packed (point o (second_end o s)) < packed (point o (second_end o r))
      out h = let u = second_low s l in let w = second_low r m in omega arith

-- the same in plain logic
pub up : {t : Bool} {a b : ℕ} → t ≡ ltb a b → t ≡ true → a < b
up {t} {a} {b} e u = (ltb_iff {a = a} {b = b}).0 (sym e ∙ u)

pub not_up : {t : Bool} {a b : ℕ} → t ≡ ltb a b → t ≡ false → b ≤ a
not_up {t} {a} {b} e u = elim (dec_lt a b) [ yes h ↦ absurd (false_iff.0 (sym e ∙ u) (ltb_iff.1 h)) | no f ↦ omega arith ]
