-- Runs of values put into a list one after another. Assumes nothing.
use mathlib.Core.Path.{◌≡◌, refl, sym, ap, ◌∙◌}
use mathlib.Core.List.{List, [], ◌∷◌, ◌++◌, append-nil}
use Prim.Native.Nat.{ℕ, zero, suc, ◌+◌, ◌-◌, ◌≤◌}
use native.Mathlib.Nat.{add-zero, zero-add, add-suc, suc-add}
use native.Mathlib.Omega.{arith}
use borrow.Rule.Slice.PartMut.{mid_of, put_mid}
use lib.ListN.{length, take, drop, set, length-drop, drop_of_length-le}
use lib.Seq.{sets, sets-eq, take_all}

pub sets-append : (xs ys l : List ℕ) (i : ℕ) → sets l i (xs ++ ys) ≡ sets (sets l i xs) (i + length xs) ys
sets-append [] ys l i = ap (λ (n : ℕ). sets l n ys) (sym (add-zero i))
sets-append (x ∷ xs) ys l i = sets-append xs ys (set l i x) (suc i) ∙ ap (λ (n : ℕ). sets (sets l i (x ∷ xs)) n ys) (suc-add i (length xs) ∙ sym (add-suc i (length xs)))

-- one run after another
pub put_next : (l xs ys : List ℕ) (i k : ℕ) → length xs ≡ k → sets (sets l i xs) (i + k) ys ≡ sets l i (xs ++ ys)
put_next l xs ys i k e = ap (λ (n : ℕ). sets (sets l i xs) (i + n) ys) (sym e) ∙ sym (sets-append xs ys l i)

-- a run put into the part that starts at n
pub put_part : (n : ℕ) (l vs : List ℕ) → n ≤ length l → take n l ++ sets (drop n l) 0 vs ≡ sets l n vs
put_part zero l vs h = refl
put_part (suc n) [] vs h = absurd (omega arith)
put_part (suc n) (a ∷ l) vs h = ap (λ (r : List ℕ). a ∷ r) (put_part n l vs (omega arith)) ∙ sym (sets_cons vs a l n)
  where
    sets_cons : (vs : List ℕ) (a : ℕ) (l : List ℕ) (n : ℕ) → sets (a ∷ l) (suc n) vs ≡ a ∷ sets l n vs
    sets_cons [] a l n = refl
    sets_cons (v ∷ vs) a l n = sets_cons vs a (set l n v) (suc n)

-- the same as the rule of a part that is lent, `&mut out[n..]`, has it
pub put_rest : (n : ℕ) (o vs : List ℕ) → n ≤ length o → put_mid n (length o - n) o (sets (mid_of n (length o - n) o) 0 vs) ≡ sets o n vs
put_rest n o vs h =
    let all : take (length o - n) (drop n o) ≡ drop n o = take_all (length o - n) (drop n o) (omega (arith, length-drop n o)) in
    ap (λ (l : List ℕ). take n o ++ (sets l 0 vs ++ drop (length o - n) (drop n o))) all
    ∙ ap (λ (l : List ℕ). take n o ++ (sets (drop n o) 0 vs ++ l)) (drop_of_length-le (drop n o) {i = length o - n} (omega (arith, length-drop n o)))
    ∙ ap (λ (l : List ℕ). take n o ++ l) (append-nil (sets (drop n o) 0 vs))
    ∙ put_part n o vs h

-- a run put at the front is the run, and what stood past it
pub put_front : (vs l : List ℕ) → length vs ≤ length l → sets l 0 vs ≡ vs ++ drop (length vs) l
put_front vs l h = sets-eq vs l 0 (omega arith) ∙ ap (λ (n : ℕ). vs ++ drop n l) (zero-add (length vs))
