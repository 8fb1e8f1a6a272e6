-- Algorithm 1 at its start: B holds the rim sides in order, and the boundary points are those on the rim; and the side that a peel reveals.
-- Assumes nothing.
use mathlib.Core.Path.{◌≡◌, refl, sym, ap, ◌∙◌}
use mathlib.Core.Bool.{Bool, true, false, cond, ◌&&◌, ◌||◌}
use mathlib.Core.List.Memᴰ
use mathlib.Core.List.{List, ◌∷◌}
use Prim.Native.Nat.{ℕ, zero, suc, ◌<◌, ◌≤◌}
use native.Mathlib.Decide.{ℕ_discrete}
use native.Mathlib.Numerals.{add-one}
use native.Mathlib.Omega.{arith}
use lib.Dec.{eqb}
use lib.ListN.{length}
use Rattle.laws.specs.First.{first, any}
use Rattle.laws.specs.Sorted.{insert, sort}
use Rattle.laws.proofs.Test.{and_iff, false_iff, eqb_iff, first_of}
use Rattle.laws.proofs.More.{any_more}
use Rattle.laws.proofs.Sorted.{In, Sorted, insert_sorted, sort_sorted}
use Rattle.sheet.specs.Office.{Office, sides, tail, head, reverse}
use Rattle.sheet.specs.Acceptable.{Reverse, Acceptable}
use Rattle.rim.specs.Peel.{rim, on_rim, before, whole}
use Rattle.peel.specs.Algorithm.{boundary, ends, reveal}
use Rattle.rim.proofs.TopSide.{before_iff, before_trans, before_never}

module _ (o : Office) where
  follows : (s r q : ℕ) → before o s r ≡ true → before o r q ≡ true → before o s q ≡ true
  follows s r q x y = (before_iff o s q).1 (before_trans o s r q ((before_iff o s r).0 x) ((before_iff o r q).0 y))

  never : (s : ℕ) → before o s s ≡ false
  never s = false_iff.1 (λ e. before_never o s ((before_iff o s s).0 e))

  pub insert_ordered : (s : ℕ) (l : List ℕ) → Sorted (before o) l → Sorted (before o) (insert (before o) s l)
  insert_ordered = insert_sorted (before o) follows never

  pub sort_ordered : (l : List ℕ) → Sorted (before o) (sort (before o) l)
  sort_ordered = sort_sorted (before o) follows never

  -- the boundary points
  abbrev ends_at : ℕ → ℕ → Bool
  ends_at p s = (eqb (tail o s) p || eqb (head o s) p) && rim o (whole o) s

  ends_are : (n p : ℕ) → ends o n p ≡ any (ends_at p) n
  unfolding ends first
  ends_are zero p = refl
  ends_are (suc n) p = ap (λ b. b || ends_at p n) (ends_are n p) ∙ sym (any_more (ends_at p) n) ∙ ap (any (ends_at p)) (add-one n)

  pub ends_on_rim : (p : ℕ) → ends o (sides o) p ≡ on_rim o (whole o) p
  unfolding on_rim
  ends_on_rim p = ends_are (sides o) p

module _ {o : Office} (a : Acceptable o) where
  -- the only side that runs back along r is the one revealed
  pub reveal_is : (r b : ℕ) → b < sides o → Reverse o r b → reveal o r ≡ b
  reveal_is r b l v =
      let (m, e) = first_of (reverse o r) (sides o) b l (and_iff.1 (eqb_iff.1 v.0, eqb_iff.1 v.1)) in
      same (reveal o r) m ((and_iff {a = eqb (tail o (reveal o r)) (head o r)}).0 e)
    where
      same : (q : ℕ) → q < sides o → (eqb (tail o q) (head o r) ≡ true) × (eqb (head o q) (tail o r) ≡ true) → q ≡ b
      same q m (x, y) = a.single q b m l (eqb_iff.0 x ∙ sym v.0) (eqb_iff.0 y ∙ sym v.1)

  -- B before it is sorted
  pub boundary_length : (n : ℕ) → length (boundary o n) ≤ n
  unfolding boundary
  boundary_length zero = omega arith
  boundary_length (suc n) = step (rim o (whole o) n) (boundary_length n)
    where
      step : (b : Bool) → length (boundary o n) ≤ n → length (cond b (n ∷ boundary o n) (boundary o n)) ≤ suc n
      step true t = omega arith
      step false t = omega arith

  pub in_boundary : (n q : ℕ) → In q (boundary o n) → (q < n) × (rim o (whole o) q ≡ true)
  unfolding boundary
  in_boundary zero q d = absurd (Memᴰ.not-nil d)
  in_boundary (suc n) q d = step (rim o (whole o) n) refl d (in_boundary n q)
    where
      step : (b : Bool) → rim o (whole o) n ≡ b → In q (cond b (n ∷ boundary o n) (boundary o n))
          → (In q (boundary o n) → (q < n) × (rim o (whole o) q ≡ true)) → (q < suc n) × (rim o (whole o) q ≡ true)
      step false e d ih = let (l, t) = ih d in (omega arith, t)
      step true e (Memᴰ.head z) ih = (omega arith, rw z e)
      step true e (Memᴰ.tail d) ih = let (l, t) = ih d in (omega arith, t)

  pub boundary_in : (n q : ℕ) → q < n → rim o (whole o) q ≡ true → In q (boundary o n)
  unfolding boundary
  boundary_in zero q l e = absurd (omega arith)
  boundary_in (suc n) q l e = step (rim o (whole o) n) refl (boundary_in n q) (ℕ_discrete q n)
    where
      step : (b : Bool) → rim o (whole o) n ≡ b → (q < n → rim o (whole o) q ≡ true → In q (boundary o n)) → Dec (q ≡ n)
          → In q (cond b (n ∷ boundary o n) (boundary o n))
      step true f ih (yes z) = Memᴰ.head z
      step true f ih (no g) = Memᴰ.tail (ih (omega arith) e)
      step false f ih (yes z) = absurd (false_iff.0 f (rw z at e))
      step false f ih (no g) = ih (omega arith) e
