-- The outline is a simple polygon. Assumes nothing.
use mathlib.Core.Path.{◌≡◌, sym, ap, subst, subst₂, ◌∙◌}
use mathlib.Core.Logic.{◌⊎◌, inl, inr}
use mathlib.Core.Bool.{true}
use mathlib.Core.List.{List}
use Prim.Native.Nat.{ℕ, ◌+◌, ◌%◌, ◌<◌}
use native.Mathlib.Nat.{mod-lt}
use native.Mathlib.Omega.{arith}
use lib.ListN.{length, get_or}
use Rattle.laws.proofs.Fill.{get_or-table}
use Rattle.laws.proofs.Round.{wound_here, apart_early}
use Rattle.laws.specs.Round.{Round}
use Rattle.sheet.specs.Office.{Office, points, sides, tail, rims as hull_sides}
use Rattle.sheet.specs.Acceptable.{Reverse, Acceptable}
use Rattle.sheet.proofs.Hull.{hull_three}
use Rattle.sheet.proofs.Tiled.{tiling}
use Rattle.sheet.proofs.Between.{nothing_within}
use Rattle.sheet.proofs.Meet.{no_crossing}
use Rattle.sheet.proofs.Inner.{shared}
use Rattle.rim.specs.Peel.{rim, ring, drawn}
use Rattle.rim.proofs.Marks.{Way, rim_iff}
use Rattle.rim.proofs.Reached.{Sound, sound}
use Rattle.rim.proofs.Rings.{outlined, ring_length}
use Rattle.peel.specs.Simple.{Simple}
use Rattle.peel.proofs.DrawEnds.{drawn_ends}

module _ {o : Office} {n : ℕ} {k : List ℕ} (a : Acceptable o) (h : Sound o n k) where
  abbrev m : ℕ
  m = hull_sides o + n

  abbrev r : Round (Way o k) m
  r = (outlined a h).round

  pub reads : (i : ℕ) → get_or (ring o k) (i % length (ring o k)) 0 ≡ r.at i
  reads i =
      ap (λ l. get_or (ring o k) (i % l) 0) (ring_length a h)
      ∙ ap (λ l. get_or l (i % m) 0) (outlined a h).reads
      ∙ get_or-table r.at m (i % m) (mod-lt i r.long)
      ∙ wound_here r i

  abbrev number : ℕ → ℕ
  number i = get_or (ring o k) (i % length (ring o k)) 0

  -- the side at step i
  pub side : (i : ℕ) → Way o k (number i) (number (i + 1))
  side i = subst₂ (Way o k) (sym (reads i)) (sym (reads (i + 1))) (r.goes i)

  number_in : (i : ℕ) → number i < points o
  number_in i = let (s, l, _, e, _) = side i in subst (λ p. p < points o) e (a.numbered s l)

  pub once : (i j : ℕ) → i < length (ring o k) → j < length (ring o k) → number i ≡ number j → i ≡ j
  once i j l b e = apart_early r i j (rw (ring_length a h) at l) (rw (ring_length a h) at b) (sym (reads i) ∙ e ∙ reads j)

  -- sides with an inner point in common
  two : (i j : ℕ) → i < length (ring o k) → j < length (ring o k) → (s t : ℕ) → rim o k s ≡ true → rim o k t ≡ true → t < sides o → tail o s ≡ number i → tail o t ≡ number j → (s ≡ t) ⊎ Reverse o s t → i ≡ j
  two i j l b s t d g f x u (inl e) = once i j l b (sym x ∙ ap (tail o) e ∙ u)
  two i j l b s t d g f x u (inr e) = absurd (((rim_iff o k s).0 d).1 t f ((rim_iff o k t).0 g).0 e)

  pub outline_simple : Simple o (ring o k)
  outline_simple = record {
    three = let e = ring_length a h in let t = hull_three a in omega arith;
    once = λ i j l b x y. once i j l b (a.distinct (number i) (number j) (number_in i) (number_in j) x y);
    crossing = λ i j.
        let (s, l, _, x, y) = side i in
        let (t, b, _, u, w) = side j in
        rw (← x, ← y, ← u, ← w) (no_crossing o (tiling a) s t l b);
    touching = λ i j.
        let (s, l, _, x, y) = side i in
        rw (← x, ← y) (nothing_within o (tiling a) (number j) (number_in j) s l);
    apart = λ i j l b m X Y p f g.
        let (s, c, d, x, y) = side i in
        let (t, e, q, u, w) = side j in
        two i j l b s t d q e x u (shared o (tiling a) m X Y p s t c e (rw (← x, ← y) at f) (rw (← u, ← w) at g));
  }

-- every drawn outline is
pub drawn_simple : {o : Office} → Acceptable o → (limit : ℕ) → Simple o (ring o (drawn o limit))
drawn_simple {o} a limit = let (m, l, c, d) = drawn_ends a limit in outline_simple a (sound o a c)
