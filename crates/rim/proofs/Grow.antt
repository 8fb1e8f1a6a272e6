-- One peel puts the bared corner between the two ends of the side peeled, and leaves the rest of the round as it is. Assumes nothing.
use mathlib.Core.Path.{◌≡◌, refl, sym, ap, subst₂, ◌∙◌}
use mathlib.Core.Logic.{inl, inr}
use mathlib.Core.Bool.{true, cond}
use mathlib.Core.List.{List}
use Prim.Native.Nat.{ℕ, suc, ◌+◌, ◌-◌, ◌<◌, ◌≤◌}
use native.Mathlib.Decide.{dec_lt}
use native.Mathlib.Omega.{arith}
use lib.Dec.{ltb}
use borrow.Author.Tests.{lt-ltb, le-ltb}
use Rattle.laws.proofs.Round.{Beside, early, apart_early, same_way_back, from_step, from_step_at, round_of, round_of_at}
use Rattle.laws.specs.Round.{Round}
use Rattle.sheet.specs.Office.{Office, sides, tail, head, apex}
use Rattle.sheet.specs.Acceptable.{Acceptable}
use Rattle.rim.specs.Peel.{rim, peel}
use Rattle.rim.proofs.Marks.{Way, rim_iff}
use Rattle.rim.proofs.OnePeel.{Peelable, on, off, outward_ends, inward_ends, outward_way, inward_way, OldOrBared, rim_after}

-- from the head of the side peeled: the old round of m points, and then the bared corner
abbrev pub grown : (ℕ → ℕ) → ℕ → ℕ → ℕ → ℕ
grown at m c i = cond (ltb i m) (at i) c

module _ {o : Office} {k : List ℕ} {s : ℕ} (a : Acceptable o) (can : Peelable o k s) where
  -- a round that begins where the side peeled ends
  module _ {m : ℕ} (r : Round (Way o k) m) (first : r.at 0 ≡ head o s) where
    row : ℕ → ℕ
    row = grown r.at m (apex o s)

    inside : (i : ℕ) → i < m → row i ≡ r.at i
    unfolding row
    inside i l = rw (lt-ltb i m l)

    end : row m ≡ apex o s
    unfolding row
    end = rw (le-ltb m m (omega arith))

    -- a round later it is there again, and before that at the tail
    closed : r.at m ≡ head o s
    closed = ap r.at (omega arith) ∙ r.back 0 ∙ first

    at_last : (i : ℕ) → i + 1 ≡ m → r.at i ≡ tail o s
    at_last i e =
        let (j, x, y) = r.all (tail o s) (head o s) (s, can.below, (rim_iff o k s).1 (on a can), refl, refl) in
        same_way_back r i j (ap r.at e ∙ closed ∙ sym y) ∙ x

    -- the bared corner is new
    not_apex : (i : ℕ) → r.at i ≡ apex o s → ⊥
    not_apex i e = let (x, l, h, t, _) = r.goes i in off a can (x, l, inl (t ∙ e), (rim_iff o k x).0 h)

    apart : (i j : ℕ) → i ≤ m → j ≤ m → row i ≡ row j → i ≡ j
    apart i j x y e = step (dec_lt i m) (dec_lt j m)
      where
        at_end : (i : ℕ) → i ≤ m → (i < m → ⊥) → row i ≡ apex o s
        at_end i x f = ap row (let z : m ≤ i = omega arith in omega arith) ∙ end

        step : Dec (i < m) → Dec (j < m) → i ≡ j
        step (yes u) (yes v) = apart_early r i j u v (sym (inside i u) ∙ e ∙ inside j v)
        step (yes u) (no v) = absurd (not_apex i (sym (inside i u) ∙ e ∙ at_end j y v))
        step (no u) (yes v) = absurd (not_apex j (sym (inside j v) ∙ sym e ∙ at_end i x u))
        step (no u) (no v) = omega arith

    -- a side of the old rim stays, but for the one peeled
    stays : (x : ℕ) → x < sides o → rim o k x ≡ true → (x ≡ s → ⊥) → rim o (peel k s) x ≡ true
    stays x l h f = (rim_after a can x l).1 (inl (h, f))

    goes : (i : ℕ) → i < m → Way o (peel k s) (row i) (row (i + 1))
    goes i u = step (dec_lt (i + 1) m)
      where
        step : Dec (i + 1 < m) → Way o (peel k s) (row i) (row (i + 1))
        step (yes v) =
            let (x, l, h, t, w) = r.goes i in
            (x, l, stays x l h (λ z. not_last (sym t ∙ ap (tail o) z)), t ∙ sym (inside i u), w ∙ sym (inside (i + 1) v))
          where
            not_last : r.at i ≡ tail o s → ⊥
            not_last e = let z : i ≡ m - 1 = apart_early r i (m - 1) u (omega arith) (e ∙ sym (at_last (m - 1) (omega arith))) in omega arith
        step (no v) =
            let z : i + 1 ≡ m = omega arith in
            subst₂ (Way o (peel k s)) (sym (inside i u ∙ at_last i z)) (sym (ap row z ∙ end)) (inward_way a can)

    closes : Way o (peel k s) (row m) (row 0)
    closes = subst₂ (Way o (peel k s)) (sym end) (sym (inside 0 r.long ∙ first)) (outward_way a can)

    all : (p q : ℕ) → Way o (peel k s) p q → Beside row m p q
    all p q (x, l, h, t, w) = step ((rim_after a can x l).0 h)
      where
        old : (x ≡ s → ⊥) → (j : ℕ) → j < m → r.at j ≡ p → r.at (j + 1) ≡ q → Dec (j + 1 < m) → Beside row m p q
        old f j u y z (yes v) = inl (j, u, inside j u ∙ y, inside (j + 1) v ∙ z)
        old f j u y z (no v) =
            let e : j + 1 ≡ m = omega arith in
            absurd (f (a.single x s l can.below (t ∙ sym y ∙ at_last j e) (w ∙ sym z ∙ ap r.at e ∙ closed)))

        step : OldOrBared a can x → Beside row m p q
        step (inl (e, f)) =
            let (i, y, z) = r.all p q (x, l, e, t, w) in
            let (j, u, g, h) = early r i in
            old f j u (g ∙ y) (h ∙ z) (dec_lt (j + 1) m)
        step (inr (inl z)) = inr (end ∙ sym (outward_ends a can).0 ∙ sym (ap (tail o) z) ∙ t, inside 0 r.long ∙ first ∙ sym (outward_ends a can).1 ∙ sym (ap (head o) z) ∙ w)
        step (inr (inr z)) =
            let e : m - 1 + 1 ≡ m = (let u = r.long in omega arith) in
            inl (
              m - 1,
              omega arith,
              inside (m - 1) (omega arith) ∙ at_last (m - 1) e ∙ sym (inward_ends a can).0 ∙ sym (ap (tail o) z) ∙ t,
              ap row e ∙ end ∙ sym (inward_ends a can).1 ∙ sym (ap (head o) z) ∙ w,
            )

    pub grown_round : Round (Way o (peel k s)) (suc m)
    grown_round = round_of (Way o (peel k s)) m row apart goes closes all

    -- the old points in their order, and then the bared corner
    pub grown_old : (i : ℕ) → i < m → grown_round.at i ≡ r.at i
    unfolding grown_round
    grown_old i l = round_of_at (Way o (peel k s)) m row apart goes closes all i (omega arith) ∙ inside i l

    pub grown_new : grown_round.at m ≡ apex o s
    unfolding grown_round
    grown_new = round_of_at (Way o (peel k s)) m row apart goes closes all m (omega arith) ∙ end

  -- every round can be turned so
  pub round_after : {m : ℕ} → Round (Way o k) m → Round (Way o (peel k s)) (suc m)
  round_after r =
      let (j, x, y) = r.all (tail o s) (head o s) (s, can.below, (rim_iff o k s).1 (on a can), refl, refl) in
      grown_round (from_step r (j + 1)) (from_step_at r (j + 1) 0 ∙ ap r.at (omega arith) ∙ y)
