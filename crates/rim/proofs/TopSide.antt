-- The side to peel next is the removable one that goes before all others, and there is one unless none is removable. Assumes nothing.
use mathlib.Core.Path.{◌≡◌, refl, sym, ap, subst}
use mathlib.Core.Logic.{◌↔◌, ◌⊎◌, inl, inr}
use mathlib.Core.Bool.{Bool, true, false, cond, ◌&&◌}
use mathlib.Core.List.{List}
use mathlib.Core.Option.{Option, none, some}
use Prim.Native.Nat.{ℕ, zero, suc, ◌+◌, ◌<◌}
use native.Mathlib.Decide.{dec_lt, ℕ_discrete}
use native.Mathlib.Omega.{arith}
use Rattle.laws.proofs.Test.{and_iff, false_iff, ltb_iff}
use Rattle.laws.proofs.Order.{Lex, lex_iff, lex_trans, lex_total, lex_never}
use Rattle.sheet.specs.Plane.{Point}
use Rattle.sheet.specs.Office.{Office, points, sides, point, tail, head, next}
use Rattle.sheet.specs.Acceptable.{Acceptable}
use Rattle.sheet.proofs.Side.{next_below}
use Rattle.rim.specs.Peel.{removable, sooner, long, first_end, second_end, before, better, best_from, best}
use Rattle.rim.proofs.Marks.{Rim, removable_iff}

-- two points with the same coordinates
abbrev Alike : Point → Point → Type 0
Alike a b = (a.x ≡ b.x) × (a.y ≡ b.y)

-- a side of the length long with the ends a and b goes before one of the length other with the ends c and d
abbrev pub Precedes : ℕ → Point → Point → ℕ → Point → Point → Type 0
Precedes long a b other c d = Lex other long (Lex a.x c.x (Lex a.y c.y (Lex b.x d.x (b.y < d.y))))

-- side s goes before side r
abbrev pub Before : Office → ℕ → ℕ → Type 0
Before o s r = Precedes (long o s) (point o (first_end o s)) (point o (second_end o s)) (long o r) (point o (first_end o r)) (point o (second_end o r))

pub before_iff : (o : Office) (s r : ℕ) → (before o s r ≡ true) ↔ Before o s r
unfolding before
before_iff o s r = lex_iff (lex_iff (lex_iff (lex_iff ltb_iff)))

pub before_trans : (o : Office) (s r q : ℕ) → Before o s r → Before o r q → Before o s q
before_trans o s r q x y = lex_trans (λ v u. lex_trans (lex_trans (lex_trans (λ a b. omega arith))) u v) y x

pub before_never : (o : Office) (s : ℕ) → Before o s s → ⊥
before_never o s = lex_never (lex_never (lex_never (lex_never (λ l. omega arith))))

-- of two sides one goes first, or they have the same ends
precedes_total : (long : ℕ) (a b : Point) (other : ℕ) (c d : Point) → Precedes long a b other c d ⊎ (Precedes other c d long a b ⊎ (Alike a c × Alike b d))
precedes_total long a b other c d = step (lex_total (lex_total (lex_total (lex_total (last b.y d.y)))))
  where
    last : (i j : ℕ) → (i < j) ⊎ ((j < i) ⊎ (i ≡ j))
    last i j = elim (dec_lt i j) [
      | yes h ↦ inl h
      | no g ↦ elim (dec_lt j i) [ yes h ↦ inr (inl h) | no h ↦ inr (inr (omega arith)) ]
    ]

    step : Precedes long a b other c d ⊎ (Precedes other c d long a b ⊎ ((other ≡ long) × ((a.x ≡ c.x) × ((a.y ≡ c.y) × Alike b d))))
        → Precedes long a b other c d ⊎ (Precedes other c d long a b ⊎ (Alike a c × Alike b d))
    step (inl h) = inl h
    step (inr (inl h)) = inr (inl h)
    step (inr (inr (_, (p, (q, u))))) = inr (inr ((p, q), u))

-- the same two points, one way round or the other
same_pair : (a b c d : ℕ) (u v : Bool) → cond u b a ≡ cond v d c → cond u a b ≡ cond v c d → ((a ≡ c) × (b ≡ d)) ⊎ ((c ≡ b) × (d ≡ a))
same_pair a b c d true true x y = inl (y, x)
same_pair a b c d false false x y = inl (x, y)
same_pair a b c d true false x y = inr (sym x, sym y)
same_pair a b c d false true x y = inr (sym y, sym x)

module _ {o : Office} (a : Acceptable o) (k : List ℕ) where
  -- of two rim sides, one goes first: no two have the same ends
  pub before_total : (s r : ℕ) → s < sides o → r < sides o → Rim o k s → Rim o k r → (s ≡ r → ⊥) → Before o s r ⊎ Before o r s
  before_total s r l m x y f = step (precedes_total (long o s) (point o (first_end o s)) (point o (second_end o s)) (long o r) (point o (first_end o r)) (point o (second_end o r)))
    where
      turned : ℕ → Bool
      turned i = sooner (point o (head o i)) (point o (tail o i))

      -- an end is a point
      end : (i : ℕ) (b : Bool) → i < sides o → (cond b (head o i) (tail o i) < points o) × (cond b (tail o i) (head o i) < points o)
      end i true l = (a.numbered (next i) (next_below (sides o) i a.corners_bound.1 l), a.numbered i l)
      end i false l = (a.numbered i l, a.numbered (next i) (next_below (sides o) i a.corners_bound.1 l))

      same : ((tail o s ≡ tail o r) × (head o s ≡ head o r)) ⊎ ((tail o r ≡ head o s) × (head o r ≡ tail o s)) → s ≡ r
      same (inl (e, g)) = a.single s r l m e g
      same (inr v) = absurd (x.1 r m y.0 v)

      step : Before o s r ⊎ (Before o r s ⊎ (Alike (point o (first_end o s)) (point o (first_end o r)) × Alike (point o (second_end o s)) (point o (second_end o r)))) → Before o s r ⊎ Before o r s
      step (inl h) = inl h
      step (inr (inl h)) = inr h
      step (inr (inr ((p, q), (u, v)))) =
          let (i, j) = end s (turned s) l in
          let (g, h) = end r (turned r) m in
          absurd (f (same (same_pair (tail o s) (head o s) (tail o r) (head o r) (turned s) (turned r) (a.distinct _ _ i g p q) (a.distinct _ _ j h u v))))

  -- what a search of the sides below n has found
  abbrev pub Top : ℕ → Option ℕ → Type 0
  Top n none = (q : ℕ) → q < n → removable o k q ≡ true → ⊥
  Top n (some r) = (r < n) × (removable o k r ≡ true) × ((q : ℕ) → q < n → removable o k q ≡ true → (q ≡ r → ⊥) → Before o r q)

  better_top : (i : ℕ) (found : Option ℕ) → i < sides o → Top i found → Top (suc i) (better o k i found)
  unfolding better
  better_top i none l t = step (removable o k i) refl
    where
      step : (b : Bool) → removable o k i ≡ b → Top (suc i) (cond b (some i) none)
      step true e = (omega arith, e, λ q m u f. absurd (t q (omega arith) u))
      step false e = λ q m u. elim (ℕ_discrete q i) [ yes z ↦ false_iff.0 e (rw z at u) | no f ↦ t q (omega arith) u ]
  better_top i (some r) l (m, u, t) = step (removable o k i && before o i r) refl
    where
      first : (removable o k i && before o i r) ≡ true → (removable o k i ≡ true) × Before o i r
      first e = let (x, y) = (and_iff {a = removable o k i}).0 e in (x, (before_iff o i r).0 y)

      later : ((removable o k i && before o i r) ≡ true → ⊥) → removable o k i ≡ true → Before o r i
      later f e = elim (before_total i r l (omega arith) ((removable_iff o k i).0 e).0 ((removable_iff o k r).0 u).0 (λ z. omega arith)) [
        | inl h ↦ absurd (f (and_iff.1 (e, (before_iff o i r).1 h)))
        | inr h ↦ h
      ]

      step : (b : Bool) → (removable o k i && before o i r) ≡ b → Top (suc i) (cond b (some i) (some r))
      step true e = (
        omega arith,
        (first e).0,
        λ q b v f. elim (ℕ_discrete q r) [
          | yes z ↦ subst (Before o i) (sym z) (first e).1
          | no g ↦ before_trans o i r q (first e).1 (t q (omega arith) v g)
        ],
      )
      step false e = (
        omega arith,
        u,
        λ q b v f. elim (ℕ_discrete q i) [
          | yes z ↦ subst (Before o r) (sym z) (later (false_iff.0 e) (rw z at v))
          | no g ↦ t q (omega arith) v f
        ],
      )

  best_from_top : (i n : ℕ) (found : Option ℕ) → i + n ≡ sides o → Top i found → Top (sides o) (best_from o k i n found)
  unfolding best_from
  best_from_top i zero found e t = subst (λ m. Top m found) (omega arith) t
  best_from_top i (suc n) found e t = best_from_top (suc i) n (better o k i found) (omega arith) (better_top i found (omega arith) t)

  pub best_top : Top (sides o) (best o k)
  unfolding best
  best_top = best_from_top 0 (sides o) none (omega arith) (λ q l. absurd (omega arith))

  -- only one answer is the top
  pub best_iff : (answer : Option ℕ) → (best o k ≡ answer) ↔ Top (sides o) answer
  best_iff answer = ((λ e. subst (Top (sides o)) e best_top), one (best o k) answer best_top)
    where
      one : (x y : Option ℕ) → Top (sides o) x → Top (sides o) y → x ≡ y
      one none none t u = refl
      one none (some r) t (m, e, _) = absurd (t r m e)
      one (some s) none (l, e, _) u = absurd (u s l e)
      one (some s) (some r) (l, d, t) (m, e, u) = elim (ℕ_discrete s r) [
        | yes z ↦ ap some z
        | no f ↦ absurd (before_never o s (before_trans o s r s (t r m e (λ z. f (sym z))) (u s l d f)))
      ]
