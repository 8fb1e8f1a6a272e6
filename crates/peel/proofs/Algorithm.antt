-- Algorithm 1 of source document 001 ends, with the marks that the draw by the greatest removable side leaves. Assumes nothing.
use mathlib.Core.Path.{◌≡◌, refl, sym, ap, subst, ◌∙◌}
use mathlib.Core.Logic.{◌⊎◌, inl, inr}
use mathlib.Core.Bool.{Bool, true, false, cond, ◌&&◌, ◌||◌}
use mathlib.Core.List.Memᴰ
use mathlib.Core.List.{List, [], ◌∷◌}
use Prim.Native.Nat.{ℕ, zero, suc, ◌+◌, ◌*◌, ◌<◌, ◌≤◌}
use native.Mathlib.Omega.{arith}
use lib.Dec.{ltb, eqb}
use lib.ListN.{length}
use Rattle.laws.specs.Sorted.{insert, sort}
use Rattle.laws.proofs.Test.{and_iff, not_iff, false_iff, ltb_iff}
use Rattle.laws.proofs.Sorted.{In, Sorted, front, length-insert, in_insert, insert_in, length-sort, in_sort, sort_in}
use Rattle.sheet.specs.Office.{Office, sides, triangles, apex, next, last}
use Rattle.sheet.specs.Acceptable.{Acceptable}
use Rattle.rim.specs.Peel.{rim, on_rim, long, before, peel, whole, drawn, ring}
use Rattle.peel.specs.Algorithm.{State, boundary, ends, start, reveal, regular, dug, turn, turns, final, shape}
use Rattle.rim.proofs.Marks.{removable_iff, rim_iff}
use Rattle.rim.proofs.OnePeel.{outward, inward}
use Rattle.rim.proofs.RimPoints.{on_rim_after}
use Rattle.rim.specs.Reached.{begun}
use Rattle.peel.proofs.Waiting.{Waiting, none_waits, forgets, first_is_best, can, replaces}
use Rattle.peel.proofs.Ahead.{Ahead, all_ahead, peel_ahead, none_ahead}
use Rattle.peel.proofs.Boundary.{insert_ordered, sort_ordered, ends_on_rim, reveal_is, boundary_length, in_boundary, boundary_in}

module _ {o : Office} (a : Acceptable o) where
  module _ (limit : ℕ) where
    -- what holds before each turn: B is ordered and holds what waits, and the boundary points are those on the rim
    record Under (n left : ℕ) (k : List ℕ) (edge : ℕ → Bool) (b : List ℕ) : Type 0 where
      pub waiting : Waiting o limit n k (λ q. In q b)
      pub ahead : Ahead o limit n left k
      pub edges : (p : ℕ) → edge p ≡ on_rim o k p
      pub sorted : Sorted (before o) b

    begins : Under 0 (triangles o) (whole o) (ends o (sides o)) (sort (before o) (boundary o (sides o)))
    begins =
        let back = in_sort (before o) (boundary o (sides o)) in
        record {
          waiting = record {
            reached = begun;
            below = λ s d. (in_boundary a (sides o) s (back s d)).0;
            fresh = λ s d. inl (in_boundary a (sides o) s (back s d)).1;
            waits = λ s l e h. sort_in (before o) (boundary o (sides o)) s (boundary_in a (sides o) s l ((rim_iff o (whole o) s).1 ((removable_iff o (whole o) s).0 e).0));
          };
          ahead = all_ahead;
          edges = ends_on_rim o;
          sorted = sort_ordered o (boundary o (sides o));
        }

    -- how it ends
    pub record Ended (t : State) : Type 0 where
      pub nothing : t.queue ≡ []
      pub marks : t.marks ≡ drawn o limit
      pub edge : (p : ℕ) → t.edge p ≡ on_rim o (drawn o limit) p

    abbrev at : List ℕ → (ℕ → Bool) → List ℕ → State
    at k edge b = record { marks = k; edge = edge; queue = b }

    still : (m : ℕ) (k : List ℕ) (edge : ℕ → Bool) → turns o limit m (at k edge []) ≡ at k edge []
    unfolding turns turn
    still zero k edge = refl
    still (suc m) k edge = still m k edge

    ended : {n left : ℕ} {k : List ℕ} {edge : ℕ → Bool} → Under n left k edge [] → Ended (at k edge [])
    ended {k = k} {edge} u =
        let e = none_ahead a u.ahead (none_waits u.waiting (λ s. Memᴰ.not-nil)) in
        record { nothing = refl; marks = e; edge = λ p. u.edges p ∙ ap (λ j. on_rim o j p) e }

    -- what a turn leads to, with m turns left at most
    abbrev Leads : ℕ → State → Type 0
    Leads m t = (n : ℕ) × (left : ℕ) × Under n left t.marks t.edge t.queue × (suc (length t.queue + 2 * left) ≡ m)

    module _ {n left : ℕ} {k : List ℕ} {edge : ℕ → Bool} {s : ℕ} {b : List ℕ} (u : Under n left k edge (s ∷ b)) where
      rest_sorted : Sorted (before o) (s ∷ b) → Sorted (before o) b
      rest_sorted (front f t) = t

      first_of_all : Sorted (before o) (s ∷ b) → (q : ℕ) → In q (s ∷ b) → (q ≡ s → ⊥) → before o q s ≡ false
      first_of_all (front f t) q (Memᴰ.head z) g = absurd (g z)
      first_of_all (front f t) q (Memᴰ.tail d) g = f q d

      split : (q : ℕ) → In q (s ∷ b) → (q ≡ s) ⊎ In q b
      split q (Memᴰ.head z) = inl z
      split q (Memᴰ.tail d) = inr d

      discards : (limit < long o s → on_rim o k (apex o s) ≡ true) → Leads (length (s ∷ b) + 2 * left) (at k edge b)
      discards idle = (
        n,
        left,
        record {
          waiting = forgets u.waiting s idle split (λ q d. Memᴰ.tail d);
          ahead = u.ahead;
          edges = u.edges;
          sorted = rest_sorted u.sorted;
        },
        omega arith,
      )

      digs : limit < long o s → on_rim o k (apex o s) ≡ false → Leads (length (s ∷ b) + 2 * left) (dug o k edge s b)
      digs l off =
          let (m, e, h) = peel_ahead a u.ahead s u.waiting.reached (first_is_best u.waiting a s here off l (first_of_all u.sorted)) l in
          state m e h
        where
          here : In s (s ∷ b)
          here = Memᴰ.head refl

          out : ℕ
          out = (outward a (can u.waiting a s here off)).0

          out_is : reveal o (next s) ≡ out
          out_is = let h = (outward a (can u.waiting a s here off)).1 in reveal_is a (next s) out h.below h.back

          inn : ℕ
          inn = (inward a (can u.waiting a s here off)).0

          inn_is : reveal o (last s) ≡ inn
          inn_is = let h = (inward a (can u.waiting a s here off)).1 in reveal_is a (last s) inn h.below h.back

          first : List ℕ
          first = insert (before o) (reveal o (last s)) b

          second : List ℕ
          second = insert (before o) (reveal o (next s)) first

          old : (q : ℕ) → In q b → In q second
          old q d = insert_in (before o) (reveal o (next s)) first q (inr (insert_in (before o) (reveal o (last s)) b q (inr d)))

          kept : (q : ℕ) → (q ≡ s) ⊎ In q b → (q ≡ s) ⊎ In q second
          kept q (inl z) = inl z
          kept q (inr d) = inr (old q d)

          from : (q : ℕ) → (q ≡ reveal o (next s)) ⊎ In q first → In q (s ∷ b) ⊎ ((q ≡ out) ⊎ (q ≡ inn))
          from q (inl z) = inr (inl (z ∙ out_is))
          from q (inr d) = from_first (in_insert (before o) (reveal o (last s)) b q d)
            where
              from_first : (q ≡ reveal o (last s)) ⊎ In q b → In q (s ∷ b) ⊎ ((q ≡ out) ⊎ (q ≡ inn))
              from_first (inl z) = inr (inr (z ∙ inn_is))
              from_first (inr d) = inl (Memᴰ.tail d)

          state : (m : ℕ) → left ≡ suc m → Ahead o limit (suc n) m (peel k s) → Leads (length (s ∷ b) + 2 * left) (dug o k edge s b)
          state m e h = (
            suc n,
            m,
            record {
              waiting = replaces u.waiting a s here off (λ q d. kept q (split q d))
                  (insert_in (before o) (reveal o (next s)) first out (inl (sym out_is)))
                  (insert_in (before o) (reveal o (next s)) first inn (inr (insert_in (before o) (reveal o (last s)) b inn (inl (sym inn_is)))))
                  (λ q d. from q (in_insert (before o) (reveal o (next s)) first q d));
              ahead = h;
              edges = λ p. ap (λ t. t || eqb p (apex o s)) (u.edges p) ∙ sym (on_rim_after a (can u.waiting a s here off) p);
              sorted = insert_ordered o (reveal o (next s)) first (insert_ordered o (reveal o (last s)) b (rest_sorted u.sorted));
            },
            (let x = length-insert (before o) (reveal o (next s)) first in let y = length-insert (before o) (reveal o (last s)) b in omega arith),
          )

      leads : Leads (length (s ∷ b) + 2 * left) (turn o limit k edge (s ∷ b))
      unfolding turn
      leads = step (ltb limit (long o s) && regular o k edge s) refl
        where
          step : (c : Bool) → (ltb limit (long o s) && regular o k edge s) ≡ c → Leads (length (s ∷ b) + 2 * left) (cond c (dug o k edge s b) (at k edge b))
          step true e =
              let (l, f) = (and_iff {a = ltb limit (long o s)}).0 e in
              let (_, g) = (and_iff {a = rim o k s}).0 f in
              digs (ltb_iff.0 l) (false_iff.1 (λ t. not_iff.0 g (u.edges (apex o s) ∙ t)))
          step false e = discards (λ l. on (edge (apex o s)) refl l (u.waiting.fresh s (Memᴰ.head refl)))
            where
              on : (c : Bool) → edge (apex o s) ≡ c → limit < long o s → (rim o k s ≡ true) ⊎ (on_rim o k (apex o s) ≡ true) → on_rim o k (apex o s) ≡ true
              on c t l (inr h) = h
              on true t l (inl h) = sym (u.edges (apex o s)) ∙ t
              on false t l (inl h) = absurd (false_iff.0 e (and_iff.1 (ltb_iff.1 l, and_iff.1 (h, not_iff.1 (λ x. false_iff.0 t x)))))

    run : (m n left : ℕ) (k : List ℕ) (edge : ℕ → Bool) (b : List ℕ) → Under n left k edge b → length b + 2 * left ≤ m → Ended (turns o limit m (at k edge b))
    unfolding turns turn
    run zero n left k edge [] u l = ended u
    run zero n left k edge (s ∷ b) u l = absurd (omega arith)
    run (suc m) n left k edge [] u l = subst Ended (sym (still m k edge)) (ended u)
    run (suc m) n left k edge (s ∷ b) u l = let (i, j, v, e) = leads u in run m i j _ _ _ v (omega arith)

    -- the loop ends within as many turns as this, and further turns change nothing
    pub algorithm_ends : (m : ℕ) → sides o + 2 * triangles o ≤ m → Ended (turns o limit m (start o))
    algorithm_ends m l = run m 0 (triangles o) (whole o) (ends o (sides o)) (sort (before o) (boundary o (sides o))) begins
        (let h = boundary_length a (sides o) in let e = length-sort (before o) (boundary o (sides o)) in omega arith)

    -- the marks that Algorithm 1 ends with are the draw's
    pub algorithm_drawn : (final o limit).marks ≡ drawn o limit
    unfolding final
    algorithm_drawn = (algorithm_ends (sides o + 2 * triangles o) (omega arith)).marks

    -- so its polygon is the outline
    pub algorithm_shape : shape o limit ≡ ring o (drawn o limit)
    algorithm_shape = ap (ring o) algorithm_drawn
