-- The queue at marks on the way: its first side is the one to peel next, unless its third corner is on the rim; what a drop and a peel leave. Assumes nothing.
use mathlib.Core.Path.{◌≡◌, refl, sym, ap, subst, ◌∙◌}
use mathlib.Core.Logic.{◌⊎◌, inl, inr}
use mathlib.Core.Bool.{Bool, true, false}
use mathlib.Core.List.{List}
use mathlib.Core.Option.{none, some}
use Prim.Native.Nat.{ℕ, suc, ◌-◌, ◌/◌, ◌<◌, ◌≤◌}
use native.Mathlib.Omega.{arith}
use lib.ListN.{get_or}
use Rattle.laws.proofs.Test.{false_iff, neither_iff, eqb_iff}
use Rattle.sheet.specs.Office.{Office, points, sides, apex, last}
use Rattle.sheet.proofs.Side.{last_below}
use Rattle.sheet.specs.Acceptable.{Acceptable}
use Rattle.rim.specs.Peel.{mark, rim, on_rim, removable, long, best, peel, rims}
use Rattle.rim.specs.Code.{front, Held, told}
use Rattle.std.specs.Prelude.{Some, None}
use Rattle.rim.specs.Heap.{Heap, Queued, Next, Popped, Joined, rank, bit, tally}
use Rattle.rim.proofs.Marks.{rim_iff, on_rim_iff, removable_iff}
use Rattle.rim.proofs.OnePeel.{Peelable, OldOrBared, outward, inward, rim_after}
use Rattle.rim.proofs.RimPoints.{on_rim_after}
use Rattle.rim.proofs.TopSide.{Before, before_total, best_iff}
use Rattle.rim.proofs.Ranked.{rank_iff, key_long}
use Rattle.rim.proofs.Bag.{tally_none, tally_at, tally_first, bit_same, bit_split}
use Rattle.rim.proofs.Stored.{top_most}

-- what waits is a side, and none goes before the first
module _ {o : Office} {queue keys : List ℕ} {n : ℕ} (h : Heap o queue keys n) (x : ℕ) (w : 0 < tally x queue n) where
  waits_below : x < sides o
  waits_below = let (i, b, e) = tally_at x queue n w in subst (λ s. s < sides o) e (h.known i b)

  waits_after : rank o x ≤ rank o (get_or queue 0 0)
  waits_after = let (i, b, e) = tally_at x queue n w in let u = top_most h i b in let z = ap (rank o) e in omega arith

module _ {o : Office} (a : Acceptable o) {k queue keys : List ℕ} {n : ℕ} (q : Queued o k queue keys n) where
  pub none_waits : n ≤ 0 → best o k ≡ none
  none_waits l = (best_iff a k none).1 (λ s b e. let w = q.all s b e in let z : n ≡ 0 = omega arith in let u = ap (tally s queue) z ∙ tally_none s queue in omega arith)

  module _ (l : 0 < n) where
    pub first_below : get_or queue 0 0 < sides o
    first_below = q.heap.known 0 l

    first_waits : 0 < tally (get_or queue 0 0) queue n
    first_waits = let u = tally_first (get_or queue 0 0) queue n l in let w = bit_same (get_or queue 0 0) in omega arith

    pub first_best : on_rim o k (apex o (get_or queue 0 0)) ≡ false → best o k ≡ some (get_or queue 0 0)
    first_best f = (best_iff a k (some s)).1 (first_below, may, λ r b e g. goes r b e (before_total a k s r first_below b ((removable_iff o k s).0 may).0 ((removable_iff o k r).0 e).0 (λ z. g (sym z))))
      where
        s : ℕ
        s = get_or queue 0 0

        may : removable o k s ≡ true
        may = (removable_iff o k s).1 ((rim_iff o k s).0 (q.on s first_waits f), λ h. false_iff.0 f ((on_rim_iff o k (apex o s)).1 h))

        goes : (r : ℕ) → r < sides o → removable o k r ≡ true → Before o s r ⊎ Before o r s → Before o s r
        goes r b e (inl h) = h
        goes r b e (inr h) = absurd (let u = (rank_iff a r s b first_below).0 h in let w = waits_after q.heap r (q.all r b e) in omega arith)

    -- the first is not removable any more
    pub drops : on_rim o k (apex o (get_or queue 0 0)) ≡ true → {queue' keys' : List ℕ} → Popped o queue queue' keys' n → Queued o k queue' keys' (n - 1)
    drops f {queue'} p = record {
      heap = p.heap;
      few = let u = q.few in omega arith;
      all = λ s b e. stays s b e (bit_split (get_or queue 0 0) s);
      on = λ s w. q.on s (let u = p.bag s in omega arith);
    }
      where
        stays : (s : ℕ) → s < sides o → removable o k s ≡ true → (get_or queue 0 0 ≡ s) ⊎ (bit (get_or queue 0 0) s ≡ 0) → 0 < tally s queue' (n - 1)
        stays s b e (inl z) = absurd (((removable_iff o k s).0 e).1 ((on_rim_iff o k (apex o s)).0 (subst (λ r. on_rim o k (apex o r) ≡ true) z f)))
        stays s b e (inr z) = let u = p.bag s in let w = q.all s b e in omega arith

    -- the first is peeled, and of the two sides laid bare those that are not stuck come in its place
    module _ {s : ℕ} (is : s ≡ get_or queue 0 0) (can : Peelable o k s) {out inn : ℕ} (x : out ≡ (outward a can).0) (y : inn ≡ (inward a can).0)
        {marks queue' keys' : List ℕ} {m : ℕ} (marked : (p : ℕ) → p < points o → get_or marks p 0 ≡ mark (on_rim o (peel k s) p)) (j : Joined o marks queue queue' keys' n m out inn) where
      off_before : (r : ℕ) → on_rim o (peel k s) (apex o r) ≡ false → on_rim o k (apex o r) ≡ false
      off_before r f = ((neither_iff {a = on_rim o k (apex o r)}).0 (sym (on_rim_after a can (apex o r)) ∙ f)).0

      not_peeled : (r : ℕ) → on_rim o (peel k s) (apex o r) ≡ false → r ≡ s → ⊥
      not_peeled r f z = false_iff.0 ((neither_iff {a = on_rim o k (apex o r)}).0 (sym (on_rim_after a can (apex o r)) ∙ f)).1 (eqb_iff.1 (ap (apex o) z))

      unmarked : (r t : ℕ) → r < sides o → on_rim o (peel k s) (apex o r) ≡ false → t ≡ r → get_or marks (apex o t) 0 ≡ 1 → ⊥
      unmarked r t b f z h =
          let e = marked (apex o r) (a.numbered (last r) (last_below (sides o) r a.corners_bound.1 b)) ∙ ap mark f in
          let u = ap (λ q. get_or marks (apex o q) 0) z in
          omega arith

      all_after : (r : ℕ) → r < sides o → removable o (peel k s) r ≡ true → 0 < tally r queue' m
      all_after r b e = waits ((rim_after a can r b).0 ((rim_iff o (peel k s) r).1 ((removable_iff o (peel k s) r).0 e).0))
        where
          off : on_rim o (peel k s) (apex o r) ≡ false
          off = false_iff.1 (λ u. ((removable_iff o (peel k s) r).0 e).1 ((on_rim_iff o (peel k s) (apex o r)).0 u))

          waits : OldOrBared a can r → 0 < tally r queue' m
          waits (inl (t, g)) =
              j.stays r (q.all r b ((removable_iff o k r).1 ((rim_iff o k r).0 t, λ u. false_iff.0 (off_before r off) ((on_rim_iff o k (apex o r)).1 u)))) (λ z. g (sym z ∙ sym is))
          waits (inr (inl z)) = subst (λ t. 0 < tally t queue' m) (x ∙ sym z) (j.one_waits (unmarked r out b off (x ∙ sym z)))
          waits (inr (inr z)) = subst (λ t. 0 < tally t queue' m) (y ∙ sym z) (j.two_waits (unmarked r inn b off (y ∙ sym z)))

      on_after : (r : ℕ) → 0 < tally r queue' m → on_rim o (peel k s) (apex o r) ≡ false → rim o (peel k s) r ≡ true
      on_after r w f = (rim_after a can r (waits_below j.heap r w)).1 (comes (j.only r w))
        where
          comes : (0 < tally r queue n) ⊎ ((out ≡ r) ⊎ (inn ≡ r)) → OldOrBared a can r
          comes (inl h) = inl (q.on r h (off_before r f), not_peeled r f)
          comes (inr (inl z)) = inr (inl (sym z ∙ x))
          comes (inr (inr z)) = inr (inr (sym z ∙ y))

      pub joins : rims o (peel k s) ≡ suc (rims o k) → Queued o (peel k s) queue' keys' m
      joins e = record { heap = j.heap; few = (let u = q.few in let v = j.few in omega arith); all = all_after; on = on_after }

-- the code has found the first's third corner, and reads its mark
module _ {o : Office} {mate kept marks queue keys : List ℕ} {n : ℕ} (h : Held o mate kept marks) (q : Queued o (front o.corners kept) queue keys n) where
  abbrev k : List ℕ
  k = front o.corners kept

  pub nothing_waits : n ≤ 0 → Next o k queue keys n None
  nothing_waits l = record { queued = q; is_best = sym (ap (told o) (none_waits h.acceptable q l)); is_first = λ s e. absurd (let z : ◌≡◌ {A = ℕ} 0 1 = cc in omega arith) }

  module _ (l : 0 < n) {s : ℕ} (is : s ≡ get_or queue 0 0) where
    pub side_there : s < sides o
    side_there = let u = first_below h.acceptable q l in omega arith

    pub third_there : last s < sides o
    third_there = last_below (sides o) s h.acceptable.corners_bound.1 side_there

    apex_point : apex o s < points o
    apex_point = h.acceptable.numbered (last s) third_there

    module _ {p : ℕ} (at : p ≡ apex o s) where
      marked : get_or marks p 0 ≡ mark (on_rim o k (apex o s))
      marked = ap (λ i. get_or marks i 0) at ∙ h.on (apex o s) apex_point

      mark_told : (b : Bool) → on_rim o k (apex o s) ≡ b → get_or marks p 0 ≡ mark b
      mark_told b e = marked ∙ ap mark e

      first_is : (b : Bool) → on_rim o k (apex o s) ≡ b → on_rim o k (apex o (get_or queue 0 0)) ≡ b
      first_is b e = sym (ap (λ r. on_rim o k (apex o r)) is) ∙ e

      pub found : (get_or marks p 0 ≡ 1 → ⊥) → {far : ℕ} → far ≡ get_or keys 0 0 / 268435456 → Next o k queue keys n (Some (record { place = s; squared = far }))
      found f {far} z = step (on_rim o k (apex o s)) refl
        where
          step : (b : Bool) → on_rim o k (apex o s) ≡ b → Next o k queue keys n (Some (record { place = s; squared = far }))
          step true e = absurd (f (mark_told true e))
          step false e = record {
            queued = q;
            is_best = ap (λ q. Some (record { place = s; squared = q })) (z ∙ ap (λ n. n / 268435456) (q.heap.measured 0 l) ∙ key_long o _ ∙ ap (long o) (sym is)) ∙ sym (ap (told o) (first_best h.acceptable q l (first_is false e) ∙ ap some (sym is)));
            is_first = λ r e. (l, (let z : s ≡ r.place = cc in sym z ∙ is));
          }

      pub drops_first : get_or marks p 0 ≡ 1 → {queue' keys' : List ℕ} → Popped o queue queue' keys' n → Queued o k queue' keys' (n - 1)
      drops_first f {queue'} {keys'} d = step (on_rim o k (apex o s)) refl
        where
          step : (b : Bool) → on_rim o k (apex o s) ≡ b → Queued o k queue' keys' (n - 1)
          step true e = drops h.acceptable q l (first_is true e) d
          step false e = absurd (let u = mark_told false e in let w : mark false ≡ 0 = refl in omega arith)
