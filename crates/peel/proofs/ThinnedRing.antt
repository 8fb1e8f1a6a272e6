-- Document 02, 11/13, of the rings: how many points are on the outline at a limit, and that its ring is the ring of limit 0 without the points
-- that the index keeps off, from the lowest of the others on. Assumes nothing.
use mathlib.Core.Path.{◌≡◌, sym, ap, subst, ◌∙◌}
use mathlib.Core.Logic.{◌⊎◌, inl, inr}
use mathlib.Core.Bool.{true}
use mathlib.Core.List.{List, append-nil}
use Prim.Native.Nat.{ℕ, ◌+◌, ◌<◌, ◌≤◌}
use native.Mathlib.Omega.{arith}
use lib.Dec.{eqb}
use lib.ListN.{length, get_or}
use Rattle.laws.specs.First.{first, table, count}
use Rattle.laws.specs.Round.{rotated}
use Rattle.laws.proofs.Test.{false_iff, eqb_iff, first_of}
use Rattle.laws.proofs.Search.{first_hit}
use Rattle.laws.proofs.Fill.{length-table, get_or-table}
use Rattle.laws.proofs.Front.{table_same}
use Rattle.laws.proofs.Round.{apart_early, from_step, from_step_at}
use Rattle.laws.proofs.OneRound.{one_round, one_length, rotated-table}
use Rattle.sheet.specs.Office.{Office, points, rims as hull_sides}
use Rattle.sheet.specs.Acceptable.{Acceptable}
use Rattle.rim.specs.Peel.{on_rim, drawn, ring}
use Rattle.rim.proofs.Reached.{sound}
use Rattle.rim.proofs.Rings.{RingRound, outlined, ring_length}
use Rattle.peel.specs.List.{Entry, At, entries, outline}
use Rattle.peel.specs.LookUp.{place_of}
use Rattle.peel.specs.Index.{keep, index, limits, counts, above, shown, begin, thin, thinned}
use Rattle.peel.proofs.DrawEnds.{drawn_ends}
use Rattle.peel.proofs.Falls.{column_at}
use Rattle.peel.proofs.Entries.{entry_drawn, placed}
use Rattle.peel.proofs.Keep.{keep_within, keep_head, thin_same}
use Rattle.peel.proofs.Indexes.{on_outline, indexed}
use Rattle.peel.proofs.RoundPoints.{rim_at, at_point, rim_count}
use Rattle.peel.proofs.Thinned.{drawn_thins}

module _ {o : Office} (a : Acceptable o) where
  -- the points on the outline are those of the ring
  pub ring_count : (limit : ℕ) → count (on_rim o (drawn o limit)) (points o) ≡ length (ring o (drawn o limit))
  ring_count limit = let (n, _, r, _) = drawn_ends a limit in let h = sound o a r in rim_count o (drawn o limit) h.round a ∙ sym (ring_length a h)

  -- and the pair looked up tells how many
  pub pair_count : (limit : ℕ) → get_or (counts o) (place_of (limits o) limit) 0 ≡ count (on_rim o (drawn o limit)) (points o)
  unfolding counts outline
  pair_count limit = let (e, h, _, x) = placed a limit in column_at (λ e. length e.outline.round) (entries o) _ h ∙ ap (λ x. length x.round) x ∙ sym (ring_count limit)

  -- a point on the outline is on it at each smaller limit
  pub on_at_smaller : (small large p : ℕ) → small ≤ large → on_rim o (drawn o large) p ≡ true → on_rim o (drawn o small) p ≡ true
  on_at_smaller small large p l e = ((indexed a p).agrees small).1 (step (((indexed a p).agrees large).0 e))
    where
      step : (large < index o p) ⊎ (index o p ≡ 4294967295) → (small < index o p) ⊎ (index o p ≡ 4294967295)
      step (inl h) = inl (omega arith)
      step (inr h) = inr h

  abbrev Rung : List ℕ → Type 0
  Rung k = (m : ℕ) × RingRound o k m

  rung : (limit : ℕ) → Rung (drawn o limit)
  rung limit = let (n, _, r, _) = drawn_ends a limit in (hull_sides o + n, outlined a (sound o a r))

  module _ (limit : ℕ) {m c : ℕ} (here : RingRound o (drawn o limit) m) (last : RingRound o (drawn o 0) c) where
    -- the lowest point on the outline, by the index
    lowest : first (shown o limit) (points o) ≡ here.round.at 0
    lowest = first_hit (shown o limit) (points o) (here.round.at 0) (at_point o (drawn o limit) here.round a 0)
        (λ p l. false_iff.1 (λ e. let z = here.lowest p (on_outline a p limit ∙ e) in omega arith)) (sym (on_outline a (here.round.at 0) limit) ∙ here.begins)

    size : length (ring o (drawn o 0)) ≡ c
    size = ap length last.reads ∙ length-table last.round.at c

    read : (i : ℕ) → i < c → get_or (ring o (drawn o 0)) i 0 ≡ last.round.at i
    read i l = ap (λ (l : List ℕ). get_or l i 0) last.reads ∙ get_or-table last.round.at c i l

    at_zero : on_rim o (drawn o 0) (here.round.at 0) ≡ true
    at_zero = on_at_smaller 0 limit (here.round.at 0) (omega arith) here.begins

    -- it stands in the ring of limit 0
    found : (begin (shown o limit) (points o) (ring o (drawn o 0)) < c) × (last.round.at (begin (shown o limit) (points o) (ring o (drawn o 0))) ≡ here.round.at 0)
    found =
        let row = ring o (drawn o 0) in
        let e = size in
        let (i, l, f) = rim_at o (drawn o 0) last.round (here.round.at 0) at_zero in
        let (b, t) = first_of (λ i. eqb (get_or row i 0) (first (shown o limit) (points o))) (length row) i (omega arith) (eqb_iff.1 (read i l ∙ f ∙ sym lowest)) in
        let d : begin (shown o limit) (points o) row < c = omega arith in
        (d, sym (read (begin (shown o limit) (points o) row) d) ∙ eqb_iff.0 t ∙ lowest)

    -- at its front, where the point there is on the outline
    front : shown o limit (get_or (ring o (drawn o 0)) 0 0) ≡ true → begin (shown o limit) (points o) (ring o (drawn o 0)) ≡ 0
    front e =
        let z = read 0 last.round.long in
        let x = here.lowest (get_or (ring o (drawn o 0)) 0 0) (on_outline a (get_or (ring o (drawn o 0)) 0 0) limit ∙ e) in
        let y = last.lowest (here.round.at 0) at_zero in
        let w = lowest in
        let f : get_or (ring o (drawn o 0)) 0 0 ≡ first (shown o limit) (points o) = omega arith in
        first_hit (λ i. eqb (get_or (ring o (drawn o 0)) i 0) (first (shown o limit) (points o))) (length (ring o (drawn o 0))) 0
        (let l = last.round.long in let q = size in omega arith) (λ i l. absurd (omega arith)) (eqb_iff.1 f)

    by_rounds : ring o (drawn o limit) ≡ thinned o limit
    unfolding thin
    by_rounds =
        let (b, e) = found in
        let i = begin (shown o limit) (points o) (ring o (drawn o 0)) in
        let r = from_step last.round i in
        let test = on_rim o (drawn o limit) in
        let (n, q, f) = drawn_thins a 0 limit (omega arith) c r in
        let start : r.at 0 ≡ here.round.at 0 = from_step_at last.round i 0 ∙ ap last.round.at (omega arith) ∙ e in
        let begins : q.at 0 ≡ here.round.at 0 =
        sym (get_or-table q.at n 0 q.long) ∙ ap (λ (l : List ℕ). get_or l 0 0) f ∙ keep_head test r.at c r.long (subst (λ p. test p ≡ true) (sym start) here.begins) ∙ start in
        let (j, l, w) = one_round here.round q in
        let zero : j ≡ 0 = apart_early here.round j 0 l here.round.long (ap here.round.at (omega arith) ∙ sym (w 0) ∙ begins) in
        here.reads
        ∙ ap (table here.round.at) (sym (one_length here.round q))
        ∙ table_same here.round.at q.at n (λ x _. ap here.round.at (omega arith) ∙ sym (w x))
        ∙ f
        ∙ ap (keep test) (table_same r.at (λ x. last.round.at (i + x)) c (λ x _. from_step_at last.round i x) ∙ sym (rotated-table last.round.at c i (omega arith) last.round.back) ∙ ap (rotated i) (sym last.reads))
        ∙ keep_within test (shown o limit) (rotated i (ring o (drawn o 0))) (λ x _. on_outline a _ limit)

  pub ring_thinned : (limit : ℕ) → ring o (drawn o limit) ≡ thinned o limit
  ring_thinned limit = let (m, here) = rung limit in let (c, last) = rung 0 in by_rounds limit here last

  -- so is that of an entry
  pub entry_thinned : (i : ℕ) (e : Entry) → At (entries o) i e → e.outline.round ≡ thinned o e.least
  unfolding outline
  entry_thinned i e h = ap (λ x. x.round) (entry_drawn a i e h) ∙ ring_thinned e.least

  -- by a list that holds the index of each point
  pub ring_by_list : (limit : ℕ) (list : List ℕ) → ((p : ℕ) → p < points o → get_or list p 0 ≡ index o p)
      → ring o (drawn o limit) ≡ thin (λ p. above limit (get_or list p 0)) (points o) (ring o (drawn o 0))
  ring_by_list limit list e =
      let (c, last) = rung 0 in
      ring_thinned limit
      ∙ thin_same (shown o limit) (λ p. above limit (get_or list p 0)) (points o) (ring o (drawn o 0)) (λ p l. ap (above limit) (sym (e p l)))
      (λ i l. subst (λ p. p < points o) (sym (read 0 (rung 0).1 last i (let z = size 0 (rung 0).1 last in omega arith))) (at_point o (drawn o 0) last.round a i))

  -- where the first point of the ring of limit 0 is on the outline, as one of the hull always is, nothing has to be turned
  pub ring_kept : (limit : ℕ) → shown o limit (get_or (ring o (drawn o 0)) 0 0) ≡ true → ring o (drawn o limit) ≡ keep (shown o limit) (ring o (drawn o 0))
  unfolding thin
  ring_kept limit e =
      let (m, here) = rung limit in
      let (c, last) = rung 0 in
      ring_thinned limit ∙ ap (λ i. keep (shown o limit) (rotated i (ring o (drawn o 0)))) (front limit here last e) ∙ ap (keep (shown o limit)) (append-nil (ring o (drawn o 0)))
