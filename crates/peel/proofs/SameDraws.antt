-- Document 02, 2/13, of the calls: what draw promises of two exports of an office. Assumes nothing.
use Rattle.rim.specs.declared.Tally.{Tally}
use Rattle.sheet.specs.declared.refusal.Refusal.{Refusal}
use Rattle.std.specs.Prelude.{Result}
use mathlib.Core.Path.{◌≡◌, refl, sym, ap, subst, ◌∙◌}
use mathlib.Core.Bool.{true}
use mathlib.Core.List.{List}
use Prim.Native.Nat.{ℕ, ◌<◌}
use native.Mathlib.Nat.{le_of_lt}
use native.Mathlib.Omega.{arith}
use lib.ListN.{length, get_or, drop, length-map, get_or-append}
use Rattle.laws.specs.First.{table}
use Rattle.laws.specs.Round.{rotated}
use Rattle.laws.proofs.Fill.{length-table, get_or-table}
use Rattle.laws.proofs.OneRound.{length-rotated}
use Rattle.sheet.specs.Office.{Office, office, points, triangles, rims as hull_sides}
use Rattle.sheet.specs.Acceptable.{Acceptable}
use Rattle.sheet.specs.Renumbered.{Renumbered}
use Rattle.sheet.proofs.Accepted.{accepted_lent}
use Rattle.sheet.proofs.SameVerdict.{acceptable_same}
use Rattle.rim.specs.Peel.{mark, on_rim, drawn, rims, ring, peeled, doubled}
use Rattle.peel.specs.List.{outline}
use Rattle.peel.specs.Answer.{tally, draw_answer, draw_room, used, DrawPromise}
use Rattle.peel.specs.Code.{Lent}
use Rattle.peel.specs.Renamed.{Turned}
use Rattle.rim.proofs.Reached.{sound}
use Rattle.peel.proofs.DrawEnds.{drawn_ends}
use Rattle.peel.proofs.Answered.{draw_lent, draw_accepted}
use Rattle.peel.proofs.UsedPart.{ring_sides, used_front}
use Rattle.peel.proofs.TwoExports.{SameOutlines, renumbering}

-- the lent lists of two calls, of which each writes a ring of m points: the same marks for the same triangles and points, and the ring in the new numbers
pub record SameLent {o n : Office} (re : Renumbered o n) (m : ℕ) (kept rim round kept' rim' round' : List ℕ) : Type 0 where
  pub keeps : (t : ℕ) → t < triangles o → get_or kept' (re.triangle.to t) 0 ≡ get_or kept t 0
  pub rims : (p : ℕ) → p < points o → get_or rim' (re.number.to p) 0 ≡ get_or rim p 0
  pub rings : Turned re.number.to (used round m) (used round' m)

pub turned_length : {number : ℕ → ℕ} {k l : List ℕ} → Turned number k l → length l ≡ length k
turned_length {number} {k} ((i, b, e), _) = ap length e ∙ length-map (rotated i k) number ∙ length-rotated i k (le_of_lt b)

-- where a draw of marks at the limit was written
module _ {o : Office} (a : Acceptable o) (limit : ℕ) {kept rim round kept' rim' round' : List ℕ} (h : Lent o (drawn o limit) kept rim round kept' rim' round') where
  kept_at : (t : ℕ) → t < triangles o → get_or kept' t 0 ≡ get_or (drawn o limit) t 0
  kept_at t l =
      let (_, _, r, _) = drawn_ends a limit in
      ap (λ l. get_or l t 0) h.marks ∙ get_or-append (drawn o limit) (drop (triangles o) kept) 0 t (let z = (sound o a r).size in omega arith)

  rim_at : (p : ℕ) → p < points o → get_or rim' p 0 ≡ mark (on_rim o (drawn o limit) p)
  rim_at p l =
      let rule : ℕ → ℕ = λ p. mark (on_rim o (drawn o limit) p) in
      ap (λ l. get_or l p 0) h.on ∙ get_or-append (table rule (points o)) (drop (points o) rim) 0 p (let z = length-table rule (points o) in omega arith) ∙ get_or-table rule (points o) p l

  ring_used : used round' (rims o (drawn o limit)) ≡ ring o (drawn o limit)
  ring_used = ap (λ l. used l (rims o (drawn o limit))) h.goes ∙ used_front (ring o (drawn o limit)) (drop (rims o (drawn o limit)) round) (rims o (drawn o limit)) (ring_sides o (drawn o limit))

module _ {o n : Office} (re : Renumbered o n) (a : Acceptable o) (limit : ℕ) where
  pub same : SameOutlines re
  same = renumbering re a

  pub again : Acceptable n
  again = (acceptable_same re).0 a

  same_peeled : peeled n (drawn n limit) ≡ peeled o (drawn o limit)
  unfolding outline
  same_peeled = (same.draws limit).peels

  same_doubled : doubled n (drawn n limit) ≡ doubled o (drawn o limit)
  unfolding outline
  same_doubled = (same.draws limit).area

  same_ring : Turned re.number.to (ring o (drawn o limit)) (ring n (drawn n limit))
  unfolding outline
  same_ring = (same.draws limit).round

  same_rims : rims n (drawn n limit) ≡ rims o (drawn o limit)
  same_rims = sym (ring_sides n (drawn n limit)) ∙ turned_length same_ring ∙ ring_sides o (drawn o limit)

  same_tally : tally (peeled n (drawn n limit)) (doubled n (drawn n limit)) (rims n (drawn n limit)) ≡ tally (peeled o (drawn o limit)) (doubled o (drawn o limit)) (rims o (drawn o limit))
  same_tally = λ i. tally (same_peeled i) (same_doubled i) (same_rims i)

  pub lent_same : {m : ℕ} {kept rim round k i g kept' rim' round' k' i' g' : List ℕ} → m ≡ rims o (drawn o limit) → Lent o (drawn o limit) kept rim round k i g → Lent n (drawn n limit) kept' rim' round' k' i' g'
      → SameLent re m k i g k' i' g'
  lent_same {m} {g = g} {g' = g'} e x y = record {
    keeps = λ t l. kept_at again limit y _ (re.triangle.to_below t l) ∙ same.keeps limit t l ∙ sym (kept_at a limit x t l);
    rims = λ p l. rim_at again limit y _ (re.number.to_below p l) ∙ ap mark (same.rims limit p) ∙ sym (rim_at a limit x p l);
    rings = subst (Turned re.number.to (used g m)) (sym (ap (used g') (e ∙ sym same_rims) ∙ ring_used again limit y))
        (subst (λ k. Turned re.number.to k (ring n (drawn n limit))) (sym (ap (used g) e ∙ ring_used a limit x)) same_ring);
  }

-- where one export's draw answers a tally, the other's does, if its lent lists have room: the same tally, and lists that are the same but for the new numbers
pub draw_same : {xs ys corners xs' ys' corners' : List ℕ} (re : Renumbered (office xs ys corners) (office xs' ys' corners')) {limit : ℕ}
    {kept rim round kept' rim' round' : List ℕ} {r r' : Result Tally Refusal} {k i g k' i' g' : List ℕ} {p a m : ℕ}
    → DrawPromise xs ys corners limit kept rim round r k i g → DrawPromise xs' ys' corners' limit kept' rim' round' r' k' i' g'
    → draw_answer r ≡ tally p a m → draw_room (office xs' ys' corners') kept' rim' round' ≡ true
    → (draw_answer r' ≡ tally p a m) × SameLent re m k i g k' i' g'
draw_same {xs} {ys} {corners} {xs'} {ys'} {corners'} re {limit} {kept} {rim} {round} {kept'} {rim'} {round'} {p = p} {a} {m} x y e room =
    let (h, v) = draw_accepted x e in
    let (_, acceptable, _) = (accepted_lent (draw_room old kept rim round) old h).0 v in
    let (f, l) = draw_lent x v in
    let (f', l') = draw_lent y ((accepted_lent (draw_room new kept' rim' round') new (hull_sides new)).1 (room, again re acceptable limit, refl)) in
    let t : tally p a m ≡ tally (peeled old (drawn old limit)) (doubled old (drawn old limit)) (rims old (drawn old limit)) = sym e ∙ f in
    let u : m ≡ rims old (drawn old limit) = cc in (
      f' ∙ same_tally re acceptable limit ∙ sym t,
      lent_same re acceptable limit u l l',
    )
  where
    old : Office
    old = office xs ys corners

    new : Office
    new = office xs' ys' corners'
