-- The outline of a matched office is the renumbered outline, from its lowest new number. Assumes nothing.
use mathlib.Core.Path.{◌≡◌, sym, ap, subst, fun_ext, ◌∙◌}
use mathlib.Core.Logic.{inl}
use mathlib.Core.List.{List, map}
use Prim.Native.Nat.{ℕ, ◌+◌, ◌/◌, ◌<◌}
use native.Mathlib.Nat.{le_of_lt}
use native.Mathlib.Omega.{arith}
use lib.ListN.{get_or}
use Rattle.laws.specs.First.{table}
use Rattle.laws.proofs.Bijection.{renamed_round, renamed_at}
use Rattle.laws.specs.Round.{Round, rotated}
use Rattle.laws.proofs.Fill.{length-table, get_or-table}
use Rattle.laws.proofs.OneRound.{one_round, one_length, map-table, rotated-table}
use Rattle.sheet.specs.Office.{Office, rims as hull_sides}
use Rattle.sheet.proofs.Matched.{Matched, turned_back, named, moved, head_moved, each_side}
use Rattle.sheet.specs.Acceptable.{Acceptable}
use Rattle.sheet.proofs.MatchedAccept.{accept}
use Rattle.rim.specs.Peel.{ring}
use Rattle.peel.specs.Renamed.{LowestFirst, Turned}
use Rattle.rim.proofs.Marks.{Way, rim_iff, on_rim_iff}
use Rattle.rim.proofs.Reached.{Sound}
use Rattle.rim.proofs.Rings.{RingRound, outlined}
use Rattle.peel.proofs.MatchedMarks.{Carried, rim_moved}

carried_back : {o n : Office} (re : Matched o n) {k j : List ℕ} → Carried re k j → Carried (turned_back re) j k
carried_back re {k} {j} c = record { mark = each_side re (λ s. get_or k (re.places.from s / 3) 0 ≡ get_or j (s / 3) 0) (λ s l. ap (λ i. get_or k (i / 3) 0) (re.places.from_to s) ∙ sym (c.mark s l)) }

way_moved : {o n : Office} (re : Matched o n) → Acceptable o → {k j : List ℕ} → Carried re k j → (p q : ℕ) → Way o k p q → Way n j (named re p) (named re q)
way_moved {o} {n} re a {k} {j} c p q (s, l, t, x, y) = (
  moved re s,
  re.places.to_below s l,
  (rim_iff n j (moved re s)).1 ((rim_moved re a c s l).0 ((rim_iff o k s).0 t)),
  re.corner s l ∙ ap (named re) x,
  head_moved re a.corners_bound.1 s l ∙ ap (named re) y,
)

pub ring_lowest : {o : Office} {x : ℕ} {k : List ℕ} → Acceptable o → Sound o x k → LowestFirst (ring o k)
ring_lowest {o} {x} {k} a h = subst LowestFirst (sym w.reads) lowest
  where
    m : ℕ
    m = hull_sides o + x

    w : RingRound o k m
    w = outlined a h

    lowest : LowestFirst (table w.round.at m)
    lowest i b =
        let c : i < m = rw (length-table w.round.at m) at b in
        let (s, l, t, e, _) = w.round.goes i in
        rw (get_or-table w.round.at m 0 (omega arith), get_or-table w.round.at m i c) (w.lowest (w.round.at i) ((on_rim_iff o k (w.round.at i)).1 (s, l, inl e, (rim_iff o k s).0 t)))

module _ {o n : Office} (re : Matched o n) (a : Acceptable o) where
  pub ring_carried : {x y : ℕ} {k j : List ℕ} → Sound o x k → Sound n y j → Carried re k j → Turned (named re) (ring o k) (ring n j)
  ring_carried {x} {y} {k} {j} h g c = ((i, rw (v.reads, length-table v.round.at m) l, same), ring_lowest (accept re a) g)
    where
      m : ℕ
      m = hull_sides o + x

      v : RingRound o k m
      v = outlined a h

      w : RingRound n j (hull_sides n + y)
      w = outlined (accept re a) g

      to : (p q : ℕ) → Way o k p q → Way n j (named re p) (named re q)
      to = way_moved re a c

      from : (p q : ℕ) → Way n j p q → Way o k (re.numbers.from p) (re.numbers.from q)
      from = way_moved (turned_back re) (accept re a) (carried_back re c)

      r : Round (Way n j) m
      r = renamed_round re.numbers to from v.round

      i : ℕ
      i = (one_round r w.round).0

      l : i < m
      l = (one_round r w.round).1

      same : ring n j ≡ map (named re) (rotated i (ring o k))
      same =
          w.reads
          ∙ ap (table w.round.at) (one_length r w.round)
          ∙ ap (λ f. table f m) (fun_ext (λ t. (one_round r w.round).2 t ∙ renamed_at re.numbers to from v.round (i + t)))
          ∙ sym (map-table (named re) (λ t. v.round.at (i + t)) m)
          ∙ ap (map (named re)) (sym (rotated-table v.round.at m i (le_of_lt l) v.round.back))
          ∙ ap (λ l. map (named re) (rotated i l)) (sym v.reads)
