-- Whatever satisfies the promise of index leaves in memory what document 02's 11/13 asks; a refusal leaves all as lent. Assumes nothing.
use mathlib.Core.Path.{◌≡◌, refl, sym, ap, subst, ◌∙◌}
use mathlib.Core.Bool.{true}
use mathlib.Core.List.{List}
use Prim.Native.Nat.{ℕ, ◌-◌, ◌≤◌}
use native.Mathlib.Omega.{arith}
use lib.ListN.{length, get_or, take, drop, length-map}
use lib.Seq.{take_at}
use Rattle.laws.proofs.Test.{plain}
use Rattle.laws.proofs.Fill.{length-table, get_or-table}
use Rattle.sheet.specs.Office.{Office, office, points}
use Rattle.sheet.specs.Acceptable.{Acceptable}
use Rattle.sheet.specs.Verdict.{Verdict, accepted, refused, verdict}
use Rattle.sheet.proofs.Accepted.{accepted_lent}
use Rattle.peel.specs.List.{Entry, entries}
use Rattle.peel.specs.LookUp.{place_of, Falling}
use Rattle.peel.specs.Index.{index, indices, limits, counts, Indexed}
use Rattle.peel.specs.Answer.{Answer, count, refusal}
use Rattle.peel.specs.Meaning.{Over}
use Rattle.peel.specs.IndexAnswer.{indexing, index_room, after_index, IndexPromise, IndexMeans}
use Rattle.peel.proofs.Falls.{below_at}
use Rattle.peel.proofs.Entries.{entries_fit, placed}
use Rattle.peel.proofs.SameOutline.{limits_fall}
use Rattle.peel.proofs.Indexes.{indexed}
use Rattle.peel.proofs.ThinnedRing.{pair_count}
use Rattle.peel.proofs.Answered.{count-not, same_refused}
use Rattle.peel.proofs.Meaning.{over}

-- a pair for each entry
pub limits_length : (o : Office) → length (limits o) ≡ length (entries o)
unfolding limits
limits_length o = length-map (entries o) (λ (e : Entry). e.least)

pub counts_length : (o : Office) → length (counts o) ≡ length (entries o)
unfolding counts
counts_length o = length-map (entries o) (λ (e : Entry). length e.outline.round)

index_places : (o : Office) (list least number : List ℕ) → index_room o list least number ≡ true → (points o ≤ length list) × (points o - 2 ≤ length least) × (points o - 2 ≤ length number)
index_places o list least number e = let ((x, y), z) = simp plain at e in (x, y, z)

module _ {xs ys corners list least number : List ℕ} {r : Answer} {list' least' number' : List ℕ} (d : IndexPromise xs ys corners list least number r list' least' number') where
  abbrev o : Office
  o = office xs ys corners

  abbrev v : Verdict
  v = verdict (index_room o list least number) o

  by_verdict : {w : Verdict} → v ≡ w → after_index xs ys corners list least number ≡ indexing o w list least number
  unfolding after_index
  by_verdict e = ap (λ w. indexing o w list least number) e

  given : {h : ℕ} → v ≡ accepted h → IndexMeans o (length (entries o)) list least number list' least' number'
  unfolding indexing
  given {h} w =
      let (t, a, _) = (accepted_lent (index_room o list least number) o h).0 w in
      let (x, y, z) = index_places o list least number t in
      let e = by_verdict w in
      let f = entries_fit a in
      let one : Over (indices o) list list' = over (indices o) list list' (points o) (length-table (index o) (points o)) x (d.index_is ∙ ap (λ x. x.index) e) in
      let written = d.limits_are ∙ ap (λ x. x.limits) e in
      let two : Over (limits o) least least' = over (limits o) least least' (length (entries o)) (limits_length o) (omega arith) written in
      let three : Over (counts o) number number' = over (counts o) number number' (length (entries o)) (counts_length o) (omega arith) (d.counts_are ∙ ap (λ x. x.counts) e) in
      let front : take (length (entries o)) least' ≡ limits o = ap (take (length (entries o))) written ∙ take_at (limits o) (drop (length (entries o)) least) (length (entries o)) (limits_length o) in
      record {
        acceptable = a;
        room = (x, y, z);
        each = λ p l. subst (Indexed o p) (sym (one.front p (let q = length-table (index o) (points o) in omega arith) ∙ get_or-table (index o) (points o) p l)) (indexed a p);
        pairs_are = refl;
        falling = subst Falling (sym front) (limits_fall a);
        looks_up = λ limit.
            let (_, at, _, _) = placed a limit in
            let b = below_at (entries o) (place_of (limits o) limit) at in
            ap (λ (l : List ℕ). get_or number' (place_of l limit) 0) front
            ∙ three.front (place_of (limits o) limit) (let q = counts_length o in omega arith)
            ∙ pair_count a limit;
        indexes = one;
        leasts = two;
        numbers = three;
      }

  -- a refusal is the check's, and the lists are as lent
  unlent : {n q : ℕ} → v ≡ refused n q → (r ≡ refusal n q) × (list' ≡ list) × (least' ≡ least) × (number' ≡ number)
  unfolding indexing
  unlent w = let e = by_verdict w in (d.answers ∙ ap (λ x. x.answer) e, d.index_is ∙ ap (λ x. x.index) e, d.limits_are ∙ ap (λ x. x.limits) e, d.counts_are ∙ ap (λ x. x.counts) e)

  told : {h : ℕ} → v ≡ accepted h → r ≡ count (length (entries o))
  unfolding indexing
  told w = d.answers ∙ ap (λ x. x.answer) (by_verdict w)

  pub index_means : {c : ℕ} → r ≡ count c → IndexMeans o c list least number list' least' number'
  index_means {c} e = by v refl
    where
      by : (w : Verdict) → v ≡ w → IndexMeans o c list least number list' least' number'
      by (accepted h) w =
          let t : count (length (entries o)) ≡ count c = sym (told w) ∙ e in
          let same : length (entries o) ≡ c = cc in
          subst (λ c. IndexMeans o c list least number list' least' number') same (given w)
      by (refused n q) w = absurd (count-not (sym e ∙ (unlent w).0))

  pub index_refuses : {n q : ℕ} → r ≡ refusal n q → (v ≡ refused n q) × (list' ≡ list) × (least' ≡ least) × (number' ≡ number)
  index_refuses {n} {q} e = by v refl
    where
      by : (w : Verdict) → v ≡ w → (v ≡ refused n q) × (list' ≡ list) × (least' ≡ least) × (number' ≡ number)
      by (accepted h) w = absurd (count-not (sym (told w) ∙ e))
      by (refused c p) w = let (f, x, y, z) = unlent w in (w ∙ same_refused (sym f ∙ e), x, y, z)

  -- and an acceptable office whose lent lists have room is not refused
  pub index_answers : index_room o list least number ≡ true → Acceptable o → r ≡ count (length (entries o))
  index_answers room a = told ((accepted_lent (index_room o list least number) o _).1 (room, a, refl))
