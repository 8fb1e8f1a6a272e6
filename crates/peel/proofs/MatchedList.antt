-- The list of a matched office has the same least limits, peels and areas, entry by entry, and the renumbered outlines. Assumes nothing.
use mathlib.Core.Path.{◌≡◌, refl, sym, ap, ap₂, subst}
use mathlib.Core.Bool.{Bool, true, false, cond}
use mathlib.Core.List.{List, ◌∷◌, map}
use mathlib.Core.Option
use mathlib.Core.Option.{Option, none, some, some-injective}
use Prim.Native.Nat.{ℕ, zero, suc, ◌<◌}
use native.Mathlib.Omega.{arith}
use lib.Dec.{ltb}
use lib.ListN.{length}
use Rattle.sheet.specs.Office.{Office, sides, triangles}
use Rattle.sheet.proofs.Matched.{Matched, named, moved}
use Rattle.sheet.specs.Acceptable.{Acceptable}
use Rattle.sheet.proofs.MatchedAccept.{accept}
use Rattle.rim.specs.Peel.{removable, best, long, peel, whole, drawn}
use Rattle.peel.specs.List.{Entry, At, outline, entry, listed, entries_from, entries}
use Rattle.peel.specs.Renamed.{Renamed, Paired, ended, paired}
use Rattle.rim.specs.Reached.{Reached, begun, more}
use Rattle.rim.proofs.Reached.{sound}
use Rattle.rim.proofs.TopSide.{Top, best_top}
use Rattle.peel.proofs.DrawEnds.{drawn_ends}
use Rattle.peel.proofs.MatchedMarks.{Carried, whole_carried, long_moved, removable_moved, best_moved, peel_carried}
use Rattle.peel.proofs.MatchedDraw.{same_triangles, drawn_carried, peeled_same, doubled_same}
use Rattle.peel.proofs.MatchedRing.{ring_carried}

-- marks k and j are reached in as many peels, and keep the same triangles
record Abreast {o n : Office} (re : Matched o n) (k j : List ℕ) : Type 0 where
  peels : ℕ
  old : Reached o peels k
  new : Reached n peels j
  carried : Carried re k j

module _ {o n : Office} (re : Matched o n) (a : Acceptable o) where
  renamed : {x y : ℕ} {k j : List ℕ} → Reached o x k → Reached n y j → Carried re k j → Renamed (named re) (outline o k) (outline n j)
  unfolding outline
  renamed r t c = record {
    peels = peeled_same re a c;
    area = doubled_same re a c;
    round = ring_carried re a (sound o a r) (sound n (accept re a) t) c;
  }

  begun_abreast : Abreast re (whole o) (whole n)
  begun_abreast = record { peels = 0; old = begun; new = begun; carried = whole_carried re a }

  more_abreast : {k j : List ℕ} (s : ℕ) → s < sides o → removable o k s ≡ true → Abreast re k j → Abreast re (peel k s) (peel j (moved re s))
  more_abreast s l e h = record {
    peels = suc h.peels;
    old = more s h.old l e;
    new = more (moved re s) h.new (re.places.to_below s l) ((removable_moved re a h.carried s l).0 e);
    carried = peel_carried re a h.carried s l;
  }

  -- what a draw gives
  pub drawn_renamed : (limit : ℕ) → Renamed (named re) (outline o (drawn o limit)) (outline n (drawn n limit))
  drawn_renamed limit =
      let (_, _, r, _) = drawn_ends a limit in
      let (_, _, t, _) = drawn_ends (accept re a) limit in
      renamed r t (drawn_carried re a limit)

  one_paired : {k j : List ℕ} (least : ℕ) {es ds : List Entry} → Abreast re k j → Paired (named re) es ds → Paired (named re) (entry o least k ∷ es) (entry n least j ∷ ds)
  one_paired least h = paired refl (renamed h.old h.new h.carried)

  -- the lists from marks k and from marks j on
  abbrev Both : (ℕ → List ℕ → List Entry) → (ℕ → List ℕ → List Entry) → Type 0
  Both from again = (m : ℕ) (k j : List ℕ) → Abreast re k j → Paired (named re) (from m k) (again m j)

  listed_paired : (from again : ℕ → List ℕ → List Entry) → Both from again → (m : ℕ) {k j : List ℕ} (b : Option ℕ) → Abreast re k j → Top a k (sides o) b
      → Paired (named re) (listed o from m k b) (listed n again m j (Option.map (moved re) b))
  unfolding listed
  listed_paired from again ih m none h top = one_paired 0 h ended
  listed_paired from again ih m {k} {j} (some s) h (l, e, _) = rw (long_moved re a s l) (step (ltb (long o s) m))
    where
      rest : (m : ℕ) → Paired (named re) (from m (peel k s)) (again m (peel j (moved re s)))
      rest m = ih m (peel k s) (peel j (moved re s)) (more_abreast s l e h)

      step : (b : Bool) → Paired (named re) (cond b (entry o (long o s) k ∷ from (long o s) (peel k s)) (from m (peel k s)))
          (cond b (entry n (long o s) j ∷ again (long o s) (peel j (moved re s))) (again m (peel j (moved re s))))
      step true = one_paired (long o s) h (rest (long o s))
      step false = rest m

  from_paired : (fuel : ℕ) → Both (entries_from o fuel) (entries_from n fuel)
  unfolding entries_from
  from_paired zero m k j h = one_paired 0 h ended
  from_paired (suc fuel) m k j h =
      subst (λ b. Paired (named re) (listed o (entries_from o fuel) m k (best o k)) (listed n (entries_from n fuel) m j b)) (sym (best_moved re a h.carried))
      (listed_paired (entries_from o fuel) (entries_from n fuel) (from_paired fuel) m (best o k) h (best_top a k))

  pub entries_paired : Paired (named re) (entries o) (entries n)
  unfolding entries
  entries_paired =
      subst (λ f. Paired (named re) (entries o) (entries_from n f 4294967296 (whole n))) (sym (same_triangles re a))
      (from_paired (triangles o) 4294967296 (whole o) (whole n) begun_abreast)

module _ {number : ℕ → ℕ} where
  pub paired_length : {es ds : List Entry} → Paired number es ds → length ds ≡ length es
  paired_length ended = refl
  paired_length (paired _ _ p) = ap suc (paired_length p)

  -- entry by entry
  pub paired_at : {es ds : List Entry} {e d : Entry} → Paired number es ds → (i : ℕ) → At es i e → At ds i d → (d.least ≡ e.least) × Renamed number e.outline d.outline
  paired_at ended i h k = absurd (let z : ◌≡◌ {A = ℕ} 0 1 = cc in omega arith)
  paired_at {e = e} {d} (paired {e = x} {d = y} l w p) zero h k =
      let u : x ≡ e = some-injective _ _ h in
      let v : y ≡ d = some-injective _ _ k in
      subst (λ x. (d.least ≡ x.least) × Renamed number x.outline d.outline) u (subst (λ y. (y.least ≡ x.least) × Renamed number x.outline y.outline) v (l, w))
  paired_at (paired _ _ p) (suc i) h k = paired_at p i h k

  -- column by column
  pub same_column : (column : Entry → ℕ) → ((e d : Entry) → d.least ≡ e.least → Renamed number e.outline d.outline → column d ≡ column e)
      → {es ds : List Entry} → Paired number es ds → map column ds ≡ map column es
  same_column column f ended = refl
  same_column column f (paired {e} {d} l w p) = ap₂ (λ x xs. x ∷ xs) (f e d l w) (same_column column f p)
