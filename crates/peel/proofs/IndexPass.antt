-- One pass over the peels of limit 0 fills the index: the laws for code that peels on. Assumes nothing.
use mathlib.Core.Path.{◌≡◌, refl, sym, ap, ap₂, subst, ◌∙◌}
use mathlib.Core.Logic.{◌⊎◌, inl, inr}
use mathlib.Core.Bool.{Bool, true, false, cond, ◌||◌}
use mathlib.Core.List.{List, ◌++◌}
use mathlib.Core.Option.{none, some}
use Prim.Native.Nat.{ℕ, zero, suc, ◌-◌, ◌<◌, ◌≤◌}
use native.Mathlib.Omega.{arith}
use lib.Dec.{eqb}
use lib.ListN.{length, get_or, set, take, drop, length-set, take-append-drop}
use lib.Seq.{get_or-set_same, get_or-set_other, get_or-take, drop-set-lt, length-take-le, ext_get_or}
use Rattle.laws.proofs.Test.{false_iff, or_iff, neither_iff, eqb_iff}
use Rattle.laws.proofs.Fill.{length-table, get_or-table}
use Rattle.sheet.specs.Office.{Office, points, sides, triangles, apex, last}
use Rattle.sheet.specs.Acceptable.{Acceptable}
use Rattle.sheet.proofs.Side.{last_below}
use Rattle.rim.specs.Peel.{on_rim, long, best, peel, whole}
use Rattle.rim.specs.Reached.{Reached}
use Rattle.rim.proofs.Marks.{on_rim_iff}
use Rattle.rim.proofs.OnePeel.{off}
use Rattle.rim.proofs.Reached.{sound, peelable}
use Rattle.rim.proofs.Rings.{some_kept}
use Rattle.rim.proofs.TopSide.{Top, best_top}
use Rattle.peel.specs.Index.{smaller, bared, index_from, index, indices}
use Rattle.peel.proofs.Indexes.{rim_grows}

-- after n peels, at marks k, `shortest` the least length so far: the points on the rim have their index, the others 0 as yet; later places are as lent
pub record Indexing (o : Office) (lent : List ℕ) (n shortest : ℕ) (k list : List ℕ) : Type 0 where
  pub room : points o ≤ length list
  pub rest : drop (points o) list ≡ drop (points o) lent
  pub done : (p : ℕ) → p < points o → on_rim o k p ≡ true → get_or list p 0 ≡ index o p
  pub not_yet : (p : ℕ) → p < points o → on_rim o k p ≡ false → get_or list p 0 ≡ 0
  pub to_come : (p : ℕ) → p < points o → on_rim o k p ≡ false → index_from o (triangles o - n) shortest k p ≡ index o p

module _ (o : Office) (k : List ℕ) (shortest p : ℕ) where
  unrolled : (s fuel : ℕ) → best o k ≡ some s
      → index_from o (suc fuel) shortest k p ≡ cond (eqb p (apex o s)) (smaller (long o s) shortest) (index_from o fuel (smaller (long o s) shortest) (peel k s) p)
  unfolding index_from bared
  unrolled s fuel e = ap (bared o (λ least j. index_from o fuel least j p) shortest k p) e

  nothing : (fuel : ℕ) → best o k ≡ none → index_from o fuel shortest k p ≡ 0
  unfolding index_from bared
  nothing zero e = refl
  nothing (suc fuel) e = ap (bared o (λ least j. index_from o fuel least j p) shortest k p) e

module _ {o : Office} {lent : List ℕ} where
  pub indexing_starts : {list : List ℕ} → points o ≤ length list → drop (points o) list ≡ drop (points o) lent
      → ((p : ℕ) → p < points o → get_or list p 0 ≡ cond (on_rim o (whole o) p) 4294967295 0) → Indexing o lent 0 4294967295 (whole o) list
  unfolding index
  indexing_starts room rest f = record {
    room = room;
    rest = rest;
    done = λ p l e. rw e (f p l ∙ ap (λ b. cond b 4294967295 0) e);
    not_yet = λ p l e. f p l ∙ ap (λ b. cond b 4294967295 0) e;
    to_come = λ p l e. rw e (ap (λ n. index_from o n 4294967295 (whole o) p) (omega arith));
  }

  module _ (a : Acceptable o) {n shortest : ℕ} {k list : List ℕ} (r : Reached o n k) where
    -- a peel notes the index of the point that it bares
    pub indexing_peels : {s : ℕ} → best o k ≡ some s → Indexing o lent n shortest k list
        → Indexing o lent (suc n) (smaller (long o s) shortest) (peel k s) (set list (apex o s) (smaller (long o s) shortest))
    indexing_peels {s} e h = record {
      room = (let z = length-set list c m in let w = h.room in omega arith);
      rest = drop-set-lt (points o) list c m there ∙ h.rest;
      done = λ p l x. found p l ((or_iff {a = on_rim o k p}).0 (sym (grows p) ∙ x));
      not_yet = λ p l x. let (u, v) = (neither_iff {a = on_rim o k p}).0 (sym (grows p) ∙ x) in get_or-set_other list c p m 0 (λ z. false_iff.0 v (eqb_iff.1 z)) ∙ h.not_yet p l u;
      to_come = λ p l x. let (u, v) = (neither_iff {a = on_rim o k p}).0 (sym (grows p) ∙ x) in sym (unfolds p ∙ ap (λ b. cond b m (left p)) v) ∙ h.to_come p l u;
    }
      where
        c : ℕ
        c = apex o s

        m : ℕ
        m = smaller (long o s) shortest

        top : Top a k (sides o) (some s)
        top = subst (Top a k (sides o)) e (best_top a k)

        there : c < points o
        there = a.numbered (last s) (last_below (sides o) s a.corners_bound.1 top.0)

        grows : (p : ℕ) → on_rim o (peel k s) p ≡ (on_rim o k p || eqb p c)
        grows p = rim_grows a s p r top.0 top

        left : ℕ → ℕ
        left p = index_from o (triangles o - suc n) m (peel k s) p

        unfolds : (p : ℕ) → index_from o (triangles o - n) shortest k p ≡ cond (eqb p c) m (left p)
        unfolds p =
            let f : triangles o - n ≡ suc (triangles o - suc n) = (let w = some_kept a (sound o a r) in omega arith) in
            ap (λ fuel. index_from o fuel shortest k p) f ∙ unrolled o k shortest p s (triangles o - suc n) e

        bare : on_rim o k c ≡ true → ⊥
        bare x = off a (peelable o a (sound o a r) s top.0 top.1) ((on_rim_iff o k c).0 x)

        found : (p : ℕ) → p < points o → (on_rim o k p ≡ true) ⊎ (eqb p c ≡ true) → get_or (set list c m) p 0 ≡ index o p
        found p l (inl x) = get_or-set_other list c p m 0 (λ z. bare (ap (on_rim o k) (sym z) ∙ x)) ∙ h.done p l x
        found p l (inr x) =
            let z : p ≡ c = eqb_iff.0 x in
            ap (λ q. get_or (set list c m) q 0) z
            ∙ get_or-set_same list c m 0 (let w = h.room in let t = there in omega arith)
            ∙ sym (unfolds p ∙ ap (λ b. cond b m (left p)) x)
            ∙ h.to_come p l (false_iff.1 (λ y. bare (ap (on_rim o k) (sym z) ∙ y)))

    -- where nothing is left to peel, the list is the index
    pub indexing_ends : best o k ≡ none → Indexing o lent n shortest k list → list ≡ indices o ++ drop (points o) lent
    indexing_ends e h = sym (take-append-drop (points o) list) ∙ ap₂ ◌++◌ front h.rest
      where
        at : (p : ℕ) → p < points o → (b : Bool) → on_rim o k p ≡ b → get_or list p 0 ≡ index o p
        at p l true x = h.done p l x
        at p l false x = h.not_yet p l x ∙ sym (nothing o k shortest p (triangles o - n) e) ∙ h.to_come p l x

        front : take (points o) list ≡ indices o
        front =
            let z = length-take-le (points o) list h.room in
            let w = length-table (index o) (points o) in
            ext_get_or 0 (take (points o) list) (indices o) (z ∙ sym w)
            (λ p l. get_or-take (points o) list p 0 (omega arith) ∙ at p (omega arith) (on_rim o k p) refl ∙ sym (get_or-table (index o) (points o) p (omega arith)))

-- what answers the needs of such a loop
pub ruleset index_pass = (indexing_starts, indexing_peels, indexing_ends)
