-- Sides and their mates, one point at a time: the sides from it are noted where they end, then those to it look there. Assumes nothing.
use mathlib.Core.Path.{◌≡◌, refl, sym, ap, subst, ◌∙◌}
use mathlib.Core.Bool.{Bool, true, false, true≢false, cond, ◌&&◌}
use mathlib.Core.Logic.{◌⊎◌, inl, inr}
use mathlib.Core.List.{List}
use Prim.Native.Nat.{ℕ, suc, ◌+◌, ◌%◌, ◌<◌, ◌≤◌}
use native.Mathlib.Decide.{ℕ_discrete, dec_lt}
use native.Mathlib.Omega.{arith}
use lib.Dec.{ltb, eqb}
use lib.ListN.{length, get_or, set, drop, replicate, length-set, length-replicate, get_or-replicate}
use lib.Seq.{get_or-set_same, get_or-set_other, drop-set-lt}
use borrow.Author.Tests.{eq-eqb, eqb-true, lt-ltb, le-ltb, ltb-true}
use Rattle.laws.specs.First.{final}
use Rattle.laws.proofs.Search.{first_hit, first-none}
use Rattle.laws.proofs.Final.{IsFinal, at, nowhere, final_is}
use Rattle.laws.proofs.Fill.{fills_front}
use Rattle.laws.proofs.Test.{false_iff, and_iff}
use Rattle.sheet.specs.Office.{bare, next, last, tail, head, reverse, mate_of}
use Rattle.sheet.specs.Acceptable.{Single}
use Rattle.sheet.specs.Code.{Numbered, starts, Mated, Noted, Placed, Right, Righted}
use Rattle.sheet.proofs.Side.{next_last, last_next, next_below, last_below}
use Rattle.sheet.proofs.Chain.{rank}

pub rank_some : (r : ℕ) → r < 65535 → rank r ≡ suc r
rank_some r l = rw (lt-ltb r 65535 l)

pub rank_none : (r : ℕ) → 65535 ≤ r → rank r ≡ 0
rank_none r l = rw (le-ltb r 65535 l)

-- r is the latest side below n from point p, or none
pub record Latest (corners : List ℕ) (p n r : ℕ) : Type 0 where
  pub there : r < 65535 → r < n
  pub from : r < 65535 → get_or corners r 0 ≡ p
  pub above : (s : ℕ) → s < n → get_or corners s 0 ≡ p → s < rank r

pub latest_of : (corners : List ℕ) (p n r : ℕ) → n ≤ 6129 → r ≡ final 65535 (starts corners p) n → Latest corners p n r
latest_of corners p n r few e = step (final_is 65535 (starts corners p) n) e
  where
    step : {f : ℕ} → IsFinal 65535 (starts corners p) n f → r ≡ f → Latest corners p n r
    step {f} (at i t g) w = record {
      there = λ l. omega arith;
      from = λ l. eqb-true _ _ (ap (starts corners p) w ∙ t);
      above = λ s l z. let k = rank_some r (omega arith) in elim (dec_lt f s) [
        | yes m ↦ absurd (true≢false (sym (eq-eqb _ _ z) ∙ g s m l))
        | no m ↦ omega arith
      ];
    }
    step (nowhere i g) w = record {
      there = λ l. absurd (omega arith);
      from = λ l. absurd (omega arith);
      above = λ s l z. absurd (true≢false (sym (eq-eqb _ _ z) ∙ g s l));
    }

pub latest_falls : {corners : List ℕ} {p r r' : ℕ} → Latest corners p r r' → r < 65535 → rank r' < rank r
latest_falls {corners} {p} {r} {r'} h l = let k = rank_some r l in elim (dec_lt r' 65535) [
  | yes m ↦ (let j = rank_some r' m in let b = h.there m in omega arith)
  | no m ↦ (let j = rank_none r' (omega arith) in omega arith)
]

-- the sides from p that stand at or above `rank r` are noted
pub record Noting (corners : List ℕ) (p : ℕ) (noted : List ℕ) (r : ℕ) : Type 0 where
  pub long : length noted ≡ 1024
  pub there : (q : ℕ) → q < 1024 → get_or noted q 0 < 65535 → get_or noted q 0 < length corners
  pub ends_there : (q : ℕ) → q < 1024 → get_or noted q 0 < 65535 → head (bare corners) (get_or noted q 0) ≡ q
  pub low : (q : ℕ) → q < 1024 → get_or noted q 0 < 65535 → (tail (bare corners) (get_or noted q 0) < p) ⊎ ((tail (bare corners) (get_or noted q 0) ≡ p) × (rank r ≤ get_or noted q 0))
  pub placed : (s : ℕ) → s < length corners → tail (bare corners) s ≡ p → rank r ≤ s → get_or noted (head (bare corners) s) 0 ≡ s
  pub here : r < 65535 → r < length corners
  pub from : r < 65535 → get_or corners r 0 ≡ p

module _ (corners : List ℕ) (p : ℕ) (few : length corners ≤ 6129) where
  pub notes_none : (noted : List ℕ) (r : ℕ) → Noted corners p noted → r ≡ final 65535 (starts corners p) (length corners) → Noting corners p noted r
  notes_none noted r h e =
      let f = latest_of corners p (length corners) r few e in
      record {
        long = h.long;
        there = h.there;
        ends_there = h.ends_there;
        low = λ q l m. inl (h.low q l m);
        placed = λ s l z m. absurd (let b = f.above s l z in omega arith);
        here = f.there;
        from = f.from;
      }

  module _ {noted : List ℕ} {r : ℕ} (h : Noting corners p noted r) (l : r < 65535) where
    pub next_latest : {r' : ℕ} → r' ≡ final 65535 (starts corners (get_or corners r 0)) r → Latest corners p r r'
    next_latest {r'} e = latest_of corners p r r' (let b = h.here l in omega arith) (e ∙ ap (λ q. final 65535 (starts corners q) r) (h.from l))

    -- the side that was noted at the end q of side r, and the test whether it starts at p too
    module _ (q : ℕ) (is : q ≡ head (bare corners) r) (in-range : q < 1024) where
      pub notes_one : {r' : ℕ} → (ltb (get_or noted q 0) 65535 && eqb (get_or corners (get_or noted q 0) 0) p) ≡ false → Latest corners p r r' → Noting corners p (set noted q r) r'
      notes_one {r'} e f = record {
        long = length-set noted q r ∙ h.long;
        there = λ k m. elim (ℕ_discrete k q) [
          | yes z ↦ λ w. omega (arith, same k z, h.here l)
          | no z ↦ subst (λ v. v < 65535 → v < length corners) (sym (other k z)) (h.there k m)
        ];
        ends_there = λ k m. elim (ℕ_discrete k q) [
          | yes z ↦ λ w. ap (head (bare corners)) (same k z) ∙ sym is ∙ sym z
          | no z ↦ subst (λ v. v < 65535 → head (bare corners) v ≡ k) (sym (other k z)) (h.ends_there k m)
        ];
        low = λ k m. elim (ℕ_discrete k q) [
          | yes z ↦ λ w. inr (ap (λ v. get_or corners v 0) (same k z) ∙ h.from l, omega (arith, same k z, latest_falls f l, rank_some r l))
          | no z ↦ subst (λ v. v < 65535 → (tail (bare corners) v < p) ⊎ ((tail (bare corners) v ≡ p) × (rank r' ≤ v))) (sym (other k z)) (λ w. elim (h.low k m w) [
            | inl a ↦ inl a
            | inr a ↦ inr (a.0, omega (arith, a.1, latest_falls f l))
          ])
        ];
        placed = λ s m z k. elim (ℕ_discrete s r) [
          | yes w ↦ same (head (bare corners) s) (ap (head (bare corners)) w ∙ sym is) ∙ sym w
          | no w ↦ (
              let up : rank r ≤ s = omega (arith, rank_some r l, above s z k w) in
              let old = h.placed s m z up in
              other (head (bare corners) s) (λ v. clash s m z (sym (ap (λ i. get_or noted i 0) v) ∙ old)) ∙ old)
        ];
        here = λ m. omega (arith, f.there m, h.here l);
        from = f.from;
      }
        where
          same : (k : ℕ) → k ≡ q → get_or (set noted q r) k 0 ≡ r
          same k z = ap (λ i. get_or (set noted q r) i 0) z ∙ get_or-set_same noted q r 0 (omega (arith, h.long, in-range))

          other : (k : ℕ) → (k ≡ q → ⊥) → get_or (set noted q r) k 0 ≡ get_or noted k 0
          other k z = get_or-set_other noted q k r 0 z

          above : (s : ℕ) → get_or corners s 0 ≡ p → rank r' ≤ s → (s ≡ r → ⊥) → r < s
          above s z k w = elim (dec_lt s r) [ yes b ↦ absurd (omega (arith, f.above s b z)) | no b ↦ omega arith ]

          clash : (s : ℕ) → s < length corners → get_or corners s 0 ≡ p → get_or noted q 0 ≡ s → ⊥
          clash s m z v = true≢false (sym (and_iff.1 (ap (λ i. ltb i 65535) v ∙ lt-ltb s 65535 (omega arith), ap (λ i. eqb (get_or corners i 0) p) v ∙ eq-eqb _ _ z)) ∙ e)

-- where each side from p is noted at its end, the side noted at the start of a side to p runs back along that one
module _ (corners : List ℕ) (p : ℕ) (noted : List ℕ) (few : length corners ≤ 6129) (all : Numbered corners 1024) (whole : length corners % 3 ≡ 0) (h : Noted corners (p + 1) noted) (g : Placed corners p noted) where
  module _ (s : ℕ) (l : s < length corners) (z : get_or corners s 0 ≡ p) where
    abbrev k : ℕ
    k = last s

    abbrev m : ℕ
    m = get_or noted (get_or corners k 0) 0

    ends_at : head (bare corners) k ≡ p
    ends_at = ap (λ i. get_or corners i 0) (next_last s) ∙ z

    low : get_or corners k 0 < 1024
    low = all k (last_below (length corners) s whole l)

    met : (i : ℕ) → i < length corners → reverse (bare corners) k i ≡ true → (m ≡ i) × (get_or corners i 0 ≡ p)
    met i b e = let (u, v) = and_iff.0 e in let w = eqb-true _ _ u ∙ ends_at in (sym (ap (λ q. get_or noted q 0) (eqb-true _ _ v)) ∙ g i b w, w)

    pub pair_right : cond (ltb m 65535 && eqb (get_or corners m 0) p) m (length corners) ≡ mate_of corners k
    pair_right = step (ltb m 65535 && eqb (get_or corners m 0) p) refl
      where
        step : (b : Bool) → (ltb m 65535 && eqb (get_or corners m 0) p) ≡ b → cond b m (length corners) ≡ mate_of corners k
        step true e =
            let (a, b) = and_iff.0 e in
            let j = ltb-true _ _ a in
            let n = h.there (get_or corners k 0) low j in
            sym (first_hit (reverse (bare corners) k) (length corners) m n
            (λ i w. false_iff.1 (λ t. let (x, y) = met i (omega arith) t in omega arith))
            (and_iff.1 (eq-eqb _ _ (eqb-true _ _ b ∙ sym ends_at), eq-eqb _ _ (h.ends_there (get_or corners k 0) low j))))
        step false e =
            sym (first-none (reverse (bare corners) k) (length corners)
            (λ i w. false_iff.1 (λ t.
            let (x, y) = met i w t in
            true≢false (sym (and_iff.1 (lt-ltb m 65535 (omega arith), eq-eqb _ _ (ap (λ v. get_or corners v 0) x ∙ y))) ∙ e))))

-- the sides to p that come from those at or above `rank s` are right
pub record Righting (corners : List ℕ) (p : ℕ) (old mate : List ℕ) (s : ℕ) : Type 0 where
  pub long : length mate ≡ 6129
  pub keeps : (k : ℕ) → Right corners old k → Right corners mate k
  pub rights : (i : ℕ) → i < length corners → tail (bare corners) i ≡ p → rank s ≤ i → Right corners mate (last i)
  pub rest : drop (length corners) mate ≡ drop (length corners) old
  pub here : s < 65535 → s < length corners
  pub from : s < 65535 → get_or corners s 0 ≡ p

module _ (corners : List ℕ) (p : ℕ) (old : List ℕ) (few : length corners ≤ 6129) where
  pub rights_none : (s : ℕ) → length old ≡ 6129 → s ≡ final 65535 (starts corners p) (length corners) → Righting corners p old old s
  rights_none s long e =
      let f = latest_of corners p (length corners) s few e in
      record {
        long = long;
        keeps = λ k h. h;
        rights = λ i l z m. absurd (let b = f.above i l z in omega arith);
        rest = refl;
        here = f.there;
        from = f.from;
      }

  module _ {mate : List ℕ} {s : ℕ} (h : Righting corners p old mate s) (l : s < 65535) where
    pub next_right : {s' : ℕ} → s' ≡ final 65535 (starts corners (get_or corners s 0)) s → Latest corners p s s'
    next_right {s'} e = latest_of corners p s s' (let b = h.here l in omega arith) (e ∙ ap (λ q. final 65535 (starts corners q) s) (h.from l))

    pub rights_one : (v : ℕ) → v ≡ mate_of corners (last s) → length corners % 3 ≡ 0 → {s' : ℕ} → Latest corners p s s' → Righting corners p old (set mate (last s) v) s'
    rights_one v e whole {s'} f = record {
      long = length-set mate (last s) v ∙ h.long;
      keeps = λ k r. kept k (h.keeps k r);
      rest = drop-set-lt (length corners) mate (last s) v (last_below (length corners) s whole (h.here l)) ∙ h.rest;
      rights = λ i m z b. elim (ℕ_discrete i s) [
        | yes w ↦ subst (λ j. Right corners (set mate (last s) v) (last j)) (sym w) written
        | no w ↦ kept (last i) (h.rights i m z (elim (dec_lt i s) [ yes a ↦ absurd (omega (arith, f.above i a z)) | no a ↦ omega (arith, rank_some s l) ]))
      ];
      here = λ m. omega (arith, f.there m, h.here l);
      from = f.from;
    }
      where
        written : Right corners (set mate (last s) v) (last s)
        written = get_or-set_same mate (last s) v 0 (omega (arith, h.long, few, last_below (length corners) s whole (h.here l))) ∙ e

        kept : (k : ℕ) → Right corners mate k → Right corners (set mate (last s) v) k
        kept k r = elim (ℕ_discrete k (last s)) [
          | yes w ↦ subst (Right corners (set mate (last s) v)) (sym w) written
          | no w ↦ get_or-set_other mate (last s) k v 0 w ∙ r
        ]

-- the points below p are done
pub record Paired (corners old noted mate : List ℕ) (p : ℕ) : Type 0 where
  pub so_far : Noted corners p noted
  pub long : length mate ≡ 6129
  pub right : (s : ℕ) → s < length corners → tail (bare corners) s < p → Right corners mate (last s)
  pub rest : drop (length corners) mate ≡ drop (length corners) old
  pub single : (s r : ℕ) → s < length corners → r < length corners → tail (bare corners) s < p → tail (bare corners) s ≡ tail (bare corners) r → head (bare corners) s ≡ head (bare corners) r → s ≡ r

module _ (corners : List ℕ) where
  pub pairs_none : (mate : List ℕ) → length mate ≡ 6129 → Paired corners mate (replicate 1024 65535) mate 0
  pairs_none mate long = record {
    so_far = record {
      long = length-replicate {A = ℕ} 1024 65535;
      there = λ q l m. absurd (omega (arith, get_or-replicate {A = ℕ} 1024 q 65535 0 l));
      ends_there = λ q l m. absurd (omega (arith, get_or-replicate {A = ℕ} 1024 q 65535 0 l));
      low = λ q l m. absurd (omega (arith, get_or-replicate {A = ℕ} 1024 q 65535 0 l));
    };
    long = long;
    right = λ s l m. absurd (omega arith);
    rest = refl;
    single = λ s r l m b. absurd (omega arith);
  }

  pub pairs_one : {old before new mate mate' : List ℕ} {p : ℕ} → Paired corners old before mate p → Noted corners (p + 1) new × Placed corners p new → Righted corners p mate mate' → Paired corners old new mate' (p + 1)
  pairs_one {old} {before} {new} {mate} {mate'} {p} h n r = record {
    so_far = n.0;
    long = r.long;
    rest = r.rest ∙ h.rest;
    right = λ s l m. elim (ℕ_discrete (tail (bare corners) s) p) [
      | yes z ↦ r.rights s l z
      | no z ↦ r.keeps (last s) (h.right s l (omega arith))
    ];
    single = λ s i l m b u v. elim (ℕ_discrete (tail (bare corners) s) p) [
      | yes z ↦ sym (n.1 s l z) ∙ ap (λ q. get_or new q 0) v ∙ n.1 i m (sym u ∙ z)
      | no z ↦ h.single s i l m (omega arith) u v
    ];
  }

  pub pairs_all : {old noted mate : List ℕ} {p : ℕ} → Paired corners old noted mate p → 1024 ≤ p → Numbered corners 1024 → length corners % 3 ≡ 0 → length corners ≤ 6129 → Single (bare corners) × Mated corners mate × (drop (length corners) mate ≡ drop (length corners) old)
  pairs_all {old} {noted} {mate} {p} h l all whole few = (
    (λ s r a b u v. h.single s r a b (omega (arith, all s a)) u v),
    fills_front {i = length corners} (record {
      within = omega arith;
      room = few;
      long = h.long;
      so_far = λ k m. subst (Right corners mate) (last_next k) (h.right (next k) (next_below (length corners) k whole m) (omega (arith, all (next k) (next_below (length corners) k whole m))));
    }) (omega arith),
    h.rest,
  )
