-- The ring, written step by step along the rim. Assumes nothing.
use mathlib.Core.Path.{◌≡◌, refl, sym, ap, ap₂, subst, ◌∙◌}
use mathlib.Core.Bool.{Bool, true, false, true≢false, ◌&&◌}
use mathlib.Core.Logic.{inl, inr}
use mathlib.Core.List.{List, ◌++◌}
use Prim.Native.Nat.{ℕ, suc, ◌+◌, ◌-◌, ◌<◌, ◌≤◌}
use native.Mathlib.Decide.{ℕ_discrete}
use native.Mathlib.Omega.{arith}
use lib.Dec.{eqb}
use lib.ListN.{length, get_or, set, take, drop, length-set}
use Rattle.std.proofs.lemmas.List.{append-nil}
use lib.Seq.{sets, sets-eq, drop-length, length-take-le, get_or-set_same, get_or-set_other}
use Rattle.laws.specs.First.{first, walk}
use Rattle.laws.proofs.Search.{first_is}
use Rattle.laws.proofs.Order.{level}
use Rattle.laws.proofs.Test.{and_iff, eqb_iff, first_of}
use Rattle.laws.specs.Round.{Round}
use Rattle.laws.proofs.Runs.{onward_only}
use Rattle.laws.proofs.Walk.{length-walk}
use Rattle.sheet.specs.Office.{Office, sides, tail, head, rims as hull_sides, office, bare}
use Rattle.rim.specs.Peel.{mark, rim, on_rim, after, rims, ring}
use Rattle.rim.specs.Code.{front, State, Leaves, Ringlike, Linked}
use Rattle.rim.proofs.Marks.{Way, OnRim, rim_iff, on_rim_iff}
use Rattle.rim.proofs.Mated.{rim_bare}
use Rattle.rim.proofs.Reached.{sound}
use Rattle.rim.proofs.Rings.{rims_are, ring_fits}

-- links, one more side at a time
module _ (corners k : List ℕ) where
  pub links_skip : (link : List ℕ) (i : ℕ) {b : Bool} → Linked corners k link i → b ≡ rim (bare corners) k i → b ≡ false → Linked corners k link (i + 1)
  links_skip link i h e f s l r = elim (ℕ_discrete s i) [
    | yes z ↦ absurd (true≢false (sym r ∙ ap (rim (bare corners) k) z ∙ sym e ∙ f))
    | no g ↦ h s (omega arith) r
  ]

  pub links_one : (link : List ℕ) (i : ℕ) {b : Bool} → Ringlike corners k → i < length corners → tail (bare corners) i < length link → Linked corners k link i → b ≡ rim (bare corners) k i → b ≡ true
      → Linked corners k (set link (tail (bare corners) i) (head (bare corners) i)) (i + 1)
  links_one link i g l b h e f s m r = elim (ℕ_discrete (tail (bare corners) s) (tail (bare corners) i)) [
    | yes z ↦ ap (λ p. get_or (set link (tail (bare corners) i) (head (bare corners) i)) p 0) z
        ∙ get_or-set_same link (tail (bare corners) i) (head (bare corners) i) 0 b
        ∙ sym (g.forks s i (omega arith) l r (sym e ∙ f) z)
    | no y ↦ get_or-set_other link (tail (bare corners) i) (tail (bare corners) s) (head (bare corners) i) 0 y
        ∙ h s (earlier s m y) r
  ]
    where
      earlier : (s : ℕ) → s < i + 1 → (tail (bare corners) s ≡ tail (bare corners) i → ⊥) → s < i
      earlier s m y = elim (ℕ_discrete s i) [ yes z ↦ absurd (y (ap (tail (bare corners)) z)) | no f ↦ omega arith ]

  -- the link of a point is where the rim goes on
  module _ (link : List ℕ) (g : Ringlike corners k) (h : Linked corners k link (length corners)) (p : ℕ) (v : Leaves corners k p) where
    test : ℕ → Bool
    test s = eqb (tail (bare corners) s) p && rim (bare corners) k s

    side : (first test (length corners) < length corners) × (test (first test (length corners)) ≡ true)
    unfolding test
    side = first_of test (length corners) v.0 v.1 (and_iff.1 (eqb_iff.1 v.3, v.2))

    parts : (eqb (tail (bare corners) (first test (length corners))) p ≡ true) × (rim (bare corners) k (first test (length corners)) ≡ true)
    unfolding test
    parts = (and_iff {a = eqb (tail (bare corners) (first test (length corners))) p}).0 side.1

    pub link_is : get_or link p 0 ≡ after (bare corners) k p
    unfolding test
    link_is = ap (λ q. get_or link q 0) (sym (eqb_iff.0 parts.0)) ∙ h (first test (length corners)) side.0 parts.1

    pub leaves_on : (q : ℕ) → q ≡ get_or link p 0 → Leaves corners k q
    unfolding test
    leaves_on q e = subst (Leaves corners k) (sym (e ∙ link_is)) (g.follows (first test (length corners)) side.0 parts.1)

-- a walk of count points from `from`, of which i are written, has come to p
pub record Walking (f : ℕ → ℕ) (from count : ℕ) (round₀ round : List ℕ) (p i : ℕ) : Type 0 where
  pub within : i ≤ count
  pub room : count ≤ length round
  pub long : length round ≡ length round₀
  pub left : sets round i (walk f p (count - i)) ≡ sets round₀ 0 (walk f from count)

pub walks_on : (f : ℕ → ℕ) (from count : ℕ) (round₀ round : List ℕ) (p q i : ℕ) → Walking f from count round₀ round p i → i < count → q ≡ f p → Walking f from count round₀ (set round i p) q (i + 1)
unfolding walk
walks_on f from count round₀ round p q i h l e = record {
  within = omega arith;
  room = simp length-set h.room;
  long = length-set round i p ∙ h.long;
  left = ap₂ (λ j r. sets (set round i p) j (walk f r (count - (i + 1)))) next_place e ∙ sym (ap (λ n. sets round i (walk f p n)) one_less) ∙ h.left;
}
  where
    next_place : i + 1 ≡ suc i
    next_place = omega arith

    one_less : count - i ≡ suc (count - (i + 1))
    one_less = omega arith

pub walked : (f : ℕ → ℕ) (from count : ℕ) (round₀ round : List ℕ) (p i : ℕ) → Walking f from count round₀ round p i → count ≤ i → round ≡ sets round₀ 0 (walk f from count)
unfolding walk
walked f from count round₀ round p i h l = sym (ap (λ n. sets round i (walk f p n)) none_left) ∙ h.left
  where
    none_left : count - i ≡ 0
    none_left = omega arith

-- so many points are written in front of a longer buffer
pub part_walked : (f : ℕ → ℕ) (from count : ℕ) (round part : List ℕ) → count ≤ length round
    → part ≡ sets (take count round) 0 (walk f from (length (take count round))) → part ++ drop count round ≡ sets round 0 (walk f from count)
part_walked f from count round part l e =
    ap (λ p. p ++ drop count round)
    (e
    ∙ ap (λ n. sets (take count round) 0 (walk f from n)) as_long
    ∙ sets-eq (walk f from count) (take count round) 0 (let u = length_is in let w = as_long in omega arith)
    ∙ ap (λ n. walk f from count ++ drop n (take count round)) (length_is ∙ sym as_long)
    ∙ ap (λ d. walk f from count ++ d) (drop-length (take count round))
    ∙ append-nil (walk f from count))
    ∙ ap (λ n. walk f from count ++ drop n round) (sym length_is)
    ∙ sym (sets-eq (walk f from count) round 0 (let u = length_is in omega arith))
  where
    as_long : length (take count round) ≡ count
    as_long = length-take-le count round l

    length_is : 0 + length (walk f from count) ≡ count
    length_is = let u = length-walk f from count in omega arith

never_sooner : (f g : ℕ → Bool) (n : ℕ) → ((i : ℕ) → i < n → f i ≡ g i) → first f n < first g n → ⊥
never_sooner f g n e l =
    let b : first f n < n = omega (arith, (first_is g n).within) in
    true≢false (sym ((first_is f n).hit b) ∙ e (first f n) b ∙ (first_is g n).clear (first f n) l)

first_same : (f g : ℕ → Bool) (n : ℕ) → ((i : ℕ) → i < n → f i ≡ g i) → first f n ≡ first g n
first_same f g n e = level (never_sooner f g n e) (never_sooner g f n (λ i l. sym (e i l)))

module _ (xs ys corners mate kept marks : List ℕ) (peeled area count : ℕ) (h : State (office xs ys corners) mate kept marks peeled area count) where
  abbrev o : Office
  o = office xs ys corners

  abbrev k : List ℕ
  k = front corners kept

  lowest : first (λ p. eqb (get_or marks p 0) 1) (length xs) ≡ first (on_rim o k) (length xs)
  lowest = first_same _ _ (length xs) (λ p l. ap (λ m. eqb m 1) (h.held.on p l) ∙ read (on_rim o k p))
    where
      read : (b : Bool) → eqb (mark b) 1 ≡ b
      read true = refl
      read false = refl

  pub count_fits : count ≤ length xs
  count_fits = let a = h.held.acceptable in let r = sound o a h.reached in omega (arith, rims_are a r, ring_fits a r, h.rings)

  whole_round : Round (Way o k) (hull_sides o + peeled)
  whole_round = (sound o h.held.acceptable h.reached).round

  bared : (s : ℕ) → rim (bare corners) k s ≡ rim o k s
  bared s = rim_bare xs ys corners k s

  goes_to : (s : ℕ) → s < length corners → rim o k s ≡ true → after o k (tail o s) ≡ head o s
  goes_to s l r = onward_only (sides o) (rim o k) (tail o) (head o) whole_round (tail o s) (head o s) (s, l, r, refl, refl)

  follows : (s : ℕ) → s < length corners → rim o k s ≡ true → Leaves corners k (head o s)
  follows s l r =
      let (i, x, y) = whole_round.all (tail o s) (head o s) (s, l, r, refl, refl) in
      let (q, m, f, t, w) = whole_round.goes (i + 1) in
      (q, m, bared q ∙ f, t ∙ y)

  pub ringlike : Ringlike corners k
  ringlike = record {
    forks = λ s r l m x y z. sym (goes_to s l (sym (bared s) ∙ x)) ∙ ap (after o k) z ∙ goes_to r m (sym (bared r) ∙ y);
    follows = λ s l x. follows s l (sym (bared s) ∙ x);
  }

  -- a rim side starts at the lowest point on the rim
  pub low_leaves : (low : ℕ) → low ≡ first (λ p. eqb (get_or marks p 0) 1) (length xs) → Leaves corners k low
  low_leaves low e =
      let (s, l, f, t, w) = whole_round.goes 0 in
      let (_, z) = first_of (on_rim o k) (length xs) (tail o s) (h.held.acceptable.numbered s l) ((on_rim_iff o k (tail o s)).1 (s, l, inl refl, (rim_iff o k s).0 f)) in
      subst (Leaves corners k) (sym (e ∙ lowest)) (at_end (first (on_rim o k) (length xs)) ((on_rim_iff o k (first (on_rim o k) (length xs))).0 z))
    where
      at_end : (p : ℕ) → OnRim o k p → Leaves corners k p
      at_end p (s, l, inl e, r) = (s, l, bared s ∙ (rim_iff o k s).1 r, e)
      at_end p (s, l, inr e, r) = subst (Leaves corners k) e (follows s l ((rim_iff o k s).1 r))

  along : (p n : ℕ) → walk (after (bare corners) k) p n ≡ walk (after o k) p n
  unfolding rim
  along p n = refl

  pub ring_written : (round round' : List ℕ) (low : ℕ) → count ≤ length round → low ≡ first (λ p. eqb (get_or marks p 0) 1) (length xs)
      → round' ≡ sets round 0 (walk (after (bare corners) k) low count) → round' ≡ ring o k ++ drop count round
  unfolding ring
  ring_written round round' low l e w =
      w
      ∙ ap (sets round 0) (along low count ∙ ap₂ (walk (after o k)) (e ∙ lowest) h.rings)
      ∙ sets-eq (walk (after o k) (first (on_rim o k) (length xs)) (rims o k)) round 0 (let u = length_is in let z = h.rings in omega arith)
      ∙ ap (λ n. ring o k ++ drop n round) as_long
    where
      length_is : length (walk (after o k) (first (on_rim o k) (length xs)) (rims o k)) ≡ rims o k
      length_is = length-walk (after o k) (first (on_rim o k) (length xs)) (rims o k)

      as_long : 0 + length (walk (after o k) (first (on_rim o k) (length xs)) (rims o k)) ≡ count
      as_long = let u = length_is in let z = h.rings in omega arith
