-- The entries of an acceptable office: each outline that a limit gives, once, at the least limit that gives it. Assumes nothing.
use mathlib.Core.Path.{◌≡◌, sym, ap, subst, ◌∙◌}
use mathlib.Core.List.{List}
use mathlib.Core.Option.{some-injective}
use Prim.Native.Nat.{ℕ, suc, ◌+◌, ◌-◌, ◌<◌, ◌≤◌}
use native.Mathlib.Nat.{le_refl}
use native.Mathlib.Decide.{ℕ_discrete}
use native.Mathlib.Omega.{arith}
use lib.ListN.{length, get_elem?}
use Rattle.laws.proofs.Order.{level}
use Rattle.sheet.specs.Office.{Office, points}
use Rattle.sheet.specs.Acceptable.{Acceptable}
use Rattle.rim.specs.Peel.{drawn, ring}
use Rattle.peel.specs.List.{Entry, At, entries, outline}
use Rattle.peel.specs.LookUp.{place_of}
use Rattle.peel.specs.Index.{limits}
use Rattle.rim.specs.Reached.{Reached}
use Rattle.rim.proofs.Reached.{sound}
use Rattle.rim.proofs.Rings.{peels_fit, ring_tells}
use Rattle.peel.proofs.DrawEnds.{drawn_ends}
use Rattle.peel.proofs.Falls.{at_below, below_at, falls_at, falls_two, look_at, look_found}
use Rattle.peel.proofs.EntriesFall.{peels_are, entries_fall}
use Rattle.peel.proofs.EveryLimit.{looked_up}

module _ {o : Office} (a : Acceptable o) where
  -- an entry's outline is the one drawn at its least limit
  pub entry_drawn : (i : ℕ) (e : Entry) → At (entries o) i e → e.outline ≡ outline o (drawn o e.least)
  entry_drawn i e h = some-injective _ _ (sym (look_at (entries_fall a) i h) ∙ looked_up a e.least)

  -- the least limits fall from entry to entry
  pub least_falls : (i j : ℕ) (e d : Entry) → i < j → At (entries o) i e → At (entries o) j d → d.least < e.least
  least_falls i j e d l h k = (falls_two (entries_fall a) i j l h k).0

  -- an entry's outline is that of reached marks, after as many peels as it tells
  reached_entry : (i : ℕ) (e : Entry) → At (entries o) i e → (k : List ℕ) × Reached o e.outline.peels k × (e.outline.round ≡ ring o k)
  unfolding outline
  reached_entry i e h =
      let (n, _, r, _) = drawn_ends a e.least in
      let x = entry_drawn i e h in
      (drawn o e.least, subst (λ m. Reached o m (drawn o e.least)) (sym (ap (λ x. x.peels) x ∙ peels_are a r)) r, ap (λ x. x.round) x)

  -- at a limit's place among the least limits stands the entry drawn there
  pub placed : (limit : ℕ) → (e : Entry) × At (entries o) (place_of (limits o) limit) e × (e.least ≤ limit) × (e.outline ≡ outline o (drawn o limit))
  unfolding limits
  placed limit = look_found (entries o) limit (looked_up a limit)

  -- no ring stands twice
  pub stands_once : (i j : ℕ) (e d : Entry) → At (entries o) i e → At (entries o) j d → e.outline.round ≡ d.outline.round → i ≡ j
  stands_once i j e d h k q = level (λ l. rising i j e d l h k q) (λ l. rising j i d e l k h (sym q))
    where
      rising : (i j : ℕ) (e d : Entry) → i < j → At (entries o) i e → At (entries o) j d → e.outline.round ≡ d.outline.round → ⊥
      rising i j e d l h k q =
          let (x, r, u) = reached_entry i e h in
          let (y, t, v) = reached_entry j d k in
          let z = ring_tells a (sound o a r) (sound o a t) (sym u ∙ q ∙ v) in
          let w = (falls_two (entries_fall a) i j l h k).1 in
          omega arith

  -- no smaller limit gives an entry's ring
  pub entry_least : (i : ℕ) (e : Entry) (limit : ℕ) → At (entries o) i e → ring o (drawn o limit) ≡ e.outline.round → e.least ≤ limit
  unfolding outline
  entry_least i e limit h q =
      let (d, k, l, w) = placed limit in
      let z = stands_once _ i d e k h (ap (λ x. x.round) w ∙ q) in
      let same : d ≡ e = some-injective _ _ (sym k ∙ ap (λ x. get_elem? (entries o) x) z ∙ h) in
      subst (λ x. x.least ≤ limit) same l

  -- so the lent lists hold all entries
  pub entries_fit : length (entries o) + 2 ≤ points o
  entries_fit = elim (ℕ_discrete (length (entries o)) 0) [
    | yes z ↦ omega (arith, a.points_bound.0)
    | no f ↦ (let i = length (entries o) - 1 in
        let (e, h) = at_below (entries o) i (omega arith) in
        let x = (falls_at (entries_fall a) i h).1 in
        let (k, r, _) = reached_entry i e h in
        omega (arith, peels_fit a (sound o a r)))
  ]

  -- the last entry is what a draw at limit 0 gives
  pub last_entry : (i : ℕ) × (e : Entry) × At (entries o) i e × (suc i ≡ length (entries o)) × (e.least ≡ 0)
  last_entry =
      let i = place_of (limits o) 0 in
      let (e, h, l, _) = placed 0 in
      let b = below_at (entries o) i h in
      (i, e, h, level (later i e h l) (λ m. omega arith), omega arith)
    where
      later : (i : ℕ) (e : Entry) → At (entries o) i e → e.least ≤ 0 → suc i < length (entries o) → ⊥
      later i e h l b = let (d, k) = at_below (entries o) (suc i) b in let x = least_falls i (suc i) e d (le_refl _) h k in omega arith
