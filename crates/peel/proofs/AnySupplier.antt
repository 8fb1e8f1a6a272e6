-- The outlines and the list of an unambiguous office do not depend on who supplied its triangles. Assumes nothing.
use mathlib.Core.Path.{◌≡◌, refl, sym, ap, ap₂, subst, fun_ext, ◌∙◌}
use mathlib.Core.List.{List, ◌∷◌, map}
use Prim.Native.Nat.{ℕ, suc, ◌+◌, ◌-◌, ◌<◌}
use native.Mathlib.Nat.{le_of_lt, le_antisymm}
use native.Mathlib.Decide.{dec_lt}
use native.Mathlib.Omega.{arith}
use Rattle.laws.specs.First.{table}
use Rattle.laws.specs.Round.{Round}
use Rattle.laws.proofs.Fill.{length-table, get_or-table}
use Rattle.laws.proofs.Round.{apart_early}
use Rattle.laws.proofs.OneRound.{map-table, rotated-table}
use Rattle.sheet.specs.Office.{Office}
use Rattle.sheet.specs.Acceptable.{Acceptable}
use Rattle.sheet.specs.Unambiguous.{Unambiguous}
use Rattle.sheet.proofs.Alone.{Reordered, alone}
use Rattle.rim.specs.Peel.{drawn}
use Rattle.rim.proofs.Reached.{sound}
use Rattle.rim.proofs.Rings.{outlined}
use Rattle.peel.specs.List.{Outline, Entry, At, outline, entries}
use Rattle.peel.specs.Renamed.{LowestFirst, Turned, Paired, ended, paired}
use Rattle.peel.proofs.DrawEnds.{drawn_ends}
use Rattle.peel.proofs.Entries.{entry_drawn}
use Rattle.peel.proofs.MatchedRing.{ring_lowest}
use Rattle.peel.proofs.TwoExports.{renumbering}

-- the only turn of a round's list that begins with the lowest number, as that list does, is the list itself
module _ {Step : ℕ → ℕ → Type 0} {m : ℕ} (r : Round Step m) (low : LowestFirst (table r.at m)) where
  from_lowest : (i : ℕ) → i < m → LowestFirst (table (λ j. r.at (i + j)) m) → i ≡ 0
  from_lowest i l low' = elim (dec_lt 0 i) [
    | yes b ↦ apart_early r i 0 l r.long (le_antisymm
        (rw (get_or-table turn m 0 r.long, get_or-table turn m (m - i) (omega arith), here, there) at (low' (m - i) (rw (length-table turn m) (omega arith))))
        (rw (get_or-table r.at m 0 r.long, get_or-table r.at m i l) at (low i (rw (length-table r.at m) l))))
    | no f ↦ omega arith
  ]
    where
      turn : ℕ → ℕ
      turn j = r.at (i + j)

      here : r.at (i + 0) ≡ r.at i
      here = ap r.at (omega arith)

      there : r.at (i + (m - i)) ≡ r.at 0
      there = ap r.at (omega arith) ∙ r.back 0

  unturned : {number : ℕ → ℕ} → ((p : ℕ) → number p ≡ p) → {l : List ℕ} → Turned number (table r.at m) l → l ≡ table r.at m
  unturned {number} same {l} ((i, b, e), low') =
      let c : i < m = rw (length-table r.at m) at b in
      let f = e ∙ ap (map number) (rotated-table r.at m i (le_of_lt c) r.back) ∙ map-table number (λ j. r.at (i + j)) m ∙ ap (λ f. table f m) (fun_ext (λ j. same (r.at (i + j)))) in
      let z = from_lowest i c (subst LowestFirst f low') in
      f ∙ ap (λ f. table f m) (fun_ext (λ j. ap r.at (omega arith)))

-- lists whose entries are what is drawn at their least limits are told by these
same_entries : {number : ℕ → ℕ} (f : ℕ → Outline) {es ds : List Entry} → Paired number es ds
    → ((i : ℕ) (e : Entry) → At es i e → e.outline ≡ f e.least) → ((i : ℕ) (d : Entry) → At ds i d → d.outline ≡ f d.least) → ds ≡ es
same_entries f ended g h = refl
same_entries f (paired {e} {d} l w p) g h =
    ap₂ (λ x xs. x ∷ xs) (λ i. record { least = l i; outline = (h 0 d refl ∙ ap f l ∙ sym (g 0 e refl)) i }) (same_entries f p (λ i. g (suc i)) (λ i. h (suc i)))

-- two offices draw alike: at every limit the same outline, and the same list
pub record Alike (o n : Office) : Type 0 where
  pub outlines : (limit : ℕ) → outline n (drawn n limit) ≡ outline o (drawn o limit)
  pub lists : entries n ≡ entries o

module _ {o n : Office} (a : Acceptable o) (b : Acceptable n) (s : Reordered o n) where
  same_outline : (limit : ℕ) → outline n (drawn n limit) ≡ outline o (drawn o limit)
  unfolding outline
  same_outline limit =
      let (_, _, h, _) = drawn_ends a limit in
      let w = outlined a (sound o a h) in
      let d = (renumbering s.0 a).draws limit in
      let ring = unturned w.round (subst LowestFirst w.reads (ring_lowest a (sound o a h))) s.1 (subst (λ k. Turned s.0.number.to k (outline n (drawn n limit)).round) w.reads d.round) ∙ sym w.reads in
      λ i. record { peels = d.peels i; area = d.area i; round = ring i }

  pub alike : Alike o n
  alike = record {
    outlines = same_outline;
    lists = same_entries (λ m. outline o (drawn o m)) (renumbering s.0 a).lists (entry_drawn a) (λ i d h. entry_drawn b i d h ∙ same_outline d.least);
  }

-- an unambiguous office, and any other acceptable one with its points
pub any_supplier : (o n : Office) → Acceptable o → Acceptable n → o.xs ≡ n.xs → o.ys ≡ n.ys → Unambiguous o → Alike o n
any_supplier o n a b x y clear = alike a b (alone o n a b x y clear)
