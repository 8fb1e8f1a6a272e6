-- Document 02, 2/13 and 11/13: two exports of an office have the same index, but for the new numbers, and the same pairs. Assumes nothing.
use mathlib.Core.Path.{◌≡◌, sym, ◌∙◌}
use mathlib.Core.Logic.{inl}
use Prim.Native.Nat.{ℕ}
use native.Mathlib.Decide.{ℕ_discrete}
use lib.ListN.{length}
use Rattle.laws.proofs.Test.{false_iff}
use Rattle.laws.proofs.Order.{level}
use Rattle.sheet.specs.Office.{Office}
use Rattle.sheet.specs.Acceptable.{Acceptable}
use Rattle.sheet.specs.Renumbered.{Renumbered}
use Rattle.sheet.proofs.SameVerdict.{acceptable_same}
use Rattle.rim.specs.Peel.{on_rim, drawn}
use Rattle.peel.specs.Index.{index, limits, counts, Indexed}
use Rattle.peel.proofs.Indexes.{indexed}
use Rattle.peel.proofs.MatchedList.{same_column}
use Rattle.peel.proofs.SameDraws.{turned_length}
use Rattle.peel.proofs.TwoExports.{renumbering}

-- points that are on the outlines at the same limits have the same number
module _ {o n : Office} {p q i j : ℕ} (x : Indexed o p i) (y : Indexed n q j) (e : (limit : ℕ) → on_rim n (drawn n limit) q ≡ on_rim o (drawn o limit) p) where
  pub same_number : i ≡ j
  same_number = elim (ℕ_discrete i 4294967295) [
    | yes z ↦ z ∙ sym (y.always.1 (λ limit. e limit ∙ x.always.0 z limit))
    | no f ↦ elim (ℕ_discrete j 4294967295) [
      | yes z ↦ x.always.1 (λ limit. sym (e limit) ∙ y.always.0 z limit) ∙ sym z
      | no g ↦ level
          (λ l. false_iff.0 (x.least f).0 (sym (e i) ∙ (y.agrees i).1 (inl l)))
          (λ l. false_iff.0 (y.least g).0 (e j ∙ (x.agrees j).1 (inl l)))
    ]
  ]

module _ {o n : Office} (re : Renumbered o n) (a : Acceptable o) where
  pub index_same : (p : ℕ) → index n (re.number.to p) ≡ index o p
  index_same p = sym (same_number (indexed a p) (indexed ((acceptable_same re).0 a) (re.number.to p)) (λ limit. (renumbering re a).rims limit p))

  pub limits_same : limits n ≡ limits o
  unfolding limits
  limits_same = same_column (λ e. e.least) (λ e d m z. m) (renumbering re a).lists

  pub counts_same : counts n ≡ counts o
  unfolding counts
  counts_same = same_column (λ e. length e.outline.round) (λ e d m z. turned_length z.round) (renumbering re a).lists
