-- Two limits give the same outline exactly where they look up the same place. Assumes nothing.
use mathlib.Core.Path.{◌≡◌, sym, ap, subst₂, ◌∙◌}
use mathlib.Core.Logic.{◌↔◌}
use mathlib.Core.Option.{some-injective}
use Prim.Native.Nat.{ℕ, ◌<◌}
use native.Mathlib.Omega.{arith}
use lib.ListN.{get_elem?, length-map}
use Rattle.sheet.specs.Office.{Office}
use Rattle.sheet.specs.Acceptable.{Acceptable}
use Rattle.rim.specs.Peel.{drawn, ring}
use Rattle.peel.specs.List.{Entry, entries, outline}
use Rattle.peel.specs.LookUp.{place_of, Falling}
use Rattle.peel.specs.Index.{limits}
use Rattle.peel.proofs.Falls.{at_below, column_at}
use Rattle.peel.proofs.Entries.{least_falls, stands_once, placed}

module _ {o : Office} (a : Acceptable o) where
  pub same_outline : (l m : ℕ) → (ring o (drawn o l) ≡ ring o (drawn o m)) ↔ (place_of (limits o) l ≡ place_of (limits o) m)
  unfolding outline
  same_outline l m =
      let (e, h, _, x) = placed a l in
      let (d, k, _, y) = placed a m in (
        (λ q. stands_once a _ _ e d h k (ap (λ x. x.round) x ∙ q ∙ sym (ap (λ x. x.round) y))),
        (λ q. sym (ap (λ x. x.round) x) ∙ ap (λ e. e.outline.round) (some-injective _ _ (sym h ∙ ap (λ i. get_elem? (entries o) i) q ∙ k)) ∙ ap (λ x. x.round) y),
      )

  -- so a limit can be looked up by halving
  pub limits_fall : Falling (limits o)
  unfolding limits
  limits_fall i j l b =
      let z = length-map (entries o) (λ (e : Entry). e.least) in
      let (e, h) = at_below (entries o) i (omega arith) in
      let (d, k) = at_below (entries o) j (omega arith) in
      subst₂ ◌<◌ (sym (column_at (λ e. e.least) (entries o) j k)) (sym (column_at (λ e. e.least) (entries o) i h)) (least_falls a i j e d l h k)
