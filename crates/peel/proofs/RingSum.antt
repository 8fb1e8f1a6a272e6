-- What changes its sign along a side run back, summed along the ring of reached marks, is the sum over the kept triangles: sides within cancel,
-- and the rim is left. Assumes nothing.
use mathlib.Core.Path.{◌≡◌, sym, ap, ap₂, ◌∙◌}
use mathlib.Core.Logic.{◌↔◌}
use mathlib.Core.Bool.{true, cond}
use mathlib.Core.List.{List}
use Prim.Native.Nat.{ℕ, ◌+◌, ◌*◌, ◌/◌, ◌%◌, ◌<◌}
use native.Mathlib.Omega.{arith}
use lib.Dec.{eqb}
use lib.ListN.{length, get_or}
use lib.IntN.{ℤ, pos}
use Rattle.laws.proofs.Test.{eqb_iff}
use Rattle.sheet.specs.Office.{Office, sides, triangles, tail, head}
use Rattle.sheet.specs.Acceptable.{Acceptable}
use Rattle.sheet.proofs.Sign.{opp}
use Rattle.sheet.proofs.Total.{total, total_same}
use Rattle.sheet.proofs.Tiling.{Even}
use Rattle.sheet.proofs.Tiled.{tiling}
use Rattle.sheet.proofs.Cancel.{Border, border_total}
use Rattle.sheet.proofs.Mesh.{triple, triples}
use Rattle.sheet.proofs.Circuit.{along}
use Rattle.rim.specs.Peel.{kept, rim, ring}
use Rattle.rim.proofs.Marks.{rim_iff}
use Rattle.rim.proofs.Reached.{Sound}
use Rattle.rim.proofs.Rings.{outlined, ring_length}
use Rattle.peel.proofs.Simple.{reads}

module _ (o : Office) (k : List ℕ) where
  -- kept triangles by their sides, and their border
  pub kept_even : Even (kept o k)
  kept_even t =
      let e : (t * 3 + 1) / 3 ≡ t * 3 / 3 = omega arith in
      let f : (t * 3 + 2) / 3 ≡ t * 3 / 3 = omega arith in
      (ap (λ i. eqb (get_or k i 0) 1) e, ap (λ i. eqb (get_or k i 0) 1) f)

  pub border_iff : (s : ℕ) → s < sides o → (rim o k s ≡ true) ↔ Border o (kept o k) s
  border_iff s l = (
    (λ e. let c = (rim_iff o k s).0 e in record { of = eqb_iff.1 c.0; alone = λ r b i w. c.1 r b (eqb_iff.0 i) w }),
    (λ c. (rim_iff o k s).1 (eqb_iff.0 c.of, λ r b i w. c.alone r b (eqb_iff.1 i) w)),
  )

module _ {o : Office} {n : ℕ} {k : List ℕ} (a : Acceptable o) (h : Sound o n k) (F : ℕ → ℕ → ℤ) (back : (p q : ℕ) → F p q ≡ opp (F q p)) where
  -- the point at step i, going round
  abbrev at : ℕ → ℕ
  at i = get_or (ring o k) (i % length (ring o k)) 0

  pub ring_sum : total (λ i. F (at i) (at (i + 1))) (length (ring o k)) ≡ total (λ t. cond (kept o k (t * 3)) (triple o F t) (pos 0)) (triangles o)
  ring_sum =
      total_same _ _ (length (ring o k)) (λ i l. ap₂ F (reads a h i) (reads a h (i + 1)))
      ∙ ap (total (λ i. F ((outlined a h).round.at i) ((outlined a h).round.at (i + 1)))) (ring_length a h)
      ∙ sym (along (sides o) (rim o k) (tail o) (head o) a.single (outlined a h).round F)
      ∙ sym (border_total o (kept o k) F back a.single (rim o k) (border_iff o k))
      ∙ triples o (tiling a) (kept o k) F (kept_even o k)
