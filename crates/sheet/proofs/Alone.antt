-- An unambiguous office is the only acceptable one with its points: any other names the same triangles, in another order and from other
-- corners on. Assumes nothing.
use mathlib.Core.Path.{◌≡◌, sym, subst, ◌∙◌}
use mathlib.Core.List.{List}
use Prim.Native.Nat.{ℕ}
use Rattle.sheet.specs.Plane.{circle}
use Rattle.sheet.specs.Office.{Office, office, point}
use Rattle.sheet.specs.Acceptable.{Acceptable}
use Rattle.sheet.specs.Unambiguous.{Unambiguous}
use Rattle.sheet.specs.Renumbered.{Renumbered}
use Rattle.sheet.proofs.Coincide.{holds}
use Rattle.sheet.proofs.Reordered.{Covers, reordered, keeps_numbers}

-- n is o renumbered, and its points keep their numbers
abbrev pub Reordered : Office → Office → Type 0
Reordered o n = (re : Renumbered o n) × ((p : ℕ) → re.number.to p ≡ p)

module _ {xs ys c d : List ℕ} (a : Acceptable (office xs ys c)) (e : Acceptable (office xs ys d)) (clear : Unambiguous (office xs ys c)) where
  abbrev o : Office
  o = office xs ys c

  -- then the other is unambiguous too
  again : Unambiguous (office xs ys d)
  again s r l b (x, y) z =
      let (s', ls, f) = holds a e clear s l in
      let (r', lr, g) = holds a e clear r b in
      clear s' r' ls lr (g.tails ∙ x ∙ sym f.heads, g.heads ∙ y ∙ sym f.tails) ((λ i. circle (point o (f.tails i)) (point o (f.heads i)) (point o (f.apexes i)) (point o (g.apexes i))) ∙ z)

  only : Reordered (office xs ys c) (office xs ys d)
  only =
      let f : Covers (office xs ys d) (office xs ys c) = record { whole = e.corners_bound.1; single = e.single; holds = holds e a again } in
      let g : Covers (office xs ys c) (office xs ys d) = record { whole = a.corners_bound.1; single = a.single; holds = holds a e clear } in
      (reordered f g, keeps_numbers f g)

pub alone : (o n : Office) → Acceptable o → Acceptable n → o.xs ≡ n.xs → o.ys ≡ n.ys → Unambiguous o → Reordered o n
alone o n a e x y clear =
    subst (λ xs. Acceptable (office xs n.ys n.corners) → Reordered o (office xs n.ys n.corners)) x
    (subst (λ ys. Acceptable (office o.xs ys n.corners) → Reordered o (office o.xs ys n.corners)) y (λ e. only a e clear)) e
