-- Where no triangle is bad, each of them is clear. Assumes nothing.
use Rattle.std.proofs.Common.{rules, ◌≡◌, ℕ, Option, Some, None, IfNone, refl}
use Rattle.laws.proofs.Find.{each_from_find}
use Rattle.sheet.specs.Office.{triangles}
use Rattle.sheet.specs.Quick.{Clears}
use Rattle.sheet.specs.Values.{office_of}
use Rattle.sheet.proofs.Neat.{all_clear}
use Rattle.sheet.proofs.spots.Mesh.first_bad.Goals as goal

none : (r : Option ℕ) {A : Type 0} → (r ≡ None → A) → IfNone r A
none None f = f refl
none (Some i) f = tt

pub returns-clause-none : goal.returns-clause-none
returns-clause-none c =
    let o = office_of c.args.self.now.plot in
    none c.find.result (λ e. all_clear o c.args.self.now.plot.plotted.whole (each_from_find (Clears o) (triangles o) _ c.find.ensures.ran (λ x q k. search rules) e))
