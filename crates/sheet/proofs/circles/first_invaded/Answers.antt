-- The search ends where a hit is known. Assumes nothing.
use Rattle.std.proofs.Common.{rules, ◌≡◌, ℕ, Option, Some, None, refl, ap, ◌∙◌}
use Rattle.std.specs.Option.{unwrap_or, option_or}
use Rattle.laws.specs.First.{lowest}
use Rattle.laws.proofs.Find.{lowest_from_find, lowest_or}
use Rattle.sheet.specs.Office.{Office, triangles, invaded}
use Rattle.sheet.specs.Quick.{Foremost}
use Rattle.sheet.specs.Values.{office_of}
use Rattle.sheet.proofs.circles.first_invaded.Goals as goal

all : (o : Office) (bad : Option ℕ) → Foremost o bad → option_or (lowest (invaded o) (unwrap_or bad (triangles o))) bad ≡ lowest (invaded o) (triangles o)
all o None h = nothing (lowest (invaded o) (triangles o))
  where
    nothing : (r : Option ℕ) → option_or r None ≡ r
    nothing None = refl
    nothing (Some i) = refl
all o (Some b) h = lowest_or (invaded o) (triangles o) b h.0 h.1

pub returns : goal.returns
returns c =
    let o = office_of c.args.plot.now in
    let found = lowest_from_find (invaded o) c.unwrap_or-end.result _ c.find.ensures.ran (λ x q k. search rules) (λ x q k. search rules) in
    c.or.ensures
    ∙ ap (λ r. option_or r c.args.bad) (found ∙ ap (lowest (invaded o)) c.unwrap_or-end.ensures)
    ∙ all o c.args.bad c.requires
