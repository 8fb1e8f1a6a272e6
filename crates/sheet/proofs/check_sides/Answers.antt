-- Each early return is its refusal. Assumes nothing.
use Rattle.std.proofs.Common.{◌≡◌, ℕ, Option, None, Some, IsSome, refl, arith}
use Rattle.laws.specs.First.{lowest}
use Rattle.laws.proofs.Find.{at_some, at_nowhere, nowhere_first, lowest_none}
use Rattle.laws.proofs.Search.{found_none}
use Rattle.sheet.specs.Office.{Office, triangles, points, double, unused}
use Rattle.sheet.specs.Acceptable.{Single}
use Rattle.sheet.specs.Values.{office_of}
use Rattle.sheet.proofs.Plots.{cornered_of, single_from, none_double, used_from}
use Rattle.sheet.proofs.Handed.{refuses}
use Rattle.sheet.proofs.check_sides.Goals as goal

there : (r : Option ℕ) → (r ≡ None → ⊥) → IsSome r
there None f = absurd (f refl)
there (Some i) f = refl

pub first_double-triangle-requires : goal.first_double-triangle-requires
first_double-triangle-requires c = let p = c.args.plot.now in cornered_of (office_of p) p.plotted.whole c.requires

-- where the pairing stops, there is a triangle to name
pub unwrap-requires : goal.unwrap-requires
unwrap-requires c =
    let p = c.args.plot.now in
    let o = office_of p in
    there c.first_double-triangle.result
    (λ e. c.pair_sides.ensures.1 c.if-not-pair_sides.true (single_from o p.plotted.whole c.requires (triangles o) (nowhere_first (double o) (triangles o) c.first_double-triangle.ensures e) (omega arith)))

pub returns-then-not-pair_sides-clause-result_value : goal.returns-then-not-pair_sides-clause-result_value
returns-then-not-pair_sides-clause-result_value c = at_some _ _ _ _ c.first_double-triangle.ensures c.unwrap.ensures (refuses c.at.ensures)

-- no triangle repeats a side of an earlier one
none : (o : Office) → Single o → None ≡ lowest (double o) (triangles o)
none o single = lowest_none (double o) (triangles o) (found_none (double o) (triangles o) _ refl (none_double o single))

pub returns-in-Some-clause-result_value : goal.returns-in-Some-clause-result_value
returns-in-Some-clause-result_value c =
    at_nowhere _ _ _ _ (none (office_of c.args.plot.now) (c.pair_sides.ensures.0 c.if-not-pair_sides.false).0) refl
    (at_some _ _ _ _ c.first_unused.ensures c.in-Some.is (refuses c.at-in-Some.ensures))

pub check_rim-requires : goal.check_rim-requires
check_rim-requires c =
    let o = office_of c.args.plot.now in
    (c.requires, (c.pair_sides.ensures.0 c.if-not-pair_sides.false).0, used_from o (points o) (nowhere_first (unused o) (points o) c.first_unused.ensures c.in_default.is) (omega arith))

pub returns-clause-result_value : goal.returns-clause-result_value
returns-clause-result_value c =
    at_nowhere _ _ _ _ (none (office_of c.args.plot.now) (c.pair_sides.ensures.0 c.if-not-pair_sides.false).0) refl
    (at_nowhere _ _ _ _ c.first_unused.ensures c.in_default.is c.check_rim.ensures)
