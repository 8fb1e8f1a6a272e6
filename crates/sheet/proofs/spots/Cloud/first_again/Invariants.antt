use Rattle.std.proofs.Common.{length}
use Rattle.laws.proofs.Search.{Sought}
use Rattle.sheet.specs.Office.{again}
use Rattle.sheet.specs.Code.{cloud, buckets}
use Rattle.sheet.proofs.Chain.{Chaining}
use Rattle.sheet.proofs.spots.Cloud.first_again.Given as goal

abbrev pub invariant-loop-p : goal.invariant-loop-p
invariant-loop-p l = Sought (again (cloud l.self.xs.now l.self.ys.now)) (length l.self.xs.now) l.p × Chaining 1024 (buckets l.self.xs.now l.self.ys.now) l.earlier l.latest l.p
