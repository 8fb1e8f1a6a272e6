use Rattle.sheet.specs.Office.{same_point}
use Rattle.sheet.specs.Code.{cloud, buckets}
use Rattle.sheet.proofs.Chain.{Back, rank}
use Rattle.sheet.proofs.spots.Cloud.is_again.Given as goal

abbrev pub invariant-loop-q : goal.invariant-loop-q
invariant-loop-q l = Back (buckets l.self.xs.now l.self.ys.now) l.p (same_point (cloud l.self.xs.now l.self.ys.now) l.p) l.begun l.q

abbrev pub decreases-loop-q : goal.decreases-loop-q
decreases-loop-q l = rank l.q
