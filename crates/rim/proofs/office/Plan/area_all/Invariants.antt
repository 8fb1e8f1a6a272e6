-- The areas below t are added.
use Rattle.rim.specs.Values.{plan_of}
use Rattle.rim.proofs.Begun.{Summed}
use Rattle.rim.proofs.office.Plan.area_all.Given as goal

abbrev pub invariant-loop-t : goal.invariant-loop-t
invariant-loop-t l = Summed (plan_of l.self) l.t l.total
