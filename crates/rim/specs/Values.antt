-- What the code's structs stand for. Assumes nothing.
use Rattle.std.specs.Prelude.{◌≡◌, ◌<◌, ℕ, List}
use Rattle.sheet.specs.Office.{Office, office, sides}
use Rattle.rim.specs.Heap.{Heap, Queued, key}
use Rattle.rim.specs.declared.office.Plan.{Plan}
use Rattle.rim.specs.declared.office.Accepted.{Accepted}
use Rattle.rim.specs.declared.keys.Keyed.{Keyed}
use Rattle.rim.specs.declared.queue.Queue.{Queue}

abbrev pub plan_of : Plan → Office
plan_of p = office p.xs.now p.ys.now p.corners.now

abbrev pub office_of : Accepted → Office
office_of a = office a.xs.now a.ys.now a.corners.now

-- a side of the office, with its own key
abbrev pub Known : Office → Keyed → Type 0
Known o w = (w.side < sides o) × (w.key ≡ key o w.side)

abbrev pub Heaped : Office → Queue → Type 0
Heaped o q = Heap o q.places q.keys q.waiting

abbrev pub Waits : Office → List ℕ → Queue → Type 0
Waits o k q = Queued o k q.places q.keys q.waiting
