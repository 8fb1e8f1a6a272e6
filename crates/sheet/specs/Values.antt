-- What the code's structs stand for. Assumes nothing.
use Rattle.sheet.specs.Plane.{Point, spot}
use Rattle.sheet.specs.Office.{Office, office}
use Rattle.sheet.specs.Code.{cloud}
use Rattle.sheet.specs.declared.spots.Spot.{Spot}
use Rattle.sheet.specs.declared.spots.Cloud.{Cloud}
use Rattle.sheet.specs.declared.spots.Plot.{Plot}

abbrev pub at : Spot → Point
at s = spot s.x s.y

abbrev pub cloud_of : Cloud → Office
cloud_of c = cloud c.xs.now c.ys.now

abbrev pub office_of : Plot → Office
office_of p = office p.xs.now p.ys.now p.corners.now
