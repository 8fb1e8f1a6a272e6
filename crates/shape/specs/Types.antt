-- Document 01, 'Polygon bytes', and document 02, 1/13 and 3/13: the numbers of the types. Assumes nothing.
use Rattle.std.specs.Prelude.{ℕ}
use Rattle.shape.specs.declared.Shape.{Shape}
use Rattle.shape.specs.declared.Shape.TheVariants.{Point, Polygon, MultiPoint, MultiPolygon}

abbrev pub type_of : Shape → ℕ
type_of Point = 1
type_of Polygon = 3
type_of MultiPoint = 4
type_of MultiPolygon = 6
