-- Document 01's and 02's number of each rule. Assumes nothing.
use Rattle.std.specs.Prelude.{ℕ}
use Rattle.sheet.specs.declared.refusal.Rule.{Rule}
use Rattle.sheet.specs.declared.refusal.Rule.TheVariants.{UnequalLists, PointCount, CornerCount, ShortBuffer, LargeCoordinate, RepeatedPoint, NoPoint, FlatTriangle, RepeatedSide, UnusedPoint, InvadedCircle, BrokenRim, OuterPoint, CutShort, ByteOrder, OtherType, RingCount, PositionCount, NotFinite, OffGrid, OpenRing, BytesLeft, ShortLists, NoRing, LargeRing, ShortOutput, PointType, DistrictCount, LengthSum, Text}

abbrev pub number : Rule → ℕ
number UnequalLists = 1
number PointCount = 2
number CornerCount = 3
number ShortBuffer = 4
number LargeCoordinate = 5
number RepeatedPoint = 6
number NoPoint = 7
number FlatTriangle = 8
number RepeatedSide = 9
number UnusedPoint = 10
number InvadedCircle = 11
number BrokenRim = 12
number OuterPoint = 13
number CutShort = 20
number ByteOrder = 21
number OtherType = 22
number RingCount = 23
number PositionCount = 24
number NotFinite = 25
number OffGrid = 26
number OpenRing = 27
number BytesLeft = 28
number ShortLists = 29
number NoRing = 30
number LargeRing = 31
number ShortOutput = 32
number PointType = 33
number DistrictCount = 35
number LengthSum = 36
number Text = 40
