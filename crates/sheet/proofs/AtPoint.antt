-- Coordinates read at points are the points'. Assumes nothing.
use mathlib.Core.Path.{◌≡◌, ap₂}
use Prim.Native.Nat.{ℕ}
use Rattle.sheet.specs.Plane.{spot, turn}
use Rattle.sheet.specs.Office.{Office, point}
use Rattle.sheet.specs.Code.{At}

pub spot_at : {o : Office} {p x y : ℕ} → At o p x y → spot x y ≡ point o p
spot_at a = ap₂ spot a.across a.up

pub turn_at : {o : Office} {p q r px py qx qy rx ry : ℕ} → At o p px py → At o q qx qy → At o r rx ry
    → turn (spot px py) (spot qx qy) (spot rx ry) ≡ turn (point o p) (point o q) (point o r)
turn_at a b c = let i = spot_at a in let j = spot_at b in let k = spot_at c in cc
