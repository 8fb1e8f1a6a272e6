-- The dozen of document 01: what the check says of each, in one statement over the table. Assumes nothing.
use Prim.Native.Nat.{ℕ}
use mathlib.Core.Path.{◌≡◌, refl}
use mathlib.Core.Bool.{true}
use mathlib.Core.List.{List, [], ◌∷◌, map}
use Rattle.laws.specs.First.{first, at_first, count, walk, stepped, among, once}
use Rattle.sheet.specs.Plane.{turn, squared, circle}
use Rattle.sheet.specs.Office.{Office, office}
use Rattle.sheet.specs.Verdict.{accepted, refused, verdict}

abbrev T : List ℕ → Office
T corners = office (0 ∷ 4 ∷ 0 ∷ []) (0 ∷ 0 ∷ 3 ∷ []) corners

abbrev pub square : List ℕ → Office
square corners = office (0 ∷ 10 ∷ 10 ∷ 0 ∷ []) (0 ∷ 0 ∷ 10 ∷ 10 ∷ []) corners

-- T, the printed office and case 4; then cases 5 to 12
abbrev pub given : List Office
given =
    T (0 ∷ 1 ∷ 2 ∷ [])
    ∷ office (0 ∷ 10 ∷ 10 ∷ 0 ∷ 5 ∷ []) (0 ∷ 0 ∷ 10 ∷ 10 ∷ 2 ∷ []) (0 ∷ 1 ∷ 4 ∷ 1 ∷ 2 ∷ 4 ∷ 2 ∷ 3 ∷ 4 ∷ 3 ∷ 0 ∷ 4 ∷ [])
    ∷ office (10 ∷ 17 ∷ 20 ∷ 17 ∷ 10 ∷ 3 ∷ 0 ∷ 3 ∷ 9 ∷ 11 ∷ []) (0 ∷ 3 ∷ 10 ∷ 17 ∷ 20 ∷ 17 ∷ 10 ∷ 3 ∷ 10 ∷ 10 ∷ []) (0 ∷ 1 ∷ 9 ∷ 1 ∷ 2 ∷ 9 ∷ 2 ∷ 3 ∷ 9 ∷ 3 ∷ 4 ∷ 9 ∷ 4 ∷ 8 ∷ 9 ∷ 4 ∷ 5 ∷ 8 ∷ 5 ∷ 6 ∷ 8 ∷ 6 ∷ 7 ∷ 8 ∷ 7 ∷ 0 ∷ 8 ∷ 0 ∷ 9 ∷ 8 ∷ [])
    ∷ square (0 ∷ 1 ∷ 2 ∷ 0 ∷ 2 ∷ 3 ∷ [])
    ∷ square (0 ∷ 1 ∷ 3 ∷ 1 ∷ 2 ∷ 3 ∷ [])
    ∷ office (0 ∷ 4 ∷ 8 ∷ 4 ∷ []) (2 ∷ 0 ∷ 2 ∷ 4 ∷ []) (0 ∷ 1 ∷ 2 ∷ 0 ∷ 2 ∷ 3 ∷ [])
    ∷ office (0 ∷ 4 ∷ 2 ∷ 2 ∷ []) (0 ∷ 0 ∷ 1 ∷ 5 ∷ []) (0 ∷ 2 ∷ 3 ∷ 2 ∷ 1 ∷ 3 ∷ [])
    ∷ T (0 ∷ 2 ∷ 1 ∷ [])
    ∷ T (0 ∷ 1 ∷ 2 ∷ 0 ∷ 1 ∷ 2 ∷ [])
    ∷ office (0 ∷ 4 ∷ 0 ∷ 9 ∷ []) (0 ∷ 0 ∷ 3 ∷ 9 ∷ []) (0 ∷ 1 ∷ 2 ∷ [])
    ∷ office (0 ∷ 4 ∷ 0 ∷ 100 ∷ 104 ∷ 100 ∷ []) (0 ∷ 0 ∷ 3 ∷ 0 ∷ 0 ∷ 3 ∷ []) (0 ∷ 1 ∷ 2 ∷ 3 ∷ 4 ∷ 5 ∷ [])
    ∷ []

pub dozen_checked : map (verdict true) given ≡
    accepted 3 ∷ accepted 4 ∷ accepted 8 ∷ accepted 4 ∷ accepted 4
    ∷ refused 11 0 ∷ refused 13 0 ∷ refused 8 0 ∷ refused 9 1 ∷ refused 10 3 ∷ refused 12 0 ∷ []
unfolding first at_first count walk stepped among once turn squared circle verdict
dozen_checked = refl
