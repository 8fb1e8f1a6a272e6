-- Document 02, 2/13: what new point numbers do to an outline, and to a list. Assumes nothing.
use Rattle.std.specs.Prelude.{◌≡◌, List, [], ◌∷◌, map, ℕ, ◌<◌, ◌≤◌, length, get_or}
use Rattle.laws.specs.Round.{rotated}
use Rattle.peel.specs.List.{Outline, Entry}

-- a list begins with its lowest number
abbrev pub LowestFirst : List ℕ → Type 0
LowestFirst l = (i : ℕ) → i < length l → get_or l 0 0 ≤ get_or l i 0

-- ring l is ring k in the new numbers, begun at the lowest of these
abbrev pub Turned : (ℕ → ℕ) → List ℕ → List ℕ → Type 0
Turned number k l = ((i : ℕ) × (i < length k) × (l ≡ map number (rotated i k))) × LowestFirst l

-- outline y is outline x in the new numbers
pub record Renamed (number : ℕ → ℕ) (x y : Outline) : Type 0 where
  pub peels : y.peels ≡ x.peels
  pub area : y.area ≡ x.area
  pub round : Turned number x.round y.round

-- two lists have as many entries, with the same least limits and renamed outlines, in their order
pub data Paired (number : ℕ → ℕ) : List Entry → List Entry → Type 0 where
  ended : Paired number [] []
  paired : {e d : Entry} {es ds : List Entry} → d.least ≡ e.least → Renamed number e.outline d.outline → Paired number es ds → Paired number (e ∷ es) (d ∷ ds)
