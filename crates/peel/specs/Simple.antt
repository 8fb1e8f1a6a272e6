-- Document 01, demand 2: what makes a ring of points a simple polygon. Assumes nothing.
use Rattle.std.specs.Prelude.{◌≡◌, List, ℕ, ◌+◌, ◌<◌, ◌≤◌, length, ℤ}
use Rattle.sheet.specs.Plane.{Point, turn}
use Rattle.sheet.specs.Office.{Office}
use Rattle.sheet.proofs.Sign.{Pos}
use Rattle.sheet.proofs.Between.{Between}
use Rattle.sheet.proofs.Meet.{Opposite}
use Rattle.sheet.proofs.Inner.{Inner}
use Rattle.peel.specs.Parcel.{corner}

module _ (o : Office) (row : List ℕ) where
  -- the point at step i, going round
  abbrev at : ℕ → Point
  at = corner o row

  pub record Simple : Type 0 where
    pub three : 3 ≤ length row
    -- no two of its points are equal
    pub once : (i j : ℕ) → i < length row → j < length row → (at i).x ≡ (at j).x → (at i).y ≡ (at j).y → i ≡ j
    -- no two of its sides cross
    pub crossing : (i j : ℕ) → Opposite (turn (at i) (at (i + 1)) (at j)) (turn (at i) (at (i + 1)) (at (j + 1)))
        → Opposite (turn (at j) (at (j + 1)) (at i)) (turn (at j) (at (j + 1)) (at (i + 1))) → ⊥
    -- none of its points lies within one of its sides
    pub touching : (i j : ℕ) → Between (at i) (at (i + 1)) (at j) → ⊥
    -- two of its sides with an inner point in common, the point (X / m, Y / m), are one
    pub apart : (i j : ℕ) → i < length row → j < length row → (m X Y : ℤ) → Pos m → Inner m X Y (at i) (at (i + 1)) → Inner m X Y (at j) (at (j + 1)) → i ≡ j
