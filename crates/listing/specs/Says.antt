-- Document 01, 'The printed list': what a text of numbers is, in plain logic. Assumes nothing.
use Rattle.std.specs.Prelude.{ℕ, ◌<◌, ◌≤◌, ◌≡◌, ◌⊎◌, List, [], ◌∷◌, ◌++◌, length}
use Rattle.listing.specs.Text.{value}

-- a space, a line feed or a carriage return
abbrev pub White : ℕ → Type 0
White b = (b ≡ 32) ⊎ ((b ≡ 10) ⊎ (b ≡ 13))

abbrev pub Digits : List ℕ → Type 0
Digits [] = Unit {0}
Digits (b ∷ bs) = (48 ≤ b) × (b ≤ 57) × Digits bs

-- 1 to 5 digits that say at most 65,535
pub record Number (w : List ℕ) : Type 0 where
  pub some : 0 < length w
  pub few : length w ≤ 5
  pub plain : Digits w
  pub small : value w ≤ 65535

-- a text and its numbers: white space may lead or trail, and parts any two numbers
pub data Says : List ℕ → List ℕ → Type 0 where
  nothing : Says [] []
  gap : {b : ℕ} {text ns : List ℕ} → White b → Says text ns → Says (b ∷ text) ns
  last : {w : List ℕ} → Number w → Says w (value w ∷ [])
  next : {w text ns : List ℕ} {b : ℕ} → Number w → White b → Says text ns → Says (w ++ (b ∷ text)) (value w ∷ ns)

-- numbers that a text can say, one line and all lines
abbrev pub Small : List ℕ → Type 0
Small [] = Unit {0}
Small (n ∷ ns) = (n ≤ 65535) × Small ns

abbrev pub Smalls : List (List ℕ) → Type 0
Smalls [] = Unit {0}
Smalls (ns ∷ lines) = Small ns × Smalls lines
