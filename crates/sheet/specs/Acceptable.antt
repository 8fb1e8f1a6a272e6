-- Document 01, 'What makes a triangulation acceptable', in plain logic. Assumes nothing.
use Rattle.std.specs.Prelude.{◌≡◌, ℕ, ◌+◌, ◌*◌, ◌%◌, ◌<◌, ◌≤◌, pos, ◌<ℤ◌, length, get_or}
use Rattle.laws.specs.Round.{Round, Runs}
use Rattle.sheet.specs.Plane.{turn, circle}
use Rattle.sheet.specs.Office.{Office, points, sides, triangles, point, tail, head, area}

-- each triangle runs counterclockwise
abbrev pub Left : Office → Type 0
Left o = (t : ℕ) → t < triangles o → pos 0 <ℤ area o t

-- no directed side occurs twice
abbrev pub Single : Office → Type 0
Single o = (s r : ℕ) → s < sides o → r < sides o → tail o s ≡ tail o r → head o s ≡ head o r → s ≡ r

-- each point is a corner
abbrev pub Used : Office → Type 0
Used o = (p : ℕ) → p < points o → (s : ℕ) × (s < sides o) × (tail o s ≡ p)

-- side r runs back along side s
abbrev pub Reverse : Office → ℕ → ℕ → Type 0
Reverse o s r = (tail o r ≡ head o s) × (head o r ≡ tail o s)

-- no side does
abbrev pub Rim : Office → ℕ → Type 0
Rim o s = (r : ℕ) → r < sides o → Reverse o s r → ⊥

-- a rim side runs from p to q
abbrev pub Along : Office → ℕ → ℕ → Type 0
Along o = Runs (sides o) (Rim o) (tail o) (head o)

-- document 01's rules, in the order of the refusals 1 to 13; 4 is about lent buffers
pub record Acceptable (o : Office) : Type 0 where
  pub paired : length o.xs ≡ length o.ys
  pub points_bound : (3 ≤ points o) × (points o ≤ 1024)
  pub corners_bound : (0 < sides o) × (sides o % 3 ≡ 0) × (sides o ≤ 6129)
  pub small : (p : ℕ) → p < points o → (get_or o.xs p 0 ≤ 16383) × (get_or o.ys p 0 ≤ 16383)
  pub distinct : (p q : ℕ) → p < points o → q < points o → get_or o.xs p 0 ≡ get_or o.xs q 0 → get_or o.ys p 0 ≡ get_or o.ys q 0 → p ≡ q
  pub numbered : (s : ℕ) → s < sides o → tail o s < points o
  pub left : Left o
  pub single : Single o
  pub used : Used o
  pub empty : (t p : ℕ) → t < triangles o → p < points o
      → pos 0 <ℤ circle (point o (tail o (t * 3))) (point o (tail o (t * 3 + 1))) (point o (tail o (t * 3 + 2))) (point o p) → ⊥
  pub ring : (m : ℕ) × Round (Along o) m
  pub hull : (s p : ℕ) → s < sides o → Rim o s → p < points o → turn (point o (tail o s)) (point o (head o s)) (point o p) <ℤ pos 0 → ⊥
