-- Document 01, 'Polygon bytes', last paragraph: the office that two plain byte blocks are. Assumes nothing.
use Rattle.std.specs.Prelude.{ℕ, ◌+◌, ◌*◌, ◌/◌, List, length, get_or}
use Rattle.laws.specs.First.{table}
use Rattle.sheet.specs.Office.{Office, office}

-- two bytes, low first
abbrev pub pair : List ℕ → ℕ → ℕ
pair block at = get_or block at 0 + 256 * get_or block (at + 1) 0

-- n numbers, each two bytes, `step` bytes apart
abbrev pub pairs : List ℕ → ℕ → ℕ → ℕ → List ℕ
pairs block from step n = table (λ i. pair block (from + step * i)) n

-- points: two bytes x, two bytes y; triangles: three times two bytes
abbrev pub decoded : List ℕ → List ℕ → Office
decoded points triangles = office (pairs points 0 4 (length points / 4)) (pairs points 2 4 (length points / 4)) (pairs triangles 0 2 (length triangles / 2))
