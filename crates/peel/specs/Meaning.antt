-- Document 01, demands 2 and 3, of what the calls leave in memory: in plain logic, whatever the lent lists held. Assumes nothing.
use Rattle.std.specs.Prelude.{◌≡◌, List, map, ℕ, ◌-◌, ◌<◌, ◌≤◌, length, get_or, take}
use Rattle.laws.specs.First.{table}
use Rattle.sheet.specs.Office.{Office, points, triangles}
use Rattle.sheet.specs.Acceptable.{Acceptable}
use Rattle.rim.specs.Peel.{mark, on_rim, drawn, ring, doubled}
use Rattle.peel.specs.List.{entries}
use Rattle.peel.specs.Complete.{Complete}
use Rattle.peel.specs.DrawnAt.{DrawnAt}

-- a lent list that now holds what was written in front, and further on what it held
pub record Over (written lent now : List ℕ) : Type 0 where
  pub long : length now ≡ length lent
  pub front : (i : ℕ) → i < length written → get_or now i 0 ≡ get_or written i 0
  pub rest : (i : ℕ) → length written ≤ i → get_or now i 0 ≡ get_or lent i 0

-- the lent lists show a draw at the limit after n peels
pub record Shows (o : Office) (limit n : ℕ) (kept rim round kept' rim' round' : List ℕ) : Type 0 where
  -- the marks in front of kept are a draw's
  pub outline : DrawnAt o limit n (take (triangles o) kept')
  pub marks : Over (drawn o limit) kept kept'
  -- the points on the rim have mark 1, the others 0
  pub on : Over (table (λ p. mark (on_rim o (drawn o limit) p)) (points o)) rim rim'
  pub goes : Over (ring o (drawn o limit)) round round'

-- a draw that answered p peels, doubled area a and a ring of m points
pub record DrawMeans (o : Office) (limit p a m : ℕ) (kept rim round kept' rim' round' : List ℕ) : Type 0 where
  pub acceptable : Acceptable o
  pub room : (triangles o ≤ length kept) × (points o ≤ length rim) × (points o ≤ length round)
  pub shows : Shows o limit p kept rim round kept' rim' round'
  pub area_is : a ≡ doubled o (take (triangles o) kept')
  -- the ring stands in front, and m is its length
  pub ring_is : take m round' ≡ ring o (take (triangles o) kept')
  pub length_is : m ≡ length (ring o (take (triangles o) kept'))

-- a list that answered c entries
pub record ListMeans (o : Office) (c : ℕ) (kept rim round least peeled area kept' rim' round' least' peeled' area' : List ℕ) : Type 0 where
  pub acceptable : Acceptable o
  pub room : (triangles o ≤ length kept) × (points o ≤ length rim) × (points o ≤ length round)
      × (points o - 2 ≤ length least) × (points o - 2 ≤ length peeled) × (points o - 2 ≤ length area)
  pub complete : Complete o
  pub counts : c ≡ length (entries o)
  pub leasts : Over (map (λ e. e.least) (entries o)) least least'
  pub peels : Over (map (λ e. e.outline.peels) (entries o)) peeled peeled'
  pub areas : Over (map (λ e. e.outline.area) (entries o)) area area'
  pub shows : (n : ℕ) × Shows o 0 n kept rim round kept' rim' round'
