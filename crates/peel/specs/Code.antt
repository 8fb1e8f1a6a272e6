-- What the code's values stand for. Assumes nothing.
use Rattle.std.specs.Prelude.{ℕ, ◌-◌, List, ◌++◌, map, ◌≡◌, length, drop}
use Rattle.std.proofs.lemmas.List.Edits.{sets}
use Rattle.laws.specs.First.{table}
use Rattle.sheet.specs.Office.{Office, points, triangles}
use Rattle.rim.specs.Peel.{mark, on_rim, peels, rims, ring, peeled, doubled}
use Rattle.rim.specs.Code.{front, State}
use Rattle.peel.specs.List.{Entry, entries_from}

-- what peeling on from a state, after `begun` peels, comes to
pub record Drew (o : Office) (limit : ℕ) (mate kept rim : List ℕ) (begun : ℕ) (kept' rim' : List ℕ) (peeled area ring : ℕ) : Type 0 where
  pub state : State o mate kept' rim' peeled area ring
  pub marks : front o.corners kept' ≡ peels o (triangles o - begun) limit (front o.corners kept)
  pub kept_rest : drop (triangles o) kept' ≡ drop (triangles o) kept
  pub rim_rest : drop (points o) rim' ≡ drop (points o) rim

-- the lent lists, once marks k are drawn
pub record Lent (o : Office) (k kept rim round kept' rim' round' : List ℕ) : Type 0 where
  pub marks : kept' ≡ k ++ drop (triangles o) kept
  pub on : rim' ≡ table (λ p. mark (on_rim o k p)) (points o) ++ drop (points o) rim
  pub goes : round' ≡ ring o k ++ drop (rims o k) round

-- the lent lists and the tally
pub record Outlined (o : Office) (k kept rim round kept' rim' round' : List ℕ) (peels area sides : ℕ) : Type 0 where
  pub lent : Lent o k kept rim round kept' rim' round'
  pub peels_are : peels ≡ peeled o k
  pub area_is : area ≡ doubled o k
  pub sides_are : sides ≡ rims o k

-- the entries from a state on, after `begun` peels
abbrev pub entries_on : Office → List ℕ → ℕ → List Entry
entries_on o kept begun = entries_from o (triangles o - begun) 4294967296 (front o.corners kept)

-- entries, written into the three lists from their fronts on
pub record Noted (es : List Entry) (least peeled area least' peeled' area' : List ℕ) (count : ℕ) : Type 0 where
  pub counts : count ≡ length es
  pub leasts : least' ≡ sets least 0 (map (λ e. e.least) es)
  pub peels : peeled' ≡ sets peeled 0 (map (λ e. e.outline.peels) es)
  pub areas : area' ≡ sets area 0 (map (λ e. e.outline.area) es)

-- the same: the entries stand in front, and later places are untouched
pub record Written (es : List Entry) (least peeled area least' peeled' area' : List ℕ) (count : ℕ) : Type 0 where
  pub counts : count ≡ length es
  pub leasts : least' ≡ map (λ e. e.least) es ++ drop (length es) least
  pub peels : peeled' ≡ map (λ e. e.outline.peels) es ++ drop (length es) peeled
  pub areas : area' ≡ map (λ e. e.outline.area) es ++ drop (length es) area
