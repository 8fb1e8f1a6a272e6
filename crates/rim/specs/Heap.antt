-- The sides that wait to be peeled, as a binary heap at the front of a list, with their keys beside: none goes before the one above it.
-- Assumes nothing.
use Rattle.std.specs.Prelude.{Option, Some, ◌≡◌, ◌⊎◌, true, false, cond, List, ℕ, ◌+◌, ◌*◌, ◌-◌, ◌/◌, ◌<◌, ◌≤◌, eqb, length, get_or}
use Rattle.laws.specs.First.{sum}
use Rattle.sheet.specs.Plane.{Point}
use Rattle.sheet.specs.Office.{Office, sides, point, apex}
use Rattle.rim.specs.Peel.{rim, on_rim, removable, long, first_end, second_end, best, rims}
use Rattle.rim.specs.Code.{told}
use Rattle.rim.specs.declared.answers.Side.{Side}

-- a point in one number, by x and then by y
abbrev pub packed : Point → ℕ
packed p = p.x * 16384 + p.y

-- a side's key: its squared length, and behind it what its first end leaves of the grid
unfoldable pub key : Office → ℕ → ℕ
key o s = long o s * 268435456 + (268435455 - packed (point o (first_end o s)))

-- the order of sides in one number: the side that goes before another has the greater
unfoldable pub rank : Office → ℕ → ℕ
rank o s = key o s * 268435456 + (268435455 - packed (point o (second_end o s)))

-- the rank of the side at place i; the place above place i
abbrev pub rank_at : Office → List ℕ → ℕ → ℕ
rank_at o queue i = rank o (get_or queue i 0)

abbrev pub above : ℕ → ℕ
above i = (i - 1) / 2

-- the first n of 1,024 places
pub record Heap (o : Office) (queue keys : List ℕ) (n : ℕ) : Type 0 where
  pub size : (length queue ≡ 1024) × (length keys ≡ 1024)
  pub known : (i : ℕ) → i < n → get_or queue i 0 < sides o
  pub measured : (i : ℕ) → i < n → get_or keys i 0 ≡ key o (get_or queue i 0)
  pub order : (i : ℕ) → 0 < i → i < n → rank_at o queue i ≤ rank_at o queue (above i)

-- 1 where s is x, else 0; and how often x stands at the first n places
unfoldable pub bit : ℕ → ℕ → ℕ
bit s x = cond (eqb s x) 1 0

unfoldable pub tally : ℕ → List ℕ → ℕ → ℕ
tally x queue n = sum (λ i. bit (get_or queue i 0) x) n

-- side s has joined the n that wait
pub record Pushed (o : Office) (old queue keys : List ℕ) (n s : ℕ) : Type 0 where
  pub heap : Heap o queue keys (n + 1)
  pub bag : (x : ℕ) → tally x queue (n + 1) ≡ tally x old n + bit s x

-- side s has come in the first's place
pub record Sunk (o : Office) (old queue keys : List ℕ) (n s : ℕ) : Type 0 where
  pub heap : Heap o queue keys n
  pub bag : (x : ℕ) → tally x queue n + bit (get_or old 0 0) x ≡ tally x old n + bit s x

-- the first has left
pub record Popped (o : Office) (old queue keys : List ℕ) (n : ℕ) : Type 0 where
  pub heap : Heap o queue keys (n - 1)
  pub bag : (x : ℕ) → tally x queue (n - 1) + bit (get_or old 0 0) x ≡ tally x old n

-- of sides s and r those whose triangle's third corner is unmarked wait; the others that waited do so still, but for the first
pub record Joined (o : Office) (marks old queue keys : List ℕ) (n m s r : ℕ) : Type 0 where
  pub heap : Heap o queue keys m
  pub few : m ≤ n + 1
  pub stays : (x : ℕ) → 0 < tally x old n → (get_or old 0 0 ≡ x → ⊥) → 0 < tally x queue m
  pub one_waits : (get_or marks (apex o s) 0 ≡ 1 → ⊥) → 0 < tally s queue m
  pub two_waits : (get_or marks (apex o r) 0 ≡ 1 → ⊥) → 0 < tally r queue m
  pub only : (x : ℕ) → 0 < tally x queue m → (0 < tally x old n) ⊎ ((s ≡ x) ⊎ (r ≡ x))

-- of the places below m under one place, of which the first is c, place r has a side that none of the others goes before
pub record Leading (o : Office) (queue : List ℕ) (m c r : ℕ) : Type 0 where
  pub from : c ≤ r
  pub within : r < m
  pub near : r ≤ c + 1
  pub most : (j : ℕ) → c ≤ j → j ≤ c + 1 → j < m → rank_at o queue j ≤ rank_at o queue r

-- at marks k every removable side waits; one that waits is on the rim, unless its triangle's third corner is
pub record Queued (o : Office) (k queue keys : List ℕ) (n : ℕ) : Type 0 where
  pub heap : Heap o queue keys n
  pub few : n ≤ rims o k
  pub all : (s : ℕ) → s < sides o → removable o k s ≡ true → 0 < tally s queue n
  pub on : (s : ℕ) → 0 < tally s queue n → on_rim o k (apex o s) ≡ false → rim o k s ≡ true

-- the side to peel next is found, and stands first
pub record Next (o : Office) (k queue keys : List ℕ) (n : ℕ) (found : Option Side) : Type 0 where
  pub queued : Queued o k queue keys n
  pub is_best : found ≡ told o (best o k)
  pub is_first : (s : Side) → found ≡ Some s → (0 < n) × (s.place ≡ get_or queue 0 0)
