-- Document 02, 5/13: the log of a draw, and what a replay makes of a log: it is read from the left, and the first fault counts. Assumes nothing.
use Rattle.std.specs.Prelude.{ℕ, zero, suc, ◌+◌, ◌-◌, ◌*◌, ◌/◌, ◌%◌, Bool, cond, ◌||◌, List, [], ◌∷◌, ◌++◌, eqb, ltb, leb, length, take}
use Rattle.sheet.specs.Office.{Office}
use Rattle.sheet.specs.Verdict.{Verdict, accepted, refused, verdict}
use Rattle.rim.specs.Peel.{whole}
use Rattle.peel.specs.History.{history, without}
use Rattle.peel.specs.Outcome.{Outcome, draws, refuses}

-- ---- numbers below 2 ^ 14

-- in groups of seven bits, lowest first, the top bit set on all but the last, in the shortest form
unfoldable pub coded : ℕ → List ℕ
coded n = cond (ltb n 128) (n ∷ []) ((n % 128 + 128) ∷ n / 128 ∷ [])

unfoldable pub codes : List ℕ → List ℕ
codes [] = []
codes (n ∷ ns) = coded n ++ codes ns

-- what stands in front of bytes: a number and the bytes after it, or none
pub data Number : Type 0 where
  cut : Number
  ill_formed : Number
  formed : ℕ → List ℕ → Number

-- after a first group with its top bit set; a second one that is 0, or has its top bit set too, is no shortest form
unfoldable pub second_group : ℕ → List ℕ → Number
second_group b [] = cut
second_group b (c ∷ rest) = cond (eqb c 0 || leb 128 c) ill_formed (formed (b - 128 + 128 * c) rest)

unfoldable pub number_in : List ℕ → Number
number_in [] = cut
number_in (b ∷ rest) = cond (ltb b 128) (formed b rest) (second_group b rest)

-- ---- logs

-- how many peels, and then each
abbrev pub log_of : List ℕ → List ℕ
log_of ts = codes (length ts ∷ ts)

abbrev pub log : Office → ℕ → List ℕ
log o limit = log_of (history o limit)

-- the number of peels, or a refusal's number and place
pub data Replay : Type 0 where
  accepts : ℕ → Replay
  faults : ℕ → ℕ → Replay

-- a number that stands at a place, and then the next
unfoldable pub numbered : (ℕ → List ℕ → Replay) → ℕ → Number → Replay
numbered next at cut = faults 41 at
numbered next at ill_formed = faults 42 at
numbered next at (formed n rest) = cond (ltb 2042 n) (faults 42 at) (next n rest)

-- it has to be the next of the peels ts
unfoldable pub judged : (List ℕ → ℕ → List ℕ → Replay) → List ℕ → ℕ → ℕ → List ℕ → Replay
judged others [] at n rest = faults 43 at
judged others (t ∷ ts) at n rest = cond (eqb n t) (others ts (at + length (coded n)) rest) (faults 43 at)

-- nothing is left over
unfoldable pub ended : ℕ → ℕ → List ℕ → Replay
ended count at [] = accepts count
ended count at (b ∷ rest) = faults 44 at

-- i numbers from a place on
unfoldable pub follows : ℕ → ℕ → List ℕ → ℕ → List ℕ → Replay
follows count zero ts at bytes = ended count at bytes
follows count (suc i) ts at bytes = numbered (judged (follows count i) ts at) at (number_in bytes)

-- a log, where the peels ts are the next ones
unfoldable pub replay_of : List ℕ → List ℕ → Replay
replay_of ts bytes = numbered (λ m rest. follows m m ts (length (coded m)) rest) 0 (number_in bytes)

module _ (o : Office) where
  -- the peels of a draw at limit 0
  abbrev pub replay : List ℕ → Replay
  replay bytes = replay_of (history o 0) bytes

  -- the marks after n of them
  abbrev pub marks_after : ℕ → List ℕ
  marks_after n = without (whole o) (take n (history o 0))

  -- that many fewer peels; back past the start is the whole triangulation
  unfoldable pub stepped_back : ℕ → Replay → Outcome
  stepped_back back (accepts n) = draws (marks_after (n - back))
  stepped_back back (faults number place) = refuses number place

  -- the office's refusals come first
  unfoldable pub by_check : List ℕ → ℕ → Verdict → Outcome
  by_check bytes back (accepted hull) = stepped_back back (replay bytes)
  by_check bytes back (refused number place) = refuses number place

-- what a replay comes to, with a count of steps back; room says whether the lent buffers are long enough
unfoldable pub replay_outcome : Bool → Office → List ℕ → ℕ → Outcome
replay_outcome room o bytes back = by_check o bytes back (verdict room o)
