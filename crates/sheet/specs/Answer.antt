-- The answers of the check, by document 01's numbers. Assumes nothing.
use Rattle.std.specs.Prelude.{Result, Ok, Err, List, ◌++◌, ◌≡◌, ℕ, length, drop, replicate}
use Rattle.laws.specs.First.{table}
use Rattle.sheet.specs.Office.{mate_of}
use Rattle.sheet.specs.Code.{Mated}
use Rattle.sheet.specs.Verdict.{Verdict, accepted, refused}
use Rattle.sheet.specs.Refusal.{number}
use Rattle.sheet.specs.declared.refusal.Refusal.{Refusal}

-- the rim's length, or the refusal's number and place
abbrev pub answer : Result ℕ Refusal → Verdict
answer (Ok m) = accepted m
answer (Err r) = refused (number r.rule) r.place

-- what a lent table holds then: an accepted office's mates, with 0 behind them, or what stood there
abbrev pub handed : Verdict → List ℕ → List ℕ → List ℕ
handed (accepted m) corners old = table (mate_of corners) (length corners) ++ drop (length corners) (replicate 6129 0)
handed (refused k p) corners old = old

-- an accepted office's table of mates is made, in front of what stood there
abbrev pub Ready : Verdict → List ℕ → List ℕ → List ℕ → Type 0
Ready (accepted m) corners old mate = Mated corners mate × (drop (length corners) mate ≡ drop (length corners) old)
Ready (refused k p) corners old mate = Unit {0}
