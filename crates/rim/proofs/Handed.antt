-- What the check hands on of an accepted office. Assumes nothing.
use mathlib.Core.Path.{◌≡◌, ap, ◌∙◌}
use mathlib.Core.List.{List}
use Prim.Native.Nat.{ℕ}
use lib.ListN.{length, take, drop, replicate}
use lib.Seq.{take_at}
use Rattle.std.specs.Prelude.{Result, Ok}
use Rattle.laws.specs.First.{table}
use Rattle.laws.proofs.Fill.{length-table}
use Rattle.sheet.specs.Office.{mate_of}
use Rattle.sheet.specs.Answer.{answer, handed}
use Rattle.sheet.specs.declared.refusal.Refusal.{Refusal}

-- its table of mates stands in front
pub mates_handed : (corners old mate : List ℕ) {x : Result ℕ Refusal} {m : ℕ} → x ≡ Ok m → mate ≡ handed (answer x) corners old → take (length corners) mate ≡ table (mate_of corners) (length corners)
mates_handed corners old mate f e =
    ap (take (length corners)) (e ∙ ap (λ y. handed (answer y) corners old) f)
    ∙ take_at (table (mate_of corners) (length corners)) (drop (length corners) (replicate 6129 0)) (length corners) (length-table (mate_of corners) (length corners))
