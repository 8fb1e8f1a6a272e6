-- The rim in plain logic. Assumes nothing.
use mathlib.Core.Path.{◌≡◌}
use mathlib.Core.Logic.{◌↔◌}
use mathlib.Core.Bool.{true}
use Prim.Native.Nat.{ℕ}
use Rattle.laws.proofs.Test.{plain}
use Rattle.laws.specs.Round.{Runs}
use Rattle.sheet.specs.Office.{Office, sides, tail, head, rim}
use Rattle.sheet.specs.Acceptable.{Rim}

-- the same by the test
abbrev pub Tested : Office → ℕ → ℕ → Type 0
Tested o = Runs (sides o) (λ s. rim o s ≡ true) (tail o) (head o)

pub rim_iff : (o : Office) (s : ℕ) → (rim o s ≡ true) ↔ Rim o s
rim_iff o s = ((λ e r l h. (simp plain at e) (r, l, h)), (λ f. simp plain (λ h. f h.0 h.1 h.2)))
