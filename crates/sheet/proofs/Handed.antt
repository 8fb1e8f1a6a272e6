-- What the check says of the table of mates. Assumes nothing.
use mathlib.Core.Path.{◌≡◌, ap₂}
use Prim.Native.Nat.{ℕ}
use Rattle.sheet.specs.Verdict.{refused}
use Rattle.std.specs.Prelude.{Err}
use Rattle.sheet.specs.Refusal.{number}
use Rattle.sheet.specs.Answer.{answer}
use Rattle.sheet.specs.declared.refusal.Rule.{Rule}
use Rattle.sheet.specs.declared.refusal.Refusal.{Refusal}

-- what a rule refuses at a place
pub refuses : {r : Refusal} {rule : Rule} {place : ℕ} → (r.rule ≡ rule) × (r.place ≡ place) → answer (Err r) ≡ refused (number rule) place
refuses e = ap₂ (λ k p. refused (number k) p) e.0 e.1
