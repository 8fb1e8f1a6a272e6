-- What the log writer answers and leaves, by cases: the log in front, 45, or the office's refusal; 2,044 bytes are always enough. Assumes nothing.
use mathlib.Core.Path.{◌≡◌, refl, ap, ◌∙◌}
use mathlib.Core.Bool.{true}
use mathlib.Core.List.{List, ◌++◌}
use Prim.Native.Nat.{ℕ, ◌<◌, ◌≤◌}
use native.Mathlib.Omega.{arith}
use lib.Dec.{leb}
use lib.ListN.{length, drop}
use Rattle.laws.proofs.Test.{false_iff, leb_iff}
use Rattle.sheet.specs.Office.{Office, office, rims}
use Rattle.sheet.specs.Verdict.{refused, verdict}
use Rattle.sheet.specs.Acceptable.{Acceptable}
use Rattle.sheet.proofs.Accepted.{accepted_exactly}
use Rattle.peel.specs.Log.{log}
use Rattle.peel.specs.Answer.{count, refusal}
use Rattle.peel.specs.LogAnswer.{written, logged, after_log}
use Rattle.peel.proofs.PeelLog.{own_length}

module _ (xs ys corners : List ℕ) (limit : ℕ) (out : List ℕ) where
  abbrev o : Office
  o = office xs ys corners

  abbrev bytes : List ℕ
  bytes = log o limit

  checked : Acceptable o → after_log xs ys corners limit out ≡ written bytes out
  unfolding after_log logged
  checked a = ap (logged o limit out) ((accepted_exactly o (rims o)).1 (a, refl))

  pub log_written : Acceptable o → length bytes ≤ length out → after_log xs ys corners limit out ≡ record { answer = count (length bytes); out = bytes ++ drop (length bytes) out }
  unfolding written
  log_written a l = let e : leb (length bytes) (length out) ≡ true = leb_iff.1 l in checked a ∙ rw e refl

  pub log_unfit : Acceptable o → length out < length bytes → after_log xs ys corners limit out ≡ record { answer = refusal 45 0; out = out }
  unfolding written
  log_unfit a l = checked a ∙ rw (false_iff.1 (λ e. let z : length bytes ≤ length out = leb_iff.0 e in omega arith)) refl

  pub log_refused : {number place : ℕ} → verdict true o ≡ refused number place → after_log xs ys corners limit out ≡ record { answer = refusal number place; out = out }
  unfolding after_log logged
  log_refused e = ap (logged o limit out) e

  pub log_fits : Acceptable o → 2044 ≤ length out → length bytes ≤ length out
  log_fits a l = let e = own_length a limit in omega arith
