-- Document 02, 2/13: a renumbered office is acceptable exactly where the first is, and the check answers both alike. Assumes nothing.
use mathlib.Core.Path.{◌≡◌, sym, ap, ◌∙◌}
use mathlib.Core.Logic.{◌↔◌}
use mathlib.Core.Bool.{true}
use Prim.Native.Nat.{ℕ, ◌%◌}
use Rattle.sheet.specs.Office.{Office, sides, rims}
use Rattle.sheet.specs.Acceptable.{Acceptable}
use Rattle.sheet.specs.Verdict.{accepted, verdict}
use Rattle.sheet.specs.Answer.{answer}
use Rattle.sheet.specs.Renumbered.{Renumbered}
use Rattle.std.specs.Prelude.{Result}
use Rattle.sheet.specs.declared.refusal.Refusal.{Refusal}
use Rattle.sheet.proofs.Accepted.{accepted_exactly}
use Rattle.sheet.proofs.Matched.{Matched, turned_back}
use Rattle.sheet.proofs.MatchedAccept.{accept, rims_same}
use Rattle.sheet.proofs.Places.{matched}

module _ {o n : Office} (re : Renumbered o n) where
  whole_back : sides n % 3 ≡ 0 → sides o % 3 ≡ 0
  whole_back w = ap (λ s. s % 3) (sym re.as_many_corners) ∙ w

  pub acceptable_same : Acceptable o ↔ Acceptable n
  acceptable_same = ((λ a. accept (matched re a.corners_bound.1) a), (λ a. accept (turned_back (matched re (whole_back a.corners_bound.1))) a))

  -- both with the same rim's length, or neither
  pub accepted_same : (m : ℕ) → (verdict true o ≡ accepted m) ↔ (verdict true n ≡ accepted m)
  accepted_same m = (
    (λ e. let (a, x) = (accepted_exactly o m).0 e in both (matched re a.corners_bound.1) a x),
    (λ e. let (a, x) = (accepted_exactly n m).0 e in both (turned_back (matched re (whole_back a.corners_bound.1))) a x),
  )
    where
      both : {o n : Office} → Matched o n → (a : Acceptable o) → m ≡ rims o → verdict true n ≡ accepted m
      both {o} {n} w a x = (accepted_exactly n m).1 (accept w a, x ∙ sym (rims_same w a))

  -- what `check` answers to the two
  pub check_same : (x y : Result ℕ Refusal) → answer x ≡ verdict true o → answer y ≡ verdict true n → (m : ℕ) → (answer x ≡ accepted m) ↔ (answer y ≡ accepted m)
  check_same x y f g m = let (to, from) = accepted_same m in ((λ e. g ∙ to (sym f ∙ e)), (λ e. f ∙ from (sym g ∙ e)))
