-- Document 01, 'Refusal numbers' and 'Polygon bytes': what is asked of an input, in order, what is answered, and what stands in lent memory
-- afterwards. Assumes nothing.
use Rattle.std.specs.Prelude.{ℕ, Bool, cond, List, [], ◌∷◌, ◌++◌, length, drop, Result, Ok, Err}
use Rattle.sheet.specs.declared.refusal.Refusal.{Refusal}
use Rattle.sheet.specs.Refusal.{number}

-- what has to hold, and the number and the place of the refusal where it does not
pub record Question : Type 0 where
  pub holds : Bool
  pub number : ℕ
  pub place : ℕ

abbrev pub must : Bool → ℕ → ℕ → Question
must holds number place = record { holds = holds; number = number; place = place }

-- what was asked for, or a refusal's number and place
pub data Answer (A : Type 0) : Type 0 where
  gives : A → Answer A
  refused : ℕ → ℕ → Answer A

-- the refusal of the first question that fails, or else a
unfoldable pub asked : {A : Type 0} → List Question → A → Answer A
asked [] a = gives a
asked (q ∷ qs) a = cond q.holds (asked qs a) (refused q.number q.place)

-- lent memory afterwards: the new values followed by what stood past them; on a refusal all as it stood
abbrev pub over : {A : Type 0} → Answer A → List ℕ → List ℕ → List ℕ
over (gives a) new old = new ++ drop (length new) old
over (refused number place) new old = old

-- ---- what the code answers

abbrev pub refusal : {A : Type 0} → Refusal → Answer A
refusal r = refused (number r.rule) r.place

-- what a call answers: what was asked for, or the number of the broken rule and its place
abbrev pub reply : {A : Type 0} → Result A Refusal → Answer A
reply (Ok a) = gives a
reply (Err r) = refusal r

-- ... where a number, which may be no rule's, and a place tell the refusal
abbrev pub stated : {A : Type 0} → Result A (ℕ × ℕ) → Answer A
stated (Ok a) = gives a
stated (Err e) = refused e.0 e.1
