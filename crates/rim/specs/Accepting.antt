-- What taking an office answers. Assumes nothing.
use Rattle.std.specs.Prelude.{Result, Ok, Err, ◌≡◌, ℕ, List}
use Rattle.sheet.specs.Office.{office}
use Rattle.sheet.specs.Verdict.{Verdict, accepted, refused}
use Rattle.sheet.specs.Refusal.{number}
use Rattle.sheet.specs.declared.refusal.Refusal.{Refusal}
use Rattle.rim.specs.declared.office.Taken.{Taken}
use Rattle.rim.specs.Values.{office_of}

-- the rim's length, or the refusal's number and place
abbrev pub told_hull : Result Taken Refusal → Verdict
told_hull (Ok a) = accepted a.hull
told_hull (Err r) = refused (number r.rule) r.place

-- the office taken is the one that was given
abbrev pub Takes : List ℕ → List ℕ → List ℕ → Result Taken Refusal → Type 0
Takes xs ys corners (Ok a) = office_of a.sheet ≡ office xs ys corners
Takes xs ys corners (Err r) = Unit {0}
