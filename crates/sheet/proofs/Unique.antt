-- Two outcomes that the check's promise allows are equal. Assumes nothing.
use mathlib.Core.Path.{◌≡◌, refl, sym, ap, ap₂, ◌∙◌}
use mathlib.Core.Bool.{Bool}
use native.Mathlib.Omega.{arith}
use Prim.Native.Nat.{ℕ}
use Rattle.sheet.specs.Office.{Office}
use Rattle.sheet.specs.Verdict.{verdict}
use Rattle.sheet.specs.Answer.{answer}
use Rattle.std.specs.Prelude.{Result, Ok, Err, cond, eqb}
use Rattle.sheet.specs.Refusal.{number}
use Rattle.sheet.specs.declared.refusal.Rule.{Rule}
use Rattle.sheet.specs.declared.refusal.Rule.TheVariants.{UnequalLists, PointCount, CornerCount, ShortBuffer, LargeCoordinate, RepeatedPoint, NoPoint, FlatTriangle, RepeatedSide, UnusedPoint, InvadedCircle, BrokenRim, OuterPoint, CutShort, ByteOrder, OtherType, RingCount, PositionCount, NotFinite, OffGrid, OpenRing, BytesLeft, ShortLists, NoRing, LargeRing, ShortOutput, PointType, DistrictCount, LengthSum, Text}
use Rattle.sheet.specs.declared.refusal.Refusal.{Refusal}

-- the rule that a number stands for
rule_of : ℕ → Rule
rule_of n =
    (cond (eqb n 1) UnequalLists
    (cond (eqb n 2) PointCount
    (cond (eqb n 3) CornerCount
    (cond (eqb n 4) ShortBuffer
    (cond (eqb n 5) LargeCoordinate
    (cond (eqb n 6) RepeatedPoint
    (cond (eqb n 7) NoPoint
    (cond (eqb n 8) FlatTriangle
    (cond (eqb n 9) RepeatedSide
    (cond (eqb n 10) UnusedPoint
    (cond (eqb n 11) InvadedCircle
    (cond (eqb n 12) BrokenRim
    (cond (eqb n 13) OuterPoint
    (cond (eqb n 20) CutShort
    (cond (eqb n 21) ByteOrder
    (cond (eqb n 22) OtherType
    (cond (eqb n 23) RingCount
    (cond (eqb n 24) PositionCount
    (cond (eqb n 25) NotFinite
    (cond (eqb n 26) OffGrid
    (cond (eqb n 27) OpenRing
    (cond (eqb n 28) BytesLeft
    (cond (eqb n 29) ShortLists
    (cond (eqb n 30) NoRing
    (cond (eqb n 31) LargeRing
    (cond (eqb n 32) ShortOutput
    (cond (eqb n 33) PointType
    (cond (eqb n 35) DistrictCount
    (cond (eqb n 36) LengthSum
    Text)))))))))))))))))))))))))))))

back : (r : Rule) → rule_of (number r) ≡ r
unfolding rule_of
back UnequalLists = refl
back PointCount = refl
back CornerCount = refl
back ShortBuffer = refl
back LargeCoordinate = refl
back RepeatedPoint = refl
back NoPoint = refl
back FlatTriangle = refl
back RepeatedSide = refl
back UnusedPoint = refl
back InvadedCircle = refl
back BrokenRim = refl
back OuterPoint = refl
back CutShort = refl
back ByteOrder = refl
back OtherType = refl
back RingCount = refl
back PositionCount = refl
back NotFinite = refl
back OffGrid = refl
back OpenRing = refl
back BytesLeft = refl
back ShortLists = refl
back NoRing = refl
back LargeRing = refl
back ShortOutput = refl
back PointType = refl
back DistrictCount = refl
back LengthSum = refl
back Text = refl

-- no two rules have one number
pub same_rule : (r q : Rule) → number r ≡ number q → r ≡ q
same_rule r q e = sym (back r) ∙ (ap rule_of e ∙ back q)

pub same_refusal : (r q : Refusal) → number r.rule ≡ number q.rule → r.place ≡ q.place → r ≡ q
same_refusal r q f g = ap₂ (λ k p. record { rule = k; place = p }) (same_rule r.rule q.rule f) g

pub same_checked : (x y : Result ℕ Refusal) → answer x ≡ answer y → x ≡ y
same_checked (Ok m) (Ok n) e = cc
same_checked (Ok m) (Err r) e = let z : ◌≡◌ {A = ℕ} 0 1 = cc in absurd (omega arith)
same_checked (Err r) (Ok n) e = let z : ◌≡◌ {A = ℕ} 0 1 = cc in absurd (omega arith)
same_checked (Err r) (Err q) e = let f : number r.rule ≡ number q.rule = cc in let g : r.place ≡ q.place = cc in ap Err (same_refusal r q f g)

-- `check` and `check_lent`
pub unique : (room : Bool) (o : Office) (x y : Result ℕ Refusal) → answer x ≡ verdict room o → answer y ≡ verdict room o → x ≡ y
unique room o x y e f = same_checked x y (e ∙ sym f)
