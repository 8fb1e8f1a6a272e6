-- Whether a number is above 0, as a test. Assumes nothing.
use mathlib.Core.Path.{◌≡◌, refl, sym, ap}
use mathlib.Core.Bool.{Bool, true, false, not}
use Prim.Native.Nat.{zero, suc}
use lib.IntN.{ℤ, pos, negsuc, +ℤ_idl}
use Rattle.sheet.proofs.Sign.{Pos, Non, opp, non_is, twice, both}
use Rattle.sheet.proofs.Cancel.{differ}

abbrev pub plus : ℤ → Bool
plus (pos zero) = false
plus (pos (suc n)) = true
plus (negsuc n) = false

pub plus_pos : (z : ℤ) → plus z ≡ true → Pos z
plus_pos (pos zero) e = differ e refl
plus_pos (pos (suc n)) e = record { by = n; is = refl }
plus_pos (negsuc n) e = differ e refl

pub pos_plus : {z : ℤ} → Pos z → plus z ≡ true
pos_plus h = ap plus h.is

pub not_plus : (z : ℤ) → Non (opp z) → not (plus z) ≡ true
not_plus (pos zero) h = refl
not_plus (pos (suc n)) h = both (record { by = n; is = refl }) h
not_plus (negsuc n) h = refl

pub plus_not : (z : ℤ) → not (plus z) ≡ true → Non (opp z)
plus_not (pos zero) e = record { by = 0; is = refl }
plus_not (pos (suc n)) e = differ e refl
plus_not (negsuc n) e = record { by = suc n; is = +ℤ_idl (pos (suc n)) }

-- and whether it is not below 0
abbrev pub least : ℤ → Bool
least z = not (plus (opp z))

pub least_non : (z : ℤ) → least z ≡ true → Non z
least_non z e = non_is (sym (twice z)) (plus_not (opp z) e)

pub non_least : (z : ℤ) → Non z → least z ≡ true
non_least z h = not_plus (opp z) (non_is (twice z) h)
