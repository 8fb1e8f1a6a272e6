-- Document 01, 'Polygon bytes': numbers as bytes, in both byte orders. Assumes nothing.
use Rattle.std.specs.Prelude.{ℕ, zero, suc, ◌+◌, ◌*◌, ◌/◌, ◌%◌, Bool, true, false, List, [], ◌∷◌, reverse, take, drop, ◌==◌, nat_le, Result, Ok, Err}
use Rattle.sheet.specs.declared.refusal.Rule.{Rule}
use Rattle.sheet.specs.declared.refusal.Rule.TheVariants.{ByteOrder as OtherOrder}
use Rattle.shape.specs.Answers.{Question, must}
use Rattle.shape.specs.declared.block.ByteOrder.{ByteOrder}
use Rattle.shape.specs.declared.block.ByteOrder.TheVariants.{Big, Little}

-- the byte that stands for a byte order, and the byte order that a byte stands for: 0 or 1, or another, which breaks the rule
abbrev pub code : ByteOrder → ℕ
code Big = 0
code Little = 1

abbrev pub byte_order : ℕ → Result ByteOrder Rule
byte_order zero = Ok Big
byte_order (suc zero) = Ok Little
byte_order (suc (suc n)) = Err OtherOrder

-- the byte order in which a number is read: 0 has the high byte first, any other the low byte first
abbrev pub order_of : ℕ → ByteOrder
order_of zero = Big
order_of (suc n) = Little

-- what is asked of the byte of a byte order
abbrev pub order_asks : ℕ → ℕ → List Question
order_asks byte place = must (nat_le byte 1) 21 place ∷ []

-- the number whose bytes these are, low first
abbrev pub low_first : List ℕ → ℕ
low_first [] = 0
low_first (b ∷ bs) = b + 256 * low_first bs

-- the low k bytes of a number, low first
unfoldable pub low_bytes : ℕ → ℕ → List ℕ
low_bytes zero n = []
low_bytes (suc k) n = n % 256 ∷ low_bytes k (n / 256)

abbrev pub turned : Bool → List ℕ → List ℕ
turned true bs = reverse bs
turned false bs = bs

-- the k bytes of a number in a byte order: 0 has the high byte first, any other the low byte first
abbrev pub in_order : ℕ → ℕ → ℕ → List ℕ
in_order order k n = turned (order == 0) (low_bytes k n)

-- the number of the k bytes from a place on
abbrev pub number_at : ℕ → ℕ → List ℕ → ℕ → ℕ
number_at k order s at = low_first (turned (order == 0) (take k (drop at s)))
