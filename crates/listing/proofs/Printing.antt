-- A line of fields, printed where there is room for it. Assumes nothing.
use Prim.Native.Nat.{ℕ, ◌+◌, ◌*◌, ◌≤◌}
use mathlib.Core.Path.{◌≡◌, ap₂, ◌∙◌}
use mathlib.Core.List.{List, ◌∷◌, ◌++◌}
use native.Mathlib.Omega.{arith}
use borrow.Author.Tests.{le-leb}
use lib.ListN.{length, length-append}
use Rattle.laws.proofs.Put.{put_front}
use Rattle.listing.specs.Line.{decimal, onward}
use Rattle.listing.specs.Answer.{printed, after_print}
use lib.Seq.{sets}
use Rattle.listing.specs.declared.printer.Line.{Line}
use Rattle.listing.specs.Code.{Puts}
use Rattle.listing.proofs.Putting.{puts_two}
use Rattle.listing.proofs.Spelling.{onward_short}

-- a first field, two more and the others
pub puts_fields : {s a b d e : Line} {first : List ℕ} (x y : ℕ) (others : List ℕ)
    → Puts s a first → Puts a b (32 ∷ decimal x) → Puts b d (32 ∷ decimal y) → Puts d e (onward others) → Puts s e (first ++ onward (x ∷ y ∷ others))
unfolding onward
puts_fields x y others p q r t = puts_two p (puts_two q (puts_two r t))

module _ (fields : ℕ) (text out : List ℕ) where
  print_all : {out' : List ℕ} {r : ℕ} → 21 * fields ≤ length out → length text ≤ length out → r ≡ length text → out' ≡ sets out 0 text
      → (r ≡ printed fields text out) × (out' ≡ after_print fields text out)
  print_all h l e p = rw (le-leb (21 * fields) (length out) h) (e, p ∙ put_front text out l)

-- a line of fields, the first of 20 bytes at most, put at the front of a list
pub print_fields : {s s' : Line} {out : List ℕ} (first : List ℕ) (x y : ℕ) (others : List ℕ) → s.out.now ≡ out → s.at ≡ 0 → length first ≤ 20
    → 21 * (length others + 3) ≤ length out → Puts s s' (first ++ onward (x ∷ y ∷ others))
    → (s'.at ≡ printed (length others + 3) (first ++ onward (x ∷ y ∷ others)) out) × (s'.out.now ≡ after_print (length others + 3) (first ++ onward (x ∷ y ∷ others)) out)
print_fields {out = out} first x y others e z f h p =
    print_all (length others + 3) (first ++ onward (x ∷ y ∷ others)) out h
    (omega (arith, length-append first (onward (x ∷ y ∷ others)), onward_short (x ∷ y ∷ others))) (omega arith)
    (p.puts ∙ ap₂ (λ (l : List ℕ) (n : ℕ). sets l n (first ++ onward (x ∷ y ∷ others))) e z)
