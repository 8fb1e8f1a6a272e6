-- Two outcomes that one promise allows are equal. Assumes nothing.
use Prim.Native.Nat.{ℕ}
use mathlib.Core.Path.{◌≡◌, sym, ap, ap₂, ◌∙◌}
use mathlib.Core.List.{List}
use Rattle.std.specs.Prelude.{Result, Ok, Err}
use Rattle.sheet.specs.Refusal.{number}
use Rattle.sheet.specs.declared.refusal.Refusal.{Refusal}
use Rattle.sheet.proofs.Unique.{same_refusal}
use Rattle.listing.specs.Answer.{answer, after_parse, printed, after_print}
use Rattle.listing.specs.declared.Counts.{Counts}

same_parsed : (x y : Result Counts Refusal) → answer x ≡ answer y → x ≡ y
same_parsed (Ok c) (Ok d) e = let n : c.points ≡ d.points = cc in let t : c.triangles ≡ d.triangles = cc in ap₂ (λ n t. Ok (record { points = n; triangles = t })) n t
same_parsed (Ok c) (Err q) e = absurd cc
same_parsed (Err r) (Ok d) e = absurd cc
same_parsed (Err r) (Err q) e = let f : number r.rule ≡ number q.rule = cc in let g : r.place ≡ q.place = cc in ap Err (same_refusal r q f g)

-- what `parse` promises of its answer and of the lists
pub record ParsePromise (text xs ys corners : List ℕ) (r : Result Counts Refusal) (xs' ys' corners' : List ℕ) : Type 0 where
  pub answers : answer r ≡ (after_parse text xs ys corners).answer
  pub across : xs' ≡ (after_parse text xs ys corners).xs
  pub up : ys' ≡ (after_parse text xs ys corners).ys
  pub sides : corners' ≡ (after_parse text xs ys corners).corners

pub parse_unique : (text xs ys corners : List ℕ) (r q : Result Counts Refusal) (a b d e f g : List ℕ) → ParsePromise text xs ys corners r a b d → ParsePromise text xs ys corners q e f g
    → (r ≡ q) × (a ≡ e) × (b ≡ f) × (d ≡ g)
parse_unique text xs ys corners r q a b d e f g p s =
    (same_parsed r q (p.answers ∙ sym s.answers), p.across ∙ sym s.across, p.up ∙ sym s.up, p.sides ∙ sym s.sides)

-- what `print_line` and `print_refusal` promise of a line of so many fields
pub print_unique : (count : ℕ) (text out : List ℕ) (r q : ℕ) (a b : List ℕ) → (r ≡ printed count text out) × (a ≡ after_print count text out)
    → (q ≡ printed count text out) × (b ≡ after_print count text out) → (r ≡ q) × (a ≡ b)
print_unique count text out r q a b p s = (p.0 ∙ sym s.0, p.1 ∙ sym s.1)
