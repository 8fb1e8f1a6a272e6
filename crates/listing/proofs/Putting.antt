-- Text put one piece after another. Assumes nothing.
use Prim.Native.Nat.{ℕ, ◌+◌, ◌-◌, ◌≤◌}
use mathlib.Core.Path.{◌≡◌, sym, ap, ap₂, subst, ◌∙◌}
use mathlib.Core.List.{List, ◌++◌, append_assoc}
use native.Mathlib.Omega.{arith}
use borrow.Rule.Slice.PartMut.{put_mid}
use lib.ListN.{length, take, drop, length-append}
use lib.Seq.{sets, sets-eq}
use Rattle.std.proofs.lemmas.List.{drop-drop}
use Rattle.laws.proofs.Put.{sets-append}
use Rattle.listing.specs.declared.printer.Line.{Line}
use Rattle.listing.specs.Code.{Puts}

-- a text copied into the part of a list that is as long
pub copied : (l vs ys : List ℕ) (at : ℕ) → at + length vs ≤ length l → ys ≡ vs → put_mid at (at + length vs - at) l ys ≡ sets l at vs
copied l vs ys at h e =
    ap₂ (λ (k : ℕ) (r : List ℕ). take at l ++ (r ++ drop k (drop at l))) (omega arith) e
    ∙ ap (λ (r : List ℕ). take at l ++ (vs ++ r)) (drop-drop (length vs) at l)
    ∙ sym (sets-eq vs l at h ∙ append_assoc (take at l) vs (drop (at + length vs) l))

pub puts_same : {s s' : Line} {a b : List ℕ} → a ≡ b → Puts s s' a → Puts s s' b
puts_same {s} {s'} e p = subst (λ (r : List ℕ). Puts s s' r) e p

pub puts_two : {s m s' : Line} {a b : List ℕ} → Puts s m a → Puts m s' b → Puts s s' (a ++ b)
puts_two {s} {m} {s'} {a} {b} p q = record {
  same = q.same ∙ p.same;
  long = q.long ∙ p.long;
  puts =
      q.puts
      ∙ ap (λ (o : List ℕ). sets o m.at b) p.puts
      ∙ ap (λ (n : ℕ). sets (sets s.out.now s.at a) n b) p.ends
      ∙ sym (sets-append a b s.out.now s.at);
  ends = omega (arith, length-append a b);
}
