-- No side of an earlier triangle runs as one of this triangle's, exactly where no directed side occurs twice. Assumes nothing.
use mathlib.Core.Path.{◌≡◌, sym, ap, subst, ◌∙◌}
use mathlib.Core.Logic.{inl, inr}
use Prim.Native.Nat.{ℕ, ◌+◌, ◌*◌, ◌/◌, ◌%◌, ◌<◌, ◌≤◌}
use native.Mathlib.Omega.{arith}
use Rattle.laws.proofs.Order.{level}
use Rattle.sheet.specs.Office.{Office, sides, triangles, tail, head}
use Rattle.sheet.proofs.Side.{Place, place, OneOf, same_triangle}
use Rattle.sheet.proofs.Corner.{tail_not_head, apex_not_tail}
use Rattle.sheet.specs.Acceptable.{Left, Single}

-- side r runs as one of an earlier triangle than t; no side of triangle t does
abbrev pub Earlier : Office → ℕ → ℕ → Type 0
Earlier o t r = (s : ℕ) × (s < t * 3) × ((tail o s ≡ tail o r) × (head o s ≡ head o r))

abbrev pub New : Office → ℕ → Type 0
New o t = ((Earlier o t (t * 3) → ⊥) × (Earlier o t (t * 3 + 1) → ⊥)) × (Earlier o t (t * 3 + 2) → ⊥)

none_earlier : (o : Office) → Single o → (t r : ℕ) → t * 3 ≤ r → r < sides o → Earlier o t r → ⊥
none_earlier o single t r b l (s, h, (x, y)) = let e = single s r (omega arith) l x y in omega arith

pub all_new : (o : Office) → Single o → (t : ℕ) → t < triangles o → New o t
all_new o single t l =
    let none = none_earlier o single t in
    ((none (t * 3) (omega arith) (omega arith), none (t * 3 + 1) (omega arith) (omega arith)), none (t * 3 + 2) (omega arith) (omega arith))

-- so sides that run alike are one, where each triangle has three corners
module _ (o : Office) (whole : sides o % 3 ≡ 0) (left : Left o)
    (new : (t : ℕ) → t < triangles o → New o t) where
  not_earlier : (r : ℕ) → r < sides o → Earlier o (r / 3) r → ⊥
  not_earlier r l e = step (place r)
    where
      three : New o (r / 3)
      three = new (r / 3) (omega arith)

      step : Place r → ⊥
      step (inl h) = three.0.0 (subst (Earlier o (r / 3)) h e)
      step (inr (inl h)) = three.0.1 (subst (Earlier o (r / 3)) h e)
      step (inr (inr h)) = three.1 (subst (Earlier o (r / 3)) h e)

  pub single_of : Single o
  single_of s r a b x y = step (same_triangle s r (level (λ l. not_earlier s a (r, omega arith, (sym x, sym y))) (λ l. not_earlier r b (s, omega arith, (x, y)))))
    where
      step : OneOf s r → s ≡ r
      step (inl h) = sym h
      step (inr (inl h)) = absurd (tail_not_head o whole left s a (x ∙ ap (tail o) h))
      step (inr (inr h)) = absurd (apex_not_tail o whole left s a (sym (x ∙ ap (tail o) h)))
