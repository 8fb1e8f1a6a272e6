-- The in-circle value at a fourth point by the angles over one side: from the third corner and from that point. Assumes nothing.
use mathlib.Core.Path.{◌≡◌, sym, ap, ◌∙◌}
use mathlib.Core.List.{[], ◌∷◌}
use native.Mathlib.Omega.{arith}
use Prim.Native.Nat.{ℕ, ◌+◌, ◌≤◌}
use lib.IntN.{ℤ, pos, nat_abs, ◌+ℤ◌, ◌-ℤ◌, ◌*ℤ◌}
use lib.Signed.{◌<ℤ◌, lt_z}
use Rattle.laws.proofs.Test.{same_answer, less_iff}
use Rattle.laws.proofs.Whole.{ring, each, less, is_less, size_diff, size_add, size_mul}
use Rattle.laws.proofs.Solve.{Ex, v, k, ◌:+◌, ◌:-◌, ◌:*◌, solve}
use Rattle.sheet.specs.Plane.{Point, Small, dx, dy, turn, squared, circle}
use Rattle.sheet.specs.Code.{dot}

-- a point is the index of its x
abbrev turn_e : ℕ → ℕ → ℕ → Ex
turn_e a b c = (v b :- v a) :* (v (c + 1) :- v (a + 1)) :- (v (b + 1) :- v (a + 1)) :* (v c :- v a)

abbrev dot_e : ℕ → ℕ → ℕ → Ex
dot_e p a b = (v a :- v p) :* (v b :- v p) :+ (v (a + 1) :- v (p + 1)) :* (v (b + 1) :- v (p + 1))

pub dot_bound : (a b c : Point) → Small a → Small b → Small c → nat_abs (dot a b c) ≤ 536805378
dot_bound a b c p q r = size_add (dx a b *ℤ dx a c) (dy a b *ℤ dy a c) (size_mul (dx a b) (dx a c) (size_diff b.x a.x q.0 p.0) (size_diff c.x a.x r.0 p.0)) (size_mul (dy a b) (dy a c) (size_diff b.y a.y q.1 p.1) (size_diff c.y a.y r.1 p.1))

module _ (a b c d : Point) where
  angles : circle a b c d ≡ pos 0 -ℤ (dot c a b *ℤ turn d b a +ℤ turn a b c *ℤ dot d a b)
  unfolding circle squared turn
  angles =
      solve (dot_e 6 0 0 :* turn_e 6 2 4 :+ dot_e 6 2 2 :* turn_e 6 4 0 :+ dot_e 6 4 4 :* turn_e 6 0 2)
      (k (pos 0) :- (dot_e 4 0 2 :* turn_e 6 2 0 :+ turn_e 0 2 4 :* dot_e 6 0 2))
      (pos a.x ∷ pos a.y ∷ pos b.x ∷ pos b.y ∷ pos c.x ∷ pos c.y ∷ pos d.x ∷ pos d.y ∷ []) tt

over : (z : ℤ) → z <ℤ pos 0 → pos 0 <ℤ (pos 0 -ℤ z)
over = each (λ z. z <ℤ pos 0 → pos 0 <ℤ (pos 0 -ℤ z)) (λ a b h. let k = is_less a b 0 0 (simp ring at h) in simp ring (less _ _ _ _ (omega arith)))

under : (z : ℤ) → pos 0 <ℤ (pos 0 -ℤ z) → z <ℤ pos 0
under = each (λ z. pos 0 <ℤ (pos 0 -ℤ z) → z <ℤ pos 0) (λ a b h. let k = is_less _ _ _ _ (simp ring at h) in simp ring (less _ _ _ _ (omega arith)))

opposite : (z : ℤ) → lt_z z (pos 0) ≡ lt_z (pos 0) (pos 0 -ℤ z)
opposite z = same_answer (λ t. less_iff.1 (over z (less_iff.0 t))) (λ t. less_iff.1 (under z (less_iff.0 t)))

-- inside where the two angles are more than half a turn together
pub by_angles : (a b c d : Point) → lt_z (dot c a b *ℤ turn d b a +ℤ turn a b c *ℤ dot d a b) (pos 0) ≡ lt_z (pos 0) (circle a b c d)
by_angles a b c d = opposite (dot c a b *ℤ turn d b a +ℤ turn a b c *ℤ dot d a b) ∙ ap (lt_z (pos 0)) (sym (angles a b c d))
