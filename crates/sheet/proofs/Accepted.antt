-- What makes a triangulation acceptable, in plain logic, and that the check accepts exactly these. Assumes nothing.
use mathlib.Core.Path.{◌≡◌, refl, sym, ap}
use mathlib.Core.Logic.{◌↔◌}
use mathlib.Core.Bool.{Bool, true, false, true≢false}
use Prim.Native.Nat.{ℕ, ◌<◌}
use native.Mathlib.Omega.{arith}
use lib.ListN.{length}
use Rattle.laws.specs.First.{at_first}
use Rattle.laws.proofs.Test.{plain, passed_iff}
use Rattle.laws.proofs.Order.{level}
use Rattle.sheet.specs.Office.{Office, rims}
use Rattle.sheet.specs.Verdict.{Verdict, accepted, refused, whenever, verdict}
use Rattle.sheet.specs.Acceptable.{Acceptable, Single}
use Rattle.sheet.proofs.OneRing.{one_ring_iff}
use Rattle.sheet.proofs.Single.{all_new, single_of}

infixr 4 ◌&◌
-- a row of parts
abbrev ◌&◌ : {A B : Type 0} → A → B → A × B
a & b = (a, b)

refused_not : (k r m : ℕ) → refused k r ≡ accepted m → ⊥
refused_not k r m e = let z : ◌≡◌ {A = ℕ} 0 1 = cc in omega arith

pub first_iff : (m k n : ℕ) (test : ℕ → Bool) (other : Verdict) → (at_first test n (refused k) other ≡ accepted m) ↔ (((i : ℕ) → i < n → test i ≡ false) × (other ≡ accepted m))
first_iff m k n test other = passed_iff test n (refused k) other (accepted m) (λ r. refused_not k r m)

pub whenever_iff : (m k : ℕ) (broken : Bool) (other : Verdict) → (whenever broken k other ≡ accepted m) ↔ ((broken ≡ false) × (other ≡ accepted m))
whenever_iff m k true other = ((λ e. absurd (refused_not k 0 m e)), (λ h. absurd (true≢false h.0)))
whenever_iff m k false other = ((λ e. (refl, e)), (λ h. h.1))

-- the check accepts exactly the acceptable offices, and answers the rim's length
pub accepted_exactly : (o : Office) (m : ℕ) → (verdict true o ≡ accepted m) ↔ (Acceptable o × (m ≡ rims o))
unfolding verdict
accepted_exactly o m = (
  (λ e.
      let (paired, (few, (third, (_, (small, (distinct, (numbered, (left, (new, (used, (empty, (ring, (hull, length))))))))))))) = simp (whenever_iff, first_iff, plain) at e in
      let single : Single o = single_of o third.0.1 left new in (
        record {
          paired = paired;
          points_bound = omega arith;
          corners_bound = ((let h = third.0.0 in omega arith), third.0.1, omega arith);
          small = λ p l. let h = small p l in omega arith;
          distinct = λ p q l b x y. level (λ u. distinct q b (p, u, (x, y))) (λ u. distinct p l (q, u, (sym x, sym y)));
          numbered = λ s l. let h = numbered s l in omega arith;
          left = left;
          single = single;
          used = used;
          empty = λ t p l b h. empty t l (p, b, h);
          ring = (one_ring_iff o third.0.1 single).0 (simp plain ring);
          hull = λ s p l r b h. hull p b (s, l, ((λ (x, y, z). r x y z), h));
        },
        cc,
      )),
  (λ (a, e). simp (whenever_iff, first_iff, plain) (
      a.paired
      & (let h = a.points_bound in omega arith)
      & (((let h = a.corners_bound.0 in omega arith), a.corners_bound.1), (let h = a.corners_bound.2 in omega arith))
      & refl
      & (λ p l. let h = a.small p l in omega arith)
      & (λ p l (q, b, x). let e = a.distinct q p (omega arith) l x.0 x.1 in omega arith)
      & (λ s l h. let k = a.numbered s l in omega arith)
      & a.left
      & all_new o a.single
      & a.used
      & (λ t l (p, b, h). a.empty t p l b h)
      & (simp plain at ((one_ring_iff o a.corners_bound.1 a.single).1 a.ring))
      & (λ p b (s, l, (r, h)). a.hull s p l (λ x y z. r (x, y, z)) b h)
      & ap accepted (sym e))),
)

no_room : (o : Office) (m : ℕ) → verdict false o ≡ accepted m → ⊥
unfolding verdict
no_room o m e = let (paired, (few, (third, (r, others)))) = simp whenever_iff at e in true≢false r

-- and so does a check that lends buffers, where these are long enough
pub accepted_lent : (room : Bool) (o : Office) (m : ℕ) → (verdict room o ≡ accepted m) ↔ ((room ≡ true) × Acceptable o × (m ≡ rims o))
accepted_lent true o m = let (f, g) = accepted_exactly o m in ((λ e. let (a, h) = f e in (refl, a, h)), (λ (r, a, h). g (a, h)))
accepted_lent false o m = ((λ e. absurd (no_room o m e)), (λ (r, a, h). absurd (true≢false (sym r))))
