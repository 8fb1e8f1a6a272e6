-- The printed office in two exports: other numbers for points and triangles, and triangles named from other corners. Assumes nothing.
use mathlib.Core.Path.{◌≡◌, refl}
use mathlib.Core.Bool.{Bool, true, false, not}
use mathlib.Core.List.{List, [], ◌∷◌}
use Prim.Native.Nat.{ℕ, ◌+◌, ◌*◌, ◌%◌, ◌<◌}
use lib.Dec.{eqb, ltb}
use lib.ListN.{get_or}
use Rattle.laws.specs.First.{first, any, at_first, count, sum, walk, stepped, among, once}
use Rattle.laws.specs.Bijection.{Bijection, Permutation}
use Rattle.laws.proofs.Test.{any_iff, eqb_iff, ltb_iff, false_iff, not_iff, kept_iff}
use Rattle.laws.proofs.Permutation.{extended}
use Rattle.sheet.specs.Plane.{turn, squared, circle}
use Rattle.sheet.specs.Office.{Office, office, tail}
use Rattle.sheet.specs.Verdict.{accepted, verdict}
use Rattle.sheet.specs.Renumbered.{Renumbered}
use Rattle.rim.specs.Peel.{rim, on_rim, removable, before, better, best_from, best, ring, peeled, doubled}
use Rattle.peel.specs.List.{Entry, listed, entries_from, entries, outline}
use Rattle.peel.proofs.Dozen.{printed}

abbrev again : Office
again = office (10 ∷ 5 ∷ 0 ∷ 0 ∷ 10 ∷ []) (0 ∷ 2 ∷ 10 ∷ 0 ∷ 10 ∷ []) (0 ∷ 4 ∷ 1 ∷ 2 ∷ 3 ∷ 1 ∷ 1 ∷ 3 ∷ 0 ∷ 2 ∷ 1 ∷ 4 ∷ [])

abbrev line : ℕ → ℕ → ℕ → List ℕ → Entry
line l p a r = record { least = l; outline = record { peels = p; area = a; round = r } }

-- accepted, and its list: the printed one's limits, peels and areas, its ring 0 1 2 3 4 in the new numbers 3 0 4 2 1, from the lowest on
twice : (verdict true again ≡ accepted 4) × (entries again ≡ line 100 0 200 (0 ∷ 4 ∷ 2 ∷ 3 ∷ []) ∷ line 0 1 150 (0 ∷ 4 ∷ 2 ∷ 1 ∷ 3 ∷ []) ∷ [])
unfolding first at_first count sum walk stepped among once turn squared circle verdict rim on_rim removable before better best_from best ring peeled doubled outline listed entries_from entries
twice = (refl, refl)

-- a test that is tried at each number below n
tried : (test : ℕ → Bool) (n : ℕ) → any (λ i. not (test i)) n ≡ false → (i : ℕ) → i < n → test i ≡ true
tried test n h i l = kept_iff.0 (false_iff.1 (λ b. false_iff.0 h (any_iff.1 (i, l, b))))

abbrev at : List ℕ → ℕ → ℕ
at l i = get_or l i 0

module _ (n : ℕ) (f g : List ℕ) where
  listed_permutation : any (λ i. not (ltb (at f i) n)) n ≡ false → any (λ i. not (ltb (at g i) n)) n ≡ false
      → any (λ i. not (eqb (at g (at f i)) i)) n ≡ false → any (λ i. not (eqb (at f (at g i)) i)) n ≡ false → Permutation n
  listed_permutation a b c d = record {
    to = at f;
    from = at g;
    to_below = λ i l. ltb_iff.0 (tried (λ i. ltb (at f i) n) n a i l);
    from_below = λ i l. ltb_iff.0 (tried (λ i. ltb (at g i) n) n b i l);
    from_to = λ i l. eqb_iff.0 (tried (λ i. eqb (at g (at f i)) i) n c i l);
    to_from = λ i l. eqb_iff.0 (tried (λ i. eqb (at f (at g i)) i) n d i l);
  }

number : Bijection 5 5
unfolding first
number = extended (listed_permutation 5 (3 ∷ 0 ∷ 4 ∷ 2 ∷ 1 ∷ []) (1 ∷ 4 ∷ 3 ∷ 0 ∷ 2 ∷ []) refl refl refl refl) refl

triangle : Bijection 4 4
unfolding first
triangle = extended (listed_permutation 4 (2 ∷ 0 ∷ 3 ∷ 1 ∷ []) (1 ∷ 3 ∷ 0 ∷ 2 ∷ []) refl refl refl refl) refl

turned : List ℕ
turned = 1 ∷ 0 ∷ 2 ∷ 0 ∷ []

corner : ℕ → ℕ → Bool
corner t i = eqb (tail again (triangle.to t * 3 + (i + at turned t) % 3)) (number.to (tail printed (t * 3 + i)))

-- the second is the first renumbered
renumbered : Renumbered printed again
unfolding first extended listed_permutation number triangle turned corner
renumbered = record {
  number = number;
  triangle = triangle;
  turned = at turned;
  as_many_ys = refl;
  as_many_corners = refl;
  same_x = λ p l. eqb_iff.0 (tried (λ p. eqb (at again.xs (number.to p)) (at printed.xs p)) 5 refl p l);
  same_y = λ p l. eqb_iff.0 (tried (λ p. eqb (at again.ys (number.to p)) (at printed.ys p)) 5 refl p l);
  corner = λ t i l b. eqb_iff.0 (tried (λ i. corner t i) 3 (none t l) i b);
}
  where
    none : (t : ℕ) → t < 4 → any (λ i. not (corner t i)) 3 ≡ false
    none t l = false_iff.1 (not_iff.0 (tried (λ t. not (any (λ i. not (corner t i)) 3)) 4 refl t l))
