-- Equal points stand in the same bucket, so that an earlier one is found by going back along it. Assumes nothing.
use mathlib.Core.Path.{◌≡◌, ap, ap₂, ◌∙◌}
use mathlib.Core.Bool.{true, ◌&&◌}
use mathlib.Core.List.{List}
use Prim.Native.Nat.{ℕ, ◌<◌, ◌≤◌}
use native.Mathlib.Omega.{arith}
use lib.Dec.{ltb}
use lib.ListN.{length, get_or}
use borrow.Author.Tests.{eq-eqb, eqb-true}
use Rattle.laws.specs.First.{final}
use Rattle.laws.proofs.Final.{final-any}
use Rattle.laws.proofs.Fill.{get_or-table}
use Rattle.laws.proofs.Test.{and_iff, any_iff, same_answer}
use Rattle.sheet.specs.Office.{same_point, again}
use Rattle.sheet.specs.Code.{cloud, starts, bucket, buckets}
use Rattle.sheet.proofs.Chain.{along, latest_back}

module _ (xs ys : List ℕ) where
  abbrev rule : ℕ → ℕ
  rule p = bucket (get_or xs p 0) (get_or ys p 0)

  pub bucket_at : (p : ℕ) → p < length xs → get_or (buckets xs ys) p 0 ≡ rule p
  bucket_at p l = get_or-table rule (length xs) p l

  module _ (p begun : ℕ) (l : p < length xs) (few : length xs ≤ 1024) (is : begun ≡ final 65535 (starts (buckets xs ys) (rule p)) p) where
    same_bucket : (q : ℕ) → q < p → same_point (cloud xs ys) p q ≡ true → starts (buckets xs ys) (rule p) q ≡ true
    same_bucket q m e = let (u, v) = and_iff.0 e in eq-eqb _ _ (bucket_at q (omega arith) ∙ ap₂ bucket (eqb-true _ _ u) (eqb-true _ _ v))

    pub again_is : ltb (along (buckets xs ys) (same_point (cloud xs ys) p) begun) 65535 ≡ again (cloud xs ys) p
    again_is =
        ap (λ r. ltb r 65535) (latest_back (buckets xs ys) (rule p) p begun is (omega arith) (same_point (cloud xs ys) p))
        ∙ final-any 65535 (λ q. starts (buckets xs ys) (rule p) q && same_point (cloud xs ys) p q) p (omega arith)
        ∙ same_answer
        (λ h. let (q, m, u) = any_iff.0 h in any_iff.1 (q, m, ((and_iff {a = starts (buckets xs ys) (rule p) q}).0 u).1))
        (λ h. let (q, m, u) = any_iff.0 h in any_iff.1 (q, m, (and_iff {a = starts (buckets xs ys) (rule p) q}).1 (same_bucket q m u, u)))
