-- What the refusals 1 to 10 leave. Assumes nothing.
use mathlib.Core.Path.{◌≡◌, sym}
use mathlib.Core.List.{List}
use Prim.Native.Nat.{ℕ, ◌%◌, ◌≤◌}
use native.Mathlib.Omega.{arith}
use lib.ListN.{length}
use Rattle.laws.specs.First.{first}
use Rattle.laws.proofs.Search.{first-none, found_none}
use Rattle.laws.proofs.Test.{plain}
use Rattle.laws.proofs.Order.{level}
use Rattle.sheet.specs.Office.{Office, office, points, sides, triangles, large, again, no_point, flat, double, unused}
use Rattle.sheet.specs.Acceptable.{Left, Single, Used}
use Rattle.sheet.specs.Code.{cloud, Plotted, Cornered}
use Rattle.sheet.proofs.Corner.{tail_not_head}
use Rattle.sheet.proofs.Single.{all_new, single_of}

pub plots : (xs ys corners : List ℕ) (a d n : ℕ) → length xs ≡ length ys → 3 ≤ length xs → length xs ≤ 1024 → length corners % 3 ≡ 0 → length corners ≤ 6129
    → a ≡ first (large (cloud xs ys)) (length xs) → length xs ≤ a → d ≡ first (again (cloud xs ys)) (length xs) → length xs ≤ d → n ≡ first (no_point (office xs xs corners)) (length corners) → length corners ≤ n
    → Plotted (office xs ys corners)
plots xs ys corners a d n paired some few whole short e l g j f m = record {
  paired = paired;
  few = few;
  some = omega arith;
  whole = whole;
  short = short;
  small = λ p b. let h = simp plain at (found_none (large (cloud xs ys)) (length xs) a e l p b) in (omega arith, omega arith);
  distinct = λ p q b c x y. level
      (λ u. (simp plain at (found_none (again (cloud xs ys)) (length xs) d g j q c)) (p, u, (x, y)))
      (λ u. (simp plain at (found_none (again (cloud xs ys)) (length xs) d g j p b)) (q, u, (sym x, sym y)));
  numbered = λ s b. let h = simp plain at (found_none (no_point (office xs xs corners)) (length corners) n f m s b) in omega arith;
}

module _ (o : Office) where
  -- what refusals 8 and 9 leave
  pub left_of : (r : ℕ) → r ≡ first (flat o) (triangles o) → triangles o ≤ r → Left o
  left_of r e l t b = simp plain at (found_none (flat o) (triangles o) r e l t b)

  pub cornered_of : sides o % 3 ≡ 0 → Left o → Cornered o.corners
  cornered_of whole left = tail_not_head o whole left

  pub single_from : sides o % 3 ≡ 0 → Left o → (r : ℕ) → r ≡ first (double o) (triangles o) → triangles o ≤ r → Single o
  single_from whole left r e l = single_of o whole left (λ t b. simp plain at (found_none (double o) (triangles o) r e l t b))

  pub none_double : Single o → triangles o ≤ first (double o) (triangles o)
  none_double single = omega (arith, first-none (double o) (triangles o) (λ t l. simp plain (all_new o single t l)))

  -- and refusal 10
  pub used_from : (r : ℕ) → r ≡ first (unused o) (points o) → points o ≤ r → Used o
  used_from r e l p b = simp plain at (found_none (unused o) (points o) r e l p b)
