-- What is looked up in the list at any limit is what is drawn there. Assumes nothing.
use mathlib.Core.Path.{◌≡◌}
use mathlib.Core.List.{List}
use mathlib.Core.Option.{Option, none, some}
use Prim.Native.Nat.{ℕ, zero, suc, ◌≤◌, zero-le}
use native.Mathlib.Decide.{dec_lt}
use native.Mathlib.Omega.{arith}
use borrow.Author.Tests.{lt-ltb, le-ltb, le-leb}
use Rattle.sheet.specs.Office.{Office, sides, triangles}
use Rattle.sheet.specs.Acceptable.{Acceptable}
use Rattle.rim.specs.Peel.{best, long, turned, peels, whole, drawn}
use Rattle.peel.specs.List.{Entry, look, listed, entries_from, entries, outline}
use Rattle.peel.proofs.Look.{looked}
use Rattle.rim.proofs.TopSide.{Top, best_top}
use Rattle.peel.proofs.Long.{long_bound}

module _ {o : Office} (a : Acceptable o) where
  -- at a limit above every length nothing is peeled, and the first entry says so
  all_whole : (limit : ℕ) → 4294967296 ≤ limit → look (entries o) limit ≡ some (outline o (drawn o limit))
  unfolding entries entries_from listed look drawn peels turned
  all_whole limit h = from_fuel (triangles o)
    where
      at_best : (others : ℕ → List ℕ → List Entry) (draws : List ℕ → List ℕ) (b : Option ℕ) → Top a (whole o) (sides o) b
          → look (listed o others 4294967296 (whole o) b) limit ≡ some (outline o (turned o draws limit (whole o) b))
      at_best others draws none t = simp (le-leb 0 limit zero-le)
      at_best others draws (some s) (l, _, _) =
          let b = long_bound a s l in
          simp (lt-ltb (long o s) 4294967296 (omega arith), le-ltb limit (long o s) (omega arith), le-leb (long o s) limit (omega arith))

      from_fuel : (fuel : ℕ) → look (entries_from o fuel 4294967296 (whole o)) limit ≡ some (outline o (peels o fuel limit (whole o)))
      from_fuel zero = simp (le-leb 0 limit zero-le)
      from_fuel (suc fuel) = at_best (entries_from o fuel) (peels o fuel limit) (best o (whole o)) (best_top a (whole o))

  -- a limit's outline is the first entry whose least limit is not above it
  pub looked_up : (limit : ℕ) → look (entries o) limit ≡ some (outline o (drawn o limit))
  looked_up limit = elim (dec_lt limit 4294967296) [ yes l ↦ looked o limit l | no f ↦ all_whole limit (omega arith) ]
