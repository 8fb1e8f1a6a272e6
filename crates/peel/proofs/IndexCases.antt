-- The index, the pairs and the thinned rings of the printed office and of the dozen's case 4; and an office whose lowest number lies within
-- the hull, where the ring of limit 0 has to be turned. Assumes nothing.
use Prim.Native.Nat.{ℕ}
use mathlib.Core.Path.{◌≡◌, refl}
use mathlib.Core.Bool.{true}
use mathlib.Core.List.{List, [], ◌∷◌, map}
use lib.ListN.{replicate}
use Rattle.laws.specs.First.{first, at_first, table, count, sum, walk, stepped, among, once}
use Rattle.sheet.specs.Plane.{turn, squared, circle}
use Rattle.sheet.specs.Office.{Office, office}
use Rattle.sheet.specs.Verdict.{accepted, verdict}
use Rattle.rim.specs.Peel.{rim, on_rim, removable, before, better, best_from, best, turned, peels, drawn, ring, peeled, doubled}
use Rattle.peel.specs.List.{listed, entries_from, entries, outline}
use Rattle.peel.specs.LookUp.{place_of, halved}
use Rattle.peel.specs.Index.{keep, bared, index_from, index, indices, limits, counts, shown, thin, thinned}
use Rattle.peel.specs.Answer.{count as pairs, refusal}
use Rattle.peel.specs.IndexAnswer.{indexing, after_index}
use Rattle.peel.proofs.Dozen.{printed, ten}

-- the index, the pairs, the places of some limits, and the ring at each of them
pub record Case : Type 0 where
  pub indexed : List ℕ
  pub least : List ℕ
  pub number : List ℕ
  pub places : List ℕ
  pub halving : List ℕ
  pub rings : List (List ℕ)

unfoldable pub of : Office → List ℕ → Case
of o l = record {
  indexed = indices o;
  least = limits o;
  number = counts o;
  places = map (place_of (limits o)) l;
  halving = map (λ limit. halved 2 (limits o) limit 0 2) l;
  rings = map (thinned o) l;
}

abbrev all : ℕ
all = 4294967295

printed_index : of printed (100 ∷ 99 ∷ 0 ∷ []) ≡ record {
  indexed = all ∷ all ∷ all ∷ all ∷ 100 ∷ [];
  least = 100 ∷ 0 ∷ [];
  number = 4 ∷ 5 ∷ [];
  places = 0 ∷ 1 ∷ 1 ∷ [];
  halving = 0 ∷ 1 ∷ 1 ∷ [];
  rings = (0 ∷ 1 ∷ 2 ∷ 3 ∷ []) ∷ (0 ∷ 1 ∷ 2 ∷ 3 ∷ 4 ∷ []) ∷ (0 ∷ 1 ∷ 2 ∷ 3 ∷ 4 ∷ []) ∷ [];
}
unfolding of place_of halved keep bared index_from index limits counts thin first table count sum walk squared rim on_rim removable before better best_from best turned peels drawn ring peeled doubled outline listed entries_from entries
printed_index = refl

ten_index : of ten (58 ∷ 57 ∷ []) ≡ record {
  indexed = all ∷ all ∷ all ∷ all ∷ all ∷ all ∷ all ∷ all ∷ 58 ∷ 58 ∷ [];
  least = 58 ∷ 0 ∷ [];
  number = 8 ∷ 10 ∷ [];
  places = 0 ∷ 1 ∷ [];
  halving = 0 ∷ 1 ∷ [];
  rings = (0 ∷ 1 ∷ 2 ∷ 3 ∷ 4 ∷ 5 ∷ 6 ∷ 7 ∷ []) ∷ (0 ∷ 9 ∷ 1 ∷ 2 ∷ 3 ∷ 4 ∷ 5 ∷ 6 ∷ 8 ∷ 7 ∷ []) ∷ [];
}
unfolding of place_of halved keep bared index_from index limits counts thin first table count sum walk squared rim on_rim removable before better best_from best turned peels drawn ring peeled doubled outline listed entries_from entries
ten_index = refl

-- the printed office in other numbers: the inner point is 0, and the peel bares it between 2 and 3
abbrev low : Office
low = office (5 ∷ 10 ∷ 0 ∷ 0 ∷ 10 ∷ []) (2 ∷ 10 ∷ 10 ∷ 0 ∷ 0 ∷ []) (3 ∷ 4 ∷ 0 ∷ 4 ∷ 1 ∷ 0 ∷ 1 ∷ 2 ∷ 0 ∷ 2 ∷ 3 ∷ 0 ∷ [])

-- at limit 100 the ring begins at 1, which stands at place 3 in the ring of limit 0
low_index : of low (100 ∷ 0 ∷ []) ≡ record {
  indexed = 100 ∷ all ∷ all ∷ all ∷ all ∷ [];
  least = 100 ∷ 0 ∷ [];
  number = 4 ∷ 5 ∷ [];
  places = 0 ∷ 1 ∷ [];
  halving = 0 ∷ 1 ∷ [];
  rings = (1 ∷ 2 ∷ 3 ∷ 4 ∷ []) ∷ (0 ∷ 3 ∷ 4 ∷ 1 ∷ 2 ∷ []) ∷ [];
}
unfolding of place_of halved keep bared index_from index limits counts thin first table count sum walk squared rim on_rim removable before better best_from best turned peels drawn ring peeled doubled outline listed entries_from entries
low_index = refl

-- it is acceptable; without the turn its points would stand in the right order, but begin at 3
low_turns : ((verdict true low ≡ accepted 4) × (ring low (drawn low 100) ≡ 1 ∷ 2 ∷ 3 ∷ 4 ∷ [])) × (keep (shown low 100) (ring low (drawn low 0)) ≡ 3 ∷ 4 ∷ 1 ∷ 2 ∷ [])
unfolding verdict at_first stepped among once turn circle keep bared index_from index first table count walk squared rim on_rim removable before better best_from best turned peels drawn ring
low_turns = ((refl, refl), refl)

-- lent lists of sevens: a number per point and two pairs are written, the last place of each list stays; and a count list too short
lent : after_index printed.xs printed.ys printed.corners (replicate 6 7) (replicate 3 7) (replicate 3 7) ≡ record {
  answer = pairs 2;
  index = all ∷ all ∷ all ∷ all ∷ 100 ∷ 7 ∷ [];
  limits = 100 ∷ 0 ∷ 7 ∷ [];
  counts = 4 ∷ 5 ∷ 7 ∷ [];
}
unfolding after_index indexing verdict at_first stepped among once turn circle bared index_from index limits counts first table count sum walk squared rim on_rim removable before better best_from best ring peeled doubled outline listed entries_from entries
lent = refl

no_room : after_index printed.xs printed.ys printed.corners (replicate 5 7) (replicate 3 7) (replicate 2 7) ≡ record { answer = refusal 4 0; index = replicate 5 7; limits = replicate 3 7; counts = replicate 2 7 }
unfolding after_index indexing verdict
no_room = refl
