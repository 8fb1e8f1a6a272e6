-- The office of document 01's printed list with lent lists of sevens: what is written, what is left alone, and a list too short. Assumes nothing.
use Prim.Native.Nat.{ℕ}
use mathlib.Core.Path.{◌≡◌, refl}
use mathlib.Core.List.{List, [], ◌∷◌}
use lib.ListN.{replicate}
use Rattle.laws.specs.First.{first, at_first, table, count, sum, walk, stepped, among, once}
use Rattle.sheet.specs.Plane.{turn, squared, circle}
use Rattle.sheet.specs.Verdict.{verdict}
use Rattle.rim.specs.Peel.{rim, on_rim, removable, before, better, best_from, best, ring, peeled, doubled}
use Rattle.peel.specs.List.{listed, entries_from, entries, outline}
use Rattle.peel.specs.Outcome.{bereft, fed, feeds, by_verdict, outcome}
use Rattle.peel.specs.Answer.{tally, count as entries_count, refusal, drawing, listing, after_draw, after_list}
use Rattle.peel.proofs.Dozen.{printed}

abbrev sevens : ℕ → List ℕ
sevens n = replicate n 7

-- triangle 3 goes at limit 99, and every point is on the rim; the last place of each list stays
drawn_99 : after_draw printed.xs printed.ys printed.corners 99 (sevens 5) (sevens 6) (sevens 6) ≡ record {
  answer = tally 1 150 5;
  kept = 1 ∷ 1 ∷ 1 ∷ 0 ∷ 7 ∷ [];
  rim = 1 ∷ 1 ∷ 1 ∷ 1 ∷ 1 ∷ 7 ∷ [];
  ring = 0 ∷ 1 ∷ 2 ∷ 3 ∷ 4 ∷ 7 ∷ [];
}
unfolding after_draw drawing first at_first table count sum walk stepped among once turn squared circle verdict rim on_rim removable before better best_from best ring peeled doubled bereft fed feeds by_verdict outcome
drawn_99 = refl

-- two entries, and a place to spare in each list
listed_all : after_list printed.xs printed.ys printed.corners (sevens 4) (sevens 5) (sevens 5) (sevens 3) (sevens 3) (sevens 3) ≡ record {
  answer = entries_count 2;
  kept = 1 ∷ 1 ∷ 1 ∷ 0 ∷ [];
  rim = 1 ∷ 1 ∷ 1 ∷ 1 ∷ 1 ∷ [];
  ring = 0 ∷ 1 ∷ 2 ∷ 3 ∷ 4 ∷ [];
  least = 100 ∷ 0 ∷ 7 ∷ [];
  peeled = 0 ∷ 1 ∷ 7 ∷ [];
  area = 200 ∷ 150 ∷ 7 ∷ [];
}
unfolding after_list listing drawing first at_first table count sum walk stepped among once turn squared circle verdict rim on_rim removable before better best_from best ring peeled doubled outline listed entries_from entries bereft fed feeds by_verdict outcome
listed_all = refl

-- one mark too few
no_room : after_draw printed.xs printed.ys printed.corners 99 (sevens 3) (sevens 6) (sevens 6) ≡ record { answer = refusal 4 0; kept = sevens 3; rim = sevens 6; ring = sevens 6 }
unfolding after_draw drawing verdict by_verdict outcome
no_room = refl
