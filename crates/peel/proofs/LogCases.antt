-- Logs and areas of two offices of the dozen: the printed office and case 4, whole logs, damaged logs, steps back, and the hull's area. Assumes nothing.
use mathlib.Core.Path.{◌≡◌, refl}
use mathlib.Core.Bool.{true}
use mathlib.Core.List.{List, [], ◌∷◌, map}
use Prim.Native.Nat.{ℕ}
use lib.IntN.{pos}
use Rattle.laws.specs.First.{first, at_first, count as sides_count, sum, walk, stepped, among, once}
use Rattle.sheet.specs.Plane.{turn, squared, circle}
use Rattle.sheet.specs.Verdict.{verdict}
use Rattle.rim.specs.Peel.{rim, on_rim, removable, before, better, best_from, best, turned, peels, whole, drawn, ring}
use Rattle.peel.specs.Shoelace.{laces, shoelace, ring_lace}
use Rattle.peel.specs.History.{noted, history_from, history, areas, without}
use Rattle.peel.specs.Outcome.{draws}
use Rattle.peel.specs.Log.{coded, codes, second_group, number_in, log, accepts, faults, numbered, judged, ended, follows, replay_of, replay, stepped_back, by_check, replay_outcome}
use Rattle.peel.specs.Answer.{count, refusal}
use Rattle.peel.specs.LogAnswer.{AfterLog, written, logged, after_log}
use Rattle.peel.proofs.Dozen.{printed, ten}

-- one group up to 127, then two
pub groups : map coded (0 ∷ 127 ∷ 128 ∷ 2042 ∷ 16383 ∷ []) ≡ (0 ∷ []) ∷ (127 ∷ []) ∷ (128 ∷ 1 ∷ []) ∷ (250 ∷ 15 ∷ []) ∷ (255 ∷ 127 ∷ []) ∷ []
unfolding coded
groups = refl

-- a draw's log: the printed office at 0, 99 and 100; case 4 at 0, 57 and 58
pub printed_logs : map (log printed) (0 ∷ 99 ∷ 100 ∷ []) ≡ (1 ∷ 3 ∷ []) ∷ (1 ∷ 3 ∷ []) ∷ (0 ∷ []) ∷ []
unfolding first turn squared rim on_rim removable before better best_from best noted history_from history coded codes
printed_logs = refl

pub ten_logs : map (log ten) (0 ∷ 57 ∷ 58 ∷ []) ≡ (2 ∷ 7 ∷ 0 ∷ []) ∷ (2 ∷ 7 ∷ 0 ∷ []) ∷ (0 ∷ []) ∷ []
unfolding first turn squared rim on_rim removable before better best_from best noted history_from history coded codes
ten_logs = refl

-- case 4: all peels; the first, where no limit stops; none
pub ten_accepted : map (replay ten) ((2 ∷ 7 ∷ 0 ∷ []) ∷ (1 ∷ 7 ∷ []) ∷ (0 ∷ []) ∷ []) ≡ accepts 2 ∷ accepts 1 ∷ accepts 0 ∷ []
unfolding first turn squared rim on_rim removable before better best_from best noted history_from history coded second_group number_in numbered judged ended follows replay_of
ten_accepted = refl

-- 41: nothing; a count cut short; a peel missing; one cut short; no number where no peel is left
-- 42: a second group of 0; above 2,042; a second group with its top bit set; a number in no shortest form where no peel is left
-- 43: the peels in another order; no peel left; no triangle of the office, after a count of two bytes
-- 44: one byte more, and two
pub ten_refused : map (replay ten)
    ([] ∷ (130 ∷ []) ∷ (2 ∷ 7 ∷ []) ∷ (2 ∷ 7 ∷ 128 ∷ []) ∷ (3 ∷ 7 ∷ 0 ∷ [])
    ∷ (130 ∷ 0 ∷ 7 ∷ 0 ∷ []) ∷ (251 ∷ 15 ∷ 7 ∷ 0 ∷ []) ∷ (2 ∷ 7 ∷ 128 ∷ 128 ∷ []) ∷ (3 ∷ 7 ∷ 0 ∷ 128 ∷ 0 ∷ [])
    ∷ (2 ∷ 0 ∷ 7 ∷ []) ∷ (3 ∷ 7 ∷ 0 ∷ 1 ∷ []) ∷ (250 ∷ 15 ∷ 250 ∷ 15 ∷ [])
    ∷ (2 ∷ 7 ∷ 0 ∷ 5 ∷ []) ∷ (0 ∷ 0 ∷ 0 ∷ []) ∷ [])
    ≡ faults 41 0 ∷ faults 41 0 ∷ faults 41 2 ∷ faults 41 2 ∷ faults 41 3
    ∷ faults 42 0 ∷ faults 42 0 ∷ faults 42 2 ∷ faults 42 3
    ∷ faults 43 1 ∷ faults 43 3 ∷ faults 43 2
    ∷ faults 44 3 ∷ faults 44 1 ∷ []
unfolding first turn squared rim on_rim removable before better best_from best noted history_from history coded second_group number_in numbered judged ended follows replay_of
ten_refused = refl

-- no step back, one, two, and more than there are
pub ten_back : map (replay_outcome true ten (2 ∷ 7 ∷ 0 ∷ [])) (0 ∷ 1 ∷ 2 ∷ 9 ∷ [])
    ≡ draws (0 ∷ 1 ∷ 1 ∷ 1 ∷ 1 ∷ 1 ∷ 1 ∷ 0 ∷ 1 ∷ 1 ∷ [])
    ∷ draws (1 ∷ 1 ∷ 1 ∷ 1 ∷ 1 ∷ 1 ∷ 1 ∷ 0 ∷ 1 ∷ 1 ∷ [])
    ∷ draws (1 ∷ 1 ∷ 1 ∷ 1 ∷ 1 ∷ 1 ∷ 1 ∷ 1 ∷ 1 ∷ 1 ∷ [])
    ∷ draws (1 ∷ 1 ∷ 1 ∷ 1 ∷ 1 ∷ 1 ∷ 1 ∷ 1 ∷ 1 ∷ 1 ∷ [])
    ∷ []
unfolding first at_first sides_count sum walk stepped among once turn squared circle verdict rim on_rim removable before better best_from best noted history_from history without coded second_group number_in numbered judged ended follows replay_of stepped_back by_check replay_outcome
ten_back = refl

-- case 4's log in a list of four, whose last place stays, and of two
abbrev ten_written : List ℕ → AfterLog
ten_written out = after_log ten.xs ten.ys ten.corners 0 out

pub ten_writes : map ten_written ((9 ∷ 9 ∷ 9 ∷ 9 ∷ []) ∷ (9 ∷ 9 ∷ []) ∷ [])
    ≡ record { answer = count 3; out = 2 ∷ 7 ∷ 0 ∷ 9 ∷ [] }
    ∷ record { answer = refusal 45 0; out = 9 ∷ 9 ∷ [] }
    ∷ []
unfolding first at_first sides_count sum walk stepped among once turn squared circle verdict rim on_rim removable before better best_from best noted history_from history coded codes written logged after_log
ten_writes = refl

-- case 4's hull, its outline at limit 0, and the triangles peeled: 560 is 430 and 130
pub ten_areas : (ring_lace ten (ring ten (whole ten)) ≡ pos 560) × (ring_lace ten (ring ten (drawn ten 0)) ≡ pos 430) × (areas ten (history ten 0) ≡ 130)
unfolding first sides_count walk turn squared rim on_rim removable before better best_from best turned peels drawn ring laces shoelace noted history_from history areas
ten_areas = (refl, refl, refl)
