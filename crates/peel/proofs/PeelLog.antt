-- Document 02, 5/13: which logs a replay of an acceptable office accepts, what it refuses, and a draw's own log. Assumes nothing.
use mathlib.Core.Path.{◌≡◌, sym, ap, subst, ◌∙◌}
use mathlib.Core.Logic.{◌↔◌}
use mathlib.Core.List.{List, ◌∷◌, append-nil}
use Prim.Native.Nat.{ℕ, zero, suc, ◌+◌, ◌<◌, ◌≤◌}
use native.Mathlib.Omega.{arith}
use lib.ListN.{length, get_or, take, length-take}
use lib.Seq.{length-take-le}
use Rattle.sheet.specs.Office.{Office}
use Rattle.sheet.specs.Acceptable.{Acceptable}
use Rattle.rim.specs.Peel.{whole, drawn, peeled}
use Rattle.rim.specs.Reached.{Stripped}
use Rattle.rim.proofs.Reached.{sound}
use Rattle.peel.specs.History.{history, without}
use Rattle.peel.specs.Log.{codes, log_of, log, accepts, faults, replay, marks_after}
use Rattle.peel.specs.LogRefusals.{Octets, Told, all_peels}
use Rattle.peel.proofs.DrawnOutline.{stripped_reached}
use Rattle.peel.proofs.Coding.{octets_codes, codes_length}
use Rattle.peel.proofs.Replays.{replay_iff, told_replay}
use Rattle.peel.proofs.History.{drawn_without, history_front, history_leads, history_low, history_short}

module _ {o : Office} (a : Acceptable o) where
  abbrev h : List ℕ
  h = history o 0

  -- ---- which logs

  -- the log of the first n peels of the draw at limit 0
  log_is : (n : ℕ) → n ≤ length h → log_of (take n h) ≡ codes (n ∷ take n h)
  log_is n l = ap (λ m. codes (m ∷ take n h)) (length-take-le n h l)

  -- is accepted
  pub accepts_log : (n : ℕ) → n ≤ length h → replay o (log_of (take n h)) ≡ accepts n
  accepts_log n l = told_replay h (history_low a 0) (log_of (take n h)) (all_peels n (record {
    low = let s = history_short a 0 in let c = a.points_bound in omega arith;
    asked = omega arith;
    there = l;
    reads = log_is n l ∙ sym (append-nil (codes (n ∷ take n h)));
  }))

  -- and no other
  accepts_only : (bytes : List ℕ) → Octets bytes → (n : ℕ) → replay o bytes ≡ accepts n → (n ≤ length h) × (bytes ≡ log_of (take n h))
  accepts_only bytes b n e = told ((replay_iff h (history_low a 0) bytes b (accepts n)).0 e)
    where
      told : {n : ℕ} → Told h bytes (accepts n) → (n ≤ length h) × (bytes ≡ log_of (take n h))
      told (all_peels n b) = (b.there, b.reads ∙ append-nil (codes (n ∷ take n h)) ∙ sym (log_is n b.there))

  pub accepted_exactly : (bytes : List ℕ) → Octets bytes → (n : ℕ) → (replay o bytes ≡ accepts n) ↔ ((n ≤ length h) × (bytes ≡ log_of (take n h)))
  accepted_exactly bytes b n = (accepts_only bytes b n, λ (l, e). ap (replay o) e ∙ accepts_log n l)

  -- so the first n peels have one log
  pub one_log : (n : ℕ) (bytes others : List ℕ) → Octets bytes → Octets others → replay o bytes ≡ accepts n → replay o others ≡ accepts n → bytes ≡ others
  one_log n bytes others b c e f = (accepts_only bytes b n e).1 ∙ sym (accepts_only others c n f).1

  -- every refusal, at its place
  pub refuses_exactly : (bytes : List ℕ) → Octets bytes → (number place : ℕ) → (replay o bytes ≡ faults number place) ↔ Told h bytes (faults number place)
  refuses_exactly bytes b number place = replay_iff h (history_low a 0) bytes b (faults number place)

  -- ---- a draw's own log

  -- its peels are the first of those at limit 0
  own_front : (limit : ℕ) → history o limit ≡ take (length (history o limit)) h
  own_front limit = history_front o {low = 0} (omega arith)

  own_fits : (limit : ℕ) → length (history o limit) ≤ length h
  own_fits limit = let e = ap length (own_front limit) in let m = length-take (length (history o limit)) h in omega arith

  pub own_log : (limit : ℕ) → replay o (log o limit) ≡ accepts (length (history o limit))
  own_log limit = ap (λ ts. replay o (log_of ts)) (own_front limit) ∙ accepts_log (length (history o limit)) (own_fits limit)

  pub own_marks : (limit : ℕ) → marks_after o (length (history o limit)) ≡ drawn o limit
  own_marks limit = ap (without (whole o)) (sym (own_front limit)) ∙ sym (drawn_without o limit)

  pub own_bytes : (limit : ℕ) → Octets (log o limit)
  own_bytes limit = octets_codes (length (history o limit) ∷ history o limit) low
    where
      low : (j : ℕ) → j < suc (length (history o limit)) → get_or (length (history o limit) ∷ history o limit) j 0 < 16384
      low zero l = let s = history_short a limit in let c = a.points_bound in omega arith
      low (suc j) l = let s = history_low a limit j (omega arith) in omega arith

  -- two bytes a number at most
  pub own_length : (limit : ℕ) → length (log o limit) ≤ 2044
  own_length limit = let s = history_short a limit in let c = a.points_bound in let e = codes_length (length (history o limit) ∷ history o limit) in omega arith

  -- the marks after n peels are those of n peels of best sides
  pub after_peels : (n : ℕ) → n ≤ length h → Stripped o 0 n (marks_after o n)
  after_peels n l = subst (λ m. Stripped o 0 m (marks_after o n)) (let z : 0 + length (take n h) ≡ n = (let e = length-take-le n h l in omega arith) in z) (history_leads a 0 n).strips

  -- so the tally counts n, and a log's count is the draw's tally
  pub after_count : (n : ℕ) → n ≤ length h → peeled o (marks_after o n) ≡ n
  after_count n l = (sound o a (stripped_reached a 0 (after_peels n l))).count

  pub own_count : (limit : ℕ) → peeled o (drawn o limit) ≡ length (history o limit)
  own_count limit = ap (peeled o) (sym (own_marks limit)) ∙ after_count (length (history o limit)) (own_fits limit)
