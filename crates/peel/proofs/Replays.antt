-- What a replay answers is what plain logic tells, for every log, and the other way round. Assumes nothing.
use mathlib.Core.Path.{◌≡◌, refl, sym, ap, ap₂, subst, ◌∙◌}
use mathlib.Core.Logic.{◌↔◌}
use mathlib.Core.Bool.{Bool, true, false, cond}
use mathlib.Core.List.{List, [], ◌∷◌, ◌++◌, append_assoc, append-nil}
use Prim.Native.Nat.{ℕ, zero, suc, ◌+◌, ◌-◌, ◌<◌, ◌≤◌}
use native.Mathlib.Decide.{dec_lt}
use native.Mathlib.Omega.{arith}
use lib.Dec.{eqb}
use lib.ListN.{length, get_or, take, drop, length-append, drop_of_length-le}
use lib.Seq.{take-suc, drop-cons}
use Rattle.laws.proofs.Test.{false_iff, eqb_iff}
use Rattle.peel.specs.Log.{coded, codes, number_in, Replay, faults, numbered, judged, ended, follows, replay_of}
use Rattle.peel.specs.LogRefusals.{Octets, Begins, place, Peel, Told, all_peels, bad_count, bad_number, not_next, left_over}
use Rattle.peel.proofs.Coding.{by_number, bad_refused, low_next, octets_after}

codes_append : (ns ms : List ℕ) → codes (ns ++ ms) ≡ codes ns ++ codes ms
unfolding codes
codes_append [] ms = refl
codes_append (n ∷ ns) ms = ap (λ l. coded n ++ l) (codes_append ns ms) ∙ sym (append_assoc (coded n) (codes ns) (codes ms))

module _ (ts : List ℕ) where
  -- one peel more
  codes_more : (m j : ℕ) → j < length ts → codes (m ∷ take (suc j) ts) ≡ codes (m ∷ take j ts) ++ coded (get_or ts j 0)
  unfolding codes
  codes_more m j l =
      ap (λ l. codes (m ∷ l)) (take-suc ts j 0 l)
      ∙ codes_append (m ∷ take j ts) (get_or ts j 0 ∷ [])
      ∙ ap (λ l. codes (m ∷ take j ts) ++ l) (append-nil (coded (get_or ts j 0)))

  place_more : (m j : ℕ) → j < length ts → place ts m (suc j) ≡ place ts m j + length (coded (get_or ts j 0))
  place_more m j l = ap length (codes_more m j l) ∙ length-append (codes (m ∷ take j ts)) (coded (get_or ts j 0))

  -- ---- from the answer to what it tells
  module _ (bytes : List ℕ) where
    begins_more : {m j : ℕ} {rest : List ℕ} → Begins ts bytes m j (coded (get_or ts j 0) ++ rest) → j < m → j < length ts → Begins ts bytes m (suc j) rest
    begins_more {m} {j} {rest} b l k = record {
      low = b.low;
      asked = l;
      there = k;
      reads = b.reads ∙ sym (append_assoc (codes (m ∷ take j ts)) (coded (get_or ts j 0)) rest) ∙ ap (λ l. l ++ rest) (sym (codes_more m j k));
    }

    -- one number, where the others after it are told
    one_told : (others : List ℕ → ℕ → List ℕ → Replay) (m j : ℕ) (rest : List ℕ) → j < m → Begins ts bytes m j rest → Octets rest
        → ((after : List ℕ) → Begins ts bytes m (suc j) after → Octets after → Told ts bytes (others (drop (suc j) ts) (place ts m (suc j)) after))
        → Told ts bytes (numbered (judged others (drop j ts) (place ts m j)) (place ts m j) (number_in rest))
    unfolding judged
    one_told others m j rest l b h ih =
        by_number (Told ts bytes) (judged others (drop j ts) (place ts m j)) (place ts m j) rest h (λ number c. bad_number m j number rest l b c) (λ n after low e. next n after low e (dec_lt j (length ts)))
      where
        next : (n : ℕ) (after : List ℕ) → n ≤ 2042 → rest ≡ coded n ++ after → Dec (j < length ts) → Told ts bytes (judged others (drop j ts) (place ts m j) n after)
        next n after low e (no f) =
            subst (λ l. Told ts bytes (judged others l (place ts m j) n after)) (sym (drop_of_length-le ts {i = j} (omega arith)))
            (not_next m j n after l (subst (Begins ts bytes m j) e b) low (λ p. f p.0))
        next n after low e (yes k) =
            subst (λ l. Told ts bytes (judged others l (place ts m j) n after)) (sym (drop-cons ts j 0 k)) (same (eqb n (get_or ts j 0)) refl)
          where
            same : (x : Bool) → eqb n (get_or ts j 0) ≡ x → Told ts bytes (cond x (others (drop (suc j) ts) (place ts m j + length (coded n)) after) (faults 43 (place ts m j)))
            same true z =
                let y : n ≡ get_or ts j 0 = eqb_iff.0 z in
                let w : rest ≡ coded (get_or ts j 0) ++ after = e ∙ ap (λ i. coded i ++ after) y in
                subst (λ i. Told ts bytes (others (drop (suc j) ts) i after)) (place_more m j k ∙ ap (λ i. place ts m j + length (coded i)) (sym y))
                (ih after (begins_more (subst (Begins ts bytes m j) w b) l k) (octets_after (coded n) after (subst Octets e h)))
            same false z = not_next m j n after l (subst (Begins ts bytes m j) e b) low (λ p. false_iff.0 z (eqb_iff.1 (sym p.1)))

    told_from : (i m j : ℕ) (rest : List ℕ) → j + i ≡ m → Begins ts bytes m j rest → Octets rest → Told ts bytes (follows m i (drop j ts) (place ts m j) rest)
    unfolding follows ended
    told_from zero m j rest e b h = end rest (let z : j ≡ m = omega arith in z) b
      where
        end : (rest : List ℕ) → j ≡ m → Begins ts bytes m j rest → Told ts bytes (ended m (place ts m j) rest)
        end [] z b = all_peels m (subst (λ i. Begins ts bytes m i []) z b)
        end (c ∷ rest) z b = subst (λ i. Told ts bytes (faults 44 (place ts m i))) (sym z) (left_over m c rest (subst (λ i. Begins ts bytes m i (c ∷ rest)) z b))
    told_from (suc i) m j rest e b h = one_told (follows m i) m j rest (omega arith) b h (λ after c k. told_from i m (suc j) after (omega arith) c k)

    pub replay_told : Octets bytes → Told ts bytes (replay_of ts bytes)
    unfolding replay_of codes
    replay_told h = by_number (Told ts bytes) (λ m rest. follows m m ts (length (coded m)) rest) 0 bytes h bad_count (λ m rest l e.
        let z : coded m ++ [] ≡ coded m = append-nil (coded m) in
        subst (λ i. Told ts bytes (follows m m ts i rest)) (ap length z)
        (told_from m m 0 rest (omega arith) (record { low = l; asked = omega arith; there = omega arith; reads = e ∙ ap (λ l. l ++ rest) (sym z) })
        (octets_after (coded m) rest (subst Octets e h))))

  -- ---- and back
  module _ (low : (j : ℕ) → j < length ts → get_or ts j 0 ≤ 2042) where
    one_read : (m i t : ℕ) (us : List ℕ) (at : ℕ) (rest : List ℕ) → t ≤ 2042 → follows m (suc i) (t ∷ us) at (coded t ++ rest) ≡ follows m i us (at + length (coded t)) rest
    unfolding follows judged
    one_read m i t us at rest l = let e : eqb t t ≡ true = (eqb_iff {a = t}).1 refl in low_next (judged (follows m i) (t ∷ us) at) at t rest l ∙ rw e

    -- past a count and the first j peels
    reads_on : (m j : ℕ) (rest : List ℕ) → m ≤ 2042 → j ≤ m → j ≤ length ts
        → replay_of ts (codes (m ∷ take j ts) ++ rest) ≡ follows m (m - j) (drop j ts) (length (codes (m ∷ take j ts))) rest
    unfolding replay_of codes
    reads_on m zero rest l b c =
        ap (λ l. replay_of ts (l ++ rest)) (append-nil (coded m))
        ∙ low_next (λ m rest. follows m m ts (length (coded m)) rest) 0 m rest l
        ∙ ap₂ (λ i at. follows m i ts at rest) (omega arith) (ap length (sym (append-nil (coded m))))
    reads_on m (suc j) rest l b c =
        let t : ℕ = get_or ts j 0 in
        let at : ℕ = length (codes (m ∷ take j ts)) in
        ap (λ l. replay_of ts (l ++ rest)) (codes_more m j c)
        ∙ ap (replay_of ts) (append_assoc (codes (m ∷ take j ts)) (coded t) rest)
        ∙ reads_on m j (coded t ++ rest) l (omega arith) (omega arith)
        ∙ ap₂ (λ i us. follows m i us at (coded t ++ rest)) (let z : m - j ≡ suc (m - suc j) = omega arith in z) (drop-cons ts j 0 c)
        ∙ one_read m (m - suc j) t (drop (suc j) ts) at rest (low j c)
        ∙ ap (λ at. follows m (m - suc j) (drop (suc j) ts) at rest) (sym (place_more m j c))

    -- with i numbers to come
    here : {bytes : List ℕ} {m j : ℕ} {rest : List ℕ} (i : ℕ) → m - j ≡ i → Begins ts bytes m j rest → replay_of ts bytes ≡ follows m i (drop j ts) (place ts m j) rest
    here {m = m} {j} {rest} i e b = ap (replay_of ts) b.reads ∙ reads_on m j rest b.low b.asked b.there ∙ ap (λ i. follows m i (drop j ts) (place ts m j) rest) e

    not_judged : (others : List ℕ → ℕ → List ℕ → Replay) (j t at : ℕ) (rest : List ℕ) → (Peel ts j t → ⊥) → judged others (drop j ts) at t rest ≡ faults 43 at
    unfolding judged
    not_judged others j t at rest f = elim (dec_lt j (length ts)) [
      | no g ↦ rw (drop_of_length-le ts {i = j} (omega arith)) refl
      | yes l ↦ rw (drop-cons ts j 0 l, false_iff.1 (λ e. f (l, sym ((eqb_iff {a = t}).0 e)))) refl
    ]

    pub told_replay : (bytes : List ℕ) {x : Replay} → Told ts bytes x → replay_of ts bytes ≡ x
    unfolding follows ended replay_of
    told_replay bytes (all_peels n b) = here 0 (omega arith) b
    told_replay bytes (bad_count number b) = bad_refused (λ m rest. follows m m ts (length (coded m)) rest) 0 bytes number b
    told_replay bytes (bad_number m j number rest l b bad) =
        here (suc (m - suc j)) (omega arith) b ∙ bad_refused (judged (follows m (m - suc j)) (drop j ts) (place ts m j)) (place ts m j) rest number bad
    told_replay bytes (not_next m j t rest l b k f) =
        here (suc (m - suc j)) (omega arith) b
        ∙ low_next (judged (follows m (m - suc j)) (drop j ts) (place ts m j)) (place ts m j) t rest k
        ∙ not_judged (follows m (m - suc j)) j t (place ts m j) rest f
    told_replay bytes (left_over m c rest b) = here 0 (omega arith) b

    pub replay_iff : (bytes : List ℕ) → Octets bytes → (x : Replay) → (replay_of ts bytes ≡ x) ↔ Told ts bytes x
    replay_iff bytes h x = ((λ e. subst (Told ts bytes) e (replay_told bytes h)), told_replay bytes)
