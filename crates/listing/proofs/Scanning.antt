-- The scan, byte by byte. Assumes nothing.
use Prim.Native.Nat.{ℕ, zero, suc, ◌+◌, ◌*◌, ◌-◌, ◌≤◌, ◌<◌}
use mathlib.Core.Path.{◌≡◌, refl, sym, ap, ◌∙◌}
use mathlib.Core.Bool.{true, false}
use mathlib.Core.List.{List, [], ◌∷◌, ◌++◌, append_assoc, append-nil}
use mathlib.Core.Option.{Option, none, some}
use native.Mathlib.Numerals.{add-one}
use native.Mathlib.Omega.{arith}
use lib.ListN.{length, get_or, take, drop, set, length-set, drop_of_length-le}
use lib.Seq.{take-suc-set}
use Rattle.listing.specs.Text.{white, before}
use Rattle.listing.specs.Code.{ended, continues, scanned}
use Rattle.std.proofs.lemmas.List.{drop_more}

before_two : (xs ys : List ℕ) (r : Option (List ℕ)) → before xs (before ys r) ≡ before (xs ++ ys) r
before_two xs ys none = refl
before_two xs ys (some zs) = ap some (sym (append_assoc xs ys zs))

-- after i bytes the front of the list has the numbers of the words that have ended, and a word of `digits` digits that say `value` has begun
pub record Scan (text all : List ℕ) (count digits value i : ℕ) : Type 0 where
  pub within : i ≤ length text
  pub short : length text ≤ 65536
  pub long : 32768 ≤ length all
  pub room : 2 * count + digits ≤ i
  pub small : value ≤ 65535
  pub fresh : digits ≡ 0 → value ≡ 0
  pub goes : before (take count all) (scanned digits value (drop i text)) ≡ scanned 0 0 text

pub ended_some : (d v : ℕ) (r : Option (List ℕ)) → 0 < d → ended d v r ≡ before (v ∷ []) r
ended_some zero v r h = absurd (omega arith)
ended_some (suc d) v r h = refl

ended_none : (d v : ℕ) (r : Option (List ℕ)) → d ≡ 0 → ended d v r ≡ r
ended_none zero v r h = refl
ended_none (suc d) v r h = absurd (omega arith)

stored : (all : List ℕ) (count v : ℕ) (r : Option (List ℕ)) → count < length all → before (take (count + 1) (set all count v)) r ≡ before (take count all) (before (v ∷ []) r)
stored all count v r h =
    rw (add-one, take-suc-set all count v h) (sym (before_two (take count all) (v ∷ []) r))

module _ {text all : List ℕ} {count digits value i : ℕ} (s : Scan text all count digits value i) where
  module _ (l : i < length text) where
    scanned_white : white (get_or text i 0) ≡ true → scanned digits value (drop i text) ≡ ended digits value (scanned 0 0 (drop (i + 1) text))
    unfolding scanned
    scanned_white w = rw (drop_more text i 0 l, w, scanned)

    scanned_more : white (get_or text i 0) ≡ false → continues digits value (get_or text i 0) ≡ true
        → scanned digits value (drop i text) ≡ scanned (suc digits) (10 * value + (get_or text i 0 - 48)) (drop (i + 1) text)
    unfolding scanned
    scanned_more w k = rw (drop_more text i 0 l, w, k, scanned)

    scanned_bad : white (get_or text i 0) ≡ false → continues digits value (get_or text i 0) ≡ false → scanned digits value (drop i text) ≡ none
    unfolding scanned
    scanned_bad w k = rw (drop_more text i 0 l, w, k, scanned)

    -- white space ends a word
    pub word_ends : white (get_or text i 0) ≡ true → 0 < digits → Scan text (set all count value) (count + 1) 0 0 (i + 1)
    word_ends w d = record {
      within = omega arith;
      short = s.short;
      long = let r = s.long in omega (arith, length-set all count value);
      room = let r = s.room in omega arith;
      small = omega arith;
      fresh = λ e. e;
      goes =
          stored all count value (scanned 0 0 (drop (i + 1) text)) (let r = s.room in let h = s.short in let a = s.long in omega arith)
          ∙ ap (before (take count all)) (sym (scanned_white w ∙ ended_some digits value (scanned 0 0 (drop (i + 1) text)) d))
          ∙ s.goes;
    }

    -- or follows other white space
    pub still_white : white (get_or text i 0) ≡ true → digits ≤ 0 → Scan text all count digits value (i + 1)
    still_white w d =
        let z : digits ≡ 0 = omega arith in
        let v : value ≡ 0 = s.fresh z in
        record {
          within = omega arith;
          short = s.short;
          long = s.long;
          room = let r = s.room in omega arith;
          small = s.small;
          fresh = s.fresh;
          goes =
              ap (before (take count all)) (
              ap (λ (k : ℕ). scanned k value (drop (i + 1) text)) z
              ∙ ap (λ (k : ℕ). scanned 0 k (drop (i + 1) text)) v
              ∙ sym (scanned_white w ∙ ended_none digits value (scanned 0 0 (drop (i + 1) text)) z)
              )
              ∙ s.goes;
        }

    -- a digit continues a word
    pub word_goes_on : white (get_or text i 0) ≡ false → continues digits value (get_or text i 0) ≡ true → 10 * value + (get_or text i 0 - 48) ≤ 65535
        → Scan text all count (digits + 1) (10 * value + (get_or text i 0 - 48)) (i + 1)
    word_goes_on w k b = record {
      within = omega arith;
      short = s.short;
      long = s.long;
      room = let r = s.room in omega arith;
      small = b;
      fresh = λ e. absurd (omega arith);
      goes = rw (add-one digits) (ap (before (take count all)) (sym (scanned_more w k)) ∙ s.goes);
    }

    -- or does not
    pub word_fails : white (get_or text i 0) ≡ false → continues digits value (get_or text i 0) ≡ false → none ≡ scanned 0 0 text
    word_fails w k = ap (before (take count all)) (sym (scanned_bad w k)) ∙ s.goes

  module _ (l : length text ≤ i) where
    scanned_end : scanned digits value (drop i text) ≡ ended digits value (some [])
    unfolding scanned
    scanned_end = rw (drop_of_length-le text {i = i} l, scanned)

    -- the text ends in a word
    pub last_word : 0 < digits → some (take (count + 1) (set all count value)) ≡ scanned 0 0 text
    last_word d =
        ap some (sym (append-nil (take (count + 1) (set all count value))))
        ∙ stored all count value (some []) (let r = s.room in let h = s.short in let a = s.long in let w = s.within in omega arith)
        ∙ ap (before (take count all)) (sym (scanned_end ∙ ended_some digits value (some []) d))
        ∙ s.goes

    -- or in white space
    pub no_last_word : digits ≤ 0 → some (take count all) ≡ scanned 0 0 text
    no_last_word d =
        ap some (sym (append-nil (take count all)))
        ∙ ap (before (take count all)) (sym (scanned_end ∙ ended_none digits value (some []) (omega arith)))
        ∙ s.goes
