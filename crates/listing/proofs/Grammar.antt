-- A text is taken exactly where it says numbers, and then it gives those. Assumes nothing.
use Prim.Native.Nat.{ℕ, ◌+◌, ◌*◌, ◌-◌, ◌≤◌, ◌<◌}
use mathlib.Core.Path.{◌≡◌, refl, sym, ap, subst, ◌∙◌}
use mathlib.Core.Logic.{◌↔◌, inl, inr}
use mathlib.Core.Bool.{Bool, true, false, ◌||◌}
use mathlib.Core.List.{List, [], ◌∷◌, ◌++◌, append_assoc, append-nil}
use mathlib.Core.Option.{Option, none, some}
use native.Mathlib.Omega.{arith}
use borrow.Author.Tests.{le-leb, leb-true, eqb-true}
use lib.Dec.{leb, eqb}
use lib.ListN.{length}
use Rattle.laws.proofs.Test.{and_iff, or_iff, false_iff}
use Rattle.listing.specs.Text.{white, digit, digits, value_from, value, number, before, numbers}
use Rattle.listing.specs.Says.{White, Digits, Number, Says, nothing, gap, last, next}
use Rattle.listing.specs.Code.{ended, continues, scanned}
use Rattle.listing.proofs.Scanning.{ended_some}
use Rattle.listing.proofs.Words.{number_iff, number_front, goes_on, longer_number, snoc_length, snoc_value, scan_words}

-- ---- tests and plain logic

pub white_iff : (b : ℕ) → (white b ≡ true) ↔ White b
white_iff b = (
  (λ e. elim ((or_iff {a = eqb b 32 || eqb b 10}).0 e) [
    | inl f ↦ (elim ((or_iff {a = eqb b 32}).0 f) [ inl g ↦ inl (eqb-true b 32 g) | inr g ↦ inr (inl (eqb-true b 10 g)) ])
    | inr f ↦ inr (inr (eqb-true b 13 f))
  ]),
  (λ w. elim w [
    | inl e ↦ ap white e
    | inr w ↦ (elim w [ inl e ↦ ap white e | inr e ↦ ap white e ])
  ]),
)

digit_iff : (b : ℕ) → (digit b ≡ true) ↔ ((48 ≤ b) × (b ≤ 57))
digit_iff b = (
  (λ e. let (l, h) = (and_iff {a = leb 48 b}).0 e in (leb-true 48 b l, leb-true b 57 h)),
  (λ h. (and_iff {a = leb 48 b}).1 (le-leb 48 b h.0, le-leb b 57 h.1)),
)

pub digits_iff : (w : List ℕ) → (digits w ≡ true) ↔ Digits w
unfolding digits
digits_iff [] = ((λ e. tt), (λ h. refl))
digits_iff (b ∷ w) = (
  (λ e. let (d, r) = (and_iff {a = digit b}).0 e in let (l, h) = (digit_iff b).0 d in (l, h, (digits_iff w).0 r)),
  (λ h. (and_iff {a = digit b}).1 ((digit_iff b).1 (h.0, h.1), (digits_iff w).1 h.2)),
)

pub number_is : (w : List ℕ) → 0 < length w → number w ≡ true → Number w
number_is w l e = let (d, f, v) = (number_iff w).0 e in record { some = l; few = f; plain = (digits_iff w).0 d; small = v }

pub is_number : (w : List ℕ) → Number w → number w ≡ true
is_number w n = (number_iff w).1 ((digits_iff w).1 n.plain, n.few, n.small)

-- ---- what the scan takes says numbers

some_same : {x y : List ℕ} → some x ≡ some y → x ≡ y
some_same e = cc

before_some : (v : ℕ) (r : Option (List ℕ)) (ns : List ℕ) → before (v ∷ []) r ≡ some ns → (ms : List ℕ) × (r ≡ some ms) × ((v ∷ ms) ≡ ns)
before_some v none ns e = absurd cc
before_some v (some ms) ns e = (ms, refl, some_same e)

ends_so : (p ns : List ℕ) → number p ≡ true → ended (length p) (value p) (some []) ≡ some ns → Says (p ++ []) ns
ends_so [] ns e h = subst (Says []) (some_same h) nothing
ends_so (b ∷ p) ns e h = rw append-nil (subst (Says (b ∷ p)) (some_same h) (last (number_is (b ∷ p) (omega arith) e)))

white_so : (p text ns : List ℕ) (b : ℕ) → number p ≡ true → White b → ended (length p) (value p) (scanned 0 0 text) ≡ some ns
    → ((ms : List ℕ) → scanned 0 0 text ≡ some ms → Says text ms) → Says (p ++ (b ∷ text)) ns
white_so [] text ns b e w h ih = gap w (ih ns h)
white_so (c ∷ p) text ns b e w h ih =
    let (ms, r, q) = before_some (value (c ∷ p)) (scanned 0 0 text) ns h in
    subst (Says ((c ∷ p) ++ (b ∷ text))) q (next (number_is (c ∷ p) (omega arith) e) w (ih ms r))

says_from : (p text ns : List ℕ) → number p ≡ true → scanned (length p) (value p) text ≡ some ns → Says (p ++ text) ns
unfolding scanned digits value_from
says_from p [] ns e h = ends_so p ns e h
says_from p (b ∷ text) ns e h = step (white b) refl (continues (length p) (value p) b) refl (λ ms. says_from [] text ms refl) (says_from (p ++ (b ∷ [])) text ns)
  where
    step : (t : Bool) → white b ≡ t → (k : Bool) → continues (length p) (value p) b ≡ k
        → ((ms : List ℕ) → scanned 0 0 text ≡ some ms → Says text ms)
        → (number (p ++ (b ∷ [])) ≡ true → scanned (length (p ++ (b ∷ []))) (value (p ++ (b ∷ []))) text ≡ some ns → Says ((p ++ (b ∷ [])) ++ text) ns)
        → Says (p ++ (b ∷ text)) ns
    step true w k f fresh longer = white_so p text ns b e ((white_iff b).0 w) (rw (w, scanned) at h) fresh
    step false w true f fresh longer =
        rw append_assoc at longer (longer_number p b e f) (rw (snoc_length p b, snoc_value p b) (rw (w, f, scanned) at h))
    step false w false f fresh longer = let k : ◌≡◌ {A = Option (List ℕ)} none (some ns) = rw (w, f, scanned) at h in absurd cc

-- ---- what says numbers the scan takes

digit_not_white : (b : ℕ) → digit b ≡ true → white b ≡ false
digit_not_white b d = false_iff.1 (λ w. let (l, h) = (digit_iff b).0 d in elim ((white_iff b).0 w) [
  | inl e ↦ omega arith
  | inr v ↦ (elim v [ inl e ↦ omega arith | inr e ↦ omega arith ])
])

through : (p w rest : List ℕ) → number (p ++ w) ≡ true → scanned (length p) (value p) (w ++ rest) ≡ scanned (length (p ++ w)) (value (p ++ w)) rest
unfolding scanned
through p [] rest e = rw (append-nil p)
through p (b ∷ w) rest e =
    let f : number ((p ++ (b ∷ [])) ++ w) ≡ true = rw append_assoc e in
    let k : continues (length p) (value p) b ≡ true = goes_on p b (number_front (p ++ (b ∷ [])) w f) in
    let d : white b ≡ false = digit_not_white b ((and_iff {a = digit b}).0 k).0 in
    rw (d, k, scanned) (
    ap (λ (n : ℕ). scanned n (10 * value p + (b - 48)) (w ++ rest)) (sym (snoc_length p b))
    ∙ ap (λ (v : ℕ). scanned (length (p ++ (b ∷ []))) v (w ++ rest)) (sym (snoc_value p b))
    ∙ through (p ++ (b ∷ [])) w rest f
    ∙ ap (λ (q : List ℕ). scanned (length q) (value q) rest) (append_assoc p (b ∷ []) w)
    )

takes : {text ns : List ℕ} → Says text ns → scanned 0 0 text ≡ some ns
unfolding scanned value_from
takes nothing = refl
takes (gap {b} w s) = rw ((white_iff b).1 w, scanned) (takes s)
takes (last {w} n) =
    ap (scanned 0 0) (sym (append-nil w)) ∙ through [] w [] (is_number w n) ∙ ended_some (length w) (value w) (some []) n.some
takes (next {w} {text} {b = b} n v s) =
    through [] w (b ∷ text) (is_number w n)
    ∙ rw ((white_iff b).1 v, scanned) (ended_some (length w) (value w) (scanned 0 0 text) n.some ∙ ap (before (value w ∷ [])) (takes s))

-- a text gives numbers exactly where it has at most 65,536 bytes and says those numbers
pub numbers_exactly : (text ns : List ℕ) → (numbers text ≡ some ns) ↔ ((length text ≤ 65536) × Says text ns)
numbers_exactly text ns = (step (leb (length text) 65536) refl, (λ h. rw (le-leb (length text) 65536 h.0) (sym (scan_words text) ∙ takes h.1)))
  where
    step : (b : Bool) → leb (length text) 65536 ≡ b → numbers text ≡ some ns → (length text ≤ 65536) × Says text ns
    step true e h = (leb-true (length text) 65536 e, unfold digits value_from in says_from [] text ns refl (scan_words text ∙ (rw e at h)))
    step false e h = let k : ◌≡◌ {A = Option (List ℕ)} none (some ns) = rw e at h in absurd cc
