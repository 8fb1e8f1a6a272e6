-- Read byte by byte, a text gives the numbers of its words. Assumes nothing.
use Prim.Native.Nat.{ℕ, suc, ◌+◌, ◌*◌, ◌-◌, ◌≤◌, ◌<◌}
use mathlib.Core.Path.{◌≡◌, refl, sym, ap, ◌∙◌}
use mathlib.Core.Logic.{◌↔◌}
use mathlib.Core.Bool.{Bool, true, false, ◌&&◌}
use mathlib.Core.List.{List, [], ◌∷◌, ◌++◌, append_assoc, append-nil}
use mathlib.Core.Option.{none}
use native.Mathlib.Omega.{arith}
use borrow.Author.Tests.{le-leb, leb-true, lt-ltb, ltb-true}
use lib.Dec.{leb, ltb}
use lib.ListN.{length, length-append}
use Rattle.std.proofs.Math.Bool.{and_assoc}
use Rattle.laws.proofs.Test.{and_iff, false_iff}
use Rattle.listing.specs.Text.{white, digit, digits, value_from, value, number, parted, unless_empty, words, values}
use Rattle.listing.specs.Code.{ended, continues, scanned}

pub digits_append : (p q : List ℕ) → digits (p ++ q) ≡ (digits p && digits q)
unfolding digits
digits_append [] q = refl
digits_append (b ∷ p) q = ap (λ (t : Bool). digit b && t) (digits_append p q) ∙ sym (and_assoc (digit b) (digits p) (digits q))

pub value_append : (n : ℕ) (p q : List ℕ) → value_from n (p ++ q) ≡ value_from (value_from n p) q
unfolding value_from
value_append n [] q = refl
value_append n (b ∷ p) q = value_append (10 * n + (b - 48)) p q

pub value_grows : (n : ℕ) (q : List ℕ) → n ≤ value_from n q
unfolding value_from
value_grows n [] = omega arith
value_grows n (b ∷ q) = let h = value_grows (10 * n + (b - 48)) q in omega arith

pub value_one : (n b : ℕ) → value_from n (b ∷ []) ≡ 10 * n + (b - 48)
unfolding value_from
value_one n b = refl

digits_one : (b : ℕ) → digits (b ∷ []) ≡ (digit b && true)
unfolding digits
digits_one b = refl

-- a word is a number where it has digits alone, 5 at most, and says at most 65,535
pub number_iff : (w : List ℕ) → (number w ≡ true) ↔ ((digits w ≡ true) × (length w ≤ 5) × (value w ≤ 65535))
number_iff w = (
  (λ e. let (d, r) = (and_iff {a = digits w}).0 e in let (l, v) = (and_iff {a = leb (length w) 5}).0 r in (d, leb-true (length w) 5 l, leb-true (value w) 65535 v)),
  (λ h. (and_iff {a = digits w}).1 (h.0, (and_iff {a = leb (length w) 5}).1 (le-leb (length w) 5 h.1, le-leb (value w) 65535 h.2))),
)

pub continues_iff : (d v b : ℕ) → (continues d v b ≡ true) ↔ ((digit b ≡ true) × (d < 5) × (10 * v + (b - 48) ≤ 65535))
continues_iff d v b = (
  (λ e. let (g, r) = (and_iff {a = digit b}).0 e in let (l, m) = (and_iff {a = ltb d 5}).0 r in (g, ltb-true d 5 l, leb-true (10 * v + (b - 48)) 65535 m)),
  (λ h. (and_iff {a = digit b}).1 (h.0, (and_iff {a = ltb d 5}).1 (lt-ltb d 5 h.1, le-leb (10 * v + (b - 48)) 65535 h.2))),
)

-- what a number begins with is a number
pub number_front : (p q : List ℕ) → number (p ++ q) ≡ true → number p ≡ true
number_front p q e =
    let (d, l, v) = (number_iff (p ++ q)).0 e in
    let g = value_grows (value p) q in
    let w = value_append 0 p q in
    (number_iff p).1 (((and_iff {a = digits p}).0 (sym (digits_append p q) ∙ d)).0, omega (arith, length-append p q), omega arith)

module _ (p : List ℕ) (b : ℕ) where
  pub snoc_length : length (p ++ (b ∷ [])) ≡ suc (length p)
  snoc_length = omega (arith, length-append p (b ∷ []))

  pub snoc_value : value (p ++ (b ∷ [])) ≡ 10 * value p + (b - 48)
  snoc_value = value_append 0 p (b ∷ []) ∙ value_one (value p) b

  pub longer_number : number p ≡ true → continues (length p) (value p) b ≡ true → number (p ++ (b ∷ [])) ≡ true
  longer_number e k =
      let (d, l, v) = (number_iff p).0 e in
      let (g, s, m) = (continues_iff (length p) (value p) b).0 k in
      (number_iff (p ++ (b ∷ []))).1 (
        digits_append p (b ∷ []) ∙ (and_iff {a = digits p}).1 (d, digits_one b ∙ (and_iff {a = digit b}).1 (g, refl)),
        omega (arith, snoc_length),
        omega (arith, snoc_value),
      )

  pub goes_on : number (p ++ (b ∷ [])) ≡ true → continues (length p) (value p) b ≡ true
  goes_on e =
      let (d, l, v) = (number_iff (p ++ (b ∷ []))).0 e in
      (continues_iff (length p) (value p) b).1 (
        ((and_iff {a = digit b}).0 (sym (digits_one b) ∙ ((and_iff {a = digits p}).0 (sym (digits_append p (b ∷ [])) ∙ d)).1)).0,
        omega (arith, snoc_length),
        omega (arith, snoc_value),
      )

-- a word that has begun with p ends
ends : (p : List ℕ) (others : List (List ℕ)) → number p ≡ true → ended (length p) (value p) (values others) ≡ values (unless_empty (p ++ []) others)
unfolding values
ends [] others e = refl
ends (b ∷ p) others e = rw (append-nil p, e, values)

-- a word that goes on wrong
fails : (p : List ℕ) (b : ℕ) (w : List ℕ) (others : List (List ℕ)) → continues (length p) (value p) b ≡ false → none ≡ values (unless_empty (p ++ (b ∷ w)) others)
unfolding values
fails p b w others k = step p refl
  where
    wrong : number (p ++ (b ∷ w)) ≡ false
    wrong = false_iff.1 (λ e. false_iff.0 k (goes_on p b (number_front (p ++ (b ∷ [])) w (rw append_assoc e))))

    step : (q : List ℕ) → p ≡ q → none ≡ values (unless_empty (q ++ (b ∷ w)) others)
    step [] e = let h : number (b ∷ w) ≡ false = rw e at wrong in rw (h, values)
    step (c ∷ q) e = let h : number (c ∷ (q ++ (b ∷ w))) ≡ false = rw e at wrong in rw (h, values)

scan_from : (p text : List ℕ) → number p ≡ true → scanned (length p) (value p) text ≡ values (unless_empty (p ++ (parted text).word) (parted text).others)
unfolding scanned parted values digits value_from
scan_from p [] e = ends p [] e
scan_from p (b ∷ text) e = step (white b) refl (continues (length p) (value p) b) refl (scan_from [] text refl) (scan_from (p ++ (b ∷ [])) text)
  where
    step : (t : Bool) → white b ≡ t → (k : Bool) → continues (length p) (value p) b ≡ k
        → scanned 0 0 text ≡ values (unless_empty (parted text).word (parted text).others)
        → (number (p ++ (b ∷ [])) ≡ true → scanned (length (p ++ (b ∷ []))) (value (p ++ (b ∷ []))) text ≡ values (unless_empty ((p ++ (b ∷ [])) ++ (parted text).word) (parted text).others))
        → scanned (length p) (value p) (b ∷ text) ≡ values (unless_empty (p ++ (parted (b ∷ text)).word) (parted (b ∷ text)).others)
    step true w k h fresh longer = rw (w, scanned, parted) (ap (ended (length p) (value p)) fresh ∙ ends p (words text) e)
    step false w true h fresh longer =
        rw (w, h, scanned, parted) (
        ap (λ (d : ℕ). scanned d (10 * value p + (b - 48)) text) (sym (snoc_length p b))
        ∙ ap (λ (v : ℕ). scanned (length (p ++ (b ∷ []))) v text) (sym (snoc_value p b))
        ∙ longer (longer_number p b e h)
        ∙ ap (λ (q : List ℕ). values (unless_empty q (parted text).others)) (append_assoc p (b ∷ []) (parted text).word)
        )
    step false w false h fresh longer = rw (w, h, scanned, parted) (fails p b (parted text).word (parted text).others h)

pub scan_words : (text : List ℕ) → scanned 0 0 text ≡ values (words text)
unfolding digits value_from
scan_words text = scan_from [] text refl
