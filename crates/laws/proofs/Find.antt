-- What the library's searches over a range or a list find, in the words of `first`, `any` and `lowest`. Assumes nothing.
use Rattle.std.proofs.Common.{◌≡◌, ℕ, ◌≤◌, ◌<◌, Bool, true, false, cond, ◌&&◌, List, [], ◌∷◌, length, get_or, Option, Some, None, refl, sym, ap, ◌∙◌, subst, arith}
use Rattle.std.specs.declared.ops.Range.{Range}
use Rattle.std.specs.Bool.{⊤, MatchBool}
use Rattle.std.specs.Option.{MatchOption, unwrap_or, option_or}
use Rattle.std.specs.Fn.{Called, CalledAt}
use Rattle.std.specs.Iterator.{YieldsThen}
use Rattle.std.specs.List.{range_with_len, fold, list_all, FoldsTo, AllWithin, HoldsAt}
use Rattle.std.specs.Slice.Iter.{iter_rest}
use Rattle.std.proofs.iter.Yields.{nat_range_steps, fronts}
use Rattle.std.proofs.lemmas.Iterator.{YieldsList-from_range, YieldsList-from_slice, cases_from_any, IsFirst-from_position, first_from_Range}
use Rattle.std.proofs.lemmas.List.Folds.{fold_stays}
use Rattle.std.proofs.lemmas.List.FromFn.{length-range_with_len, get_or-range_with_len}
use Rattle.std.specs.declared.slice.Iter.{Iter}
use mathlib.Core.Bool.{true≢false}
use denote.Ref.{Bor}
use denote.Param.Members.{Mut}
use borrow.Author.Tests.{lt-ltb, le-ltb, ltb-true}
use Rattle.laws.specs.First.{first, any, lowest, at_first}
use Rattle.laws.proofs.Search.{Clear, first_hit, first-none, first_is}
use Rattle.laws.proofs.Test.{any_iff, false_iff}

module _ (test : ℕ → Bool) (n : ℕ) where
  any_hit : (i : ℕ) → i < n → Clear test i → test i ≡ true → any test n ≡ true
  any_hit i l c e = rw (first_hit test n i l c e) (lt-ltb i n l)

  any_none : Clear test n → any test n ≡ false
  any_none c = rw (first-none test n c) (le-ltb n n (omega arith))

  -- the first hit, or none
  pub lowest_hit : (i : ℕ) → i < n → Clear test i → test i ≡ true → Some i ≡ lowest test n
  lowest_hit i l c e = rw (any_hit i l c e, first_hit test n i l c e) refl

  pub lowest_none : Clear test n → None ≡ lowest test n
  lowest_none c = rw (any_none c) refl

  pub first_of_lowest : unwrap_or (lowest test n) n ≡ first test n
  first_of_lowest = cases (any test n) refl
    where
      cases : (b : Bool) → any test n ≡ b → unwrap_or (cond b (Some (first test n)) None) n ≡ first test n
      cases true e = refl
      cases false e = sym (first-none test n (λ k l. false_iff.1 (λ t. true≢false (sym (any_iff.1 (k, l, t)) ∙ e))))

  by_option : (r : Option ℕ) → MatchOption r ((k : ℕ) → 0 ≤ k → k < n → test k ≡ false) (λ i. (0 ≤ i) × (i < n) × (test i ≡ true) × ((k : ℕ) → 0 ≤ k → k < i → test k ≡ false)) → r ≡ lowest test n
  by_option None h = lowest_none (λ k l. h k (omega arith) l)
  by_option (Some i) h = lowest_hit i h.1 (λ k l. h.3 k (omega arith) l) h.2

  -- the search may end where a hit is known
  pub lowest_or : (b : ℕ) → b < n → test b ≡ true → option_or (lowest test b) (Some b) ≡ lowest test n
  lowest_or b l e = by (any test b) refl
    where
      by : (a : Bool) → any test b ≡ a → option_or (cond a (Some (first test b)) None) (Some b) ≡ lowest test n
      by true h =
          let f = first_is test b in
          let i : first test b < b = ltb-true (first test b) b h in
          lowest_hit (first test b) (omega arith) f.clear (f.hit i)
      by false h = lowest_hit b l (λ k kl. false_iff.1 (λ t. false_iff.0 h (any_iff.1 (k, kl, t)))) e

  -- `(0..n).find(..)`
  pub lowest_from_find : {F : Type 0} {g : Mut F (Bor ℕ × Unit {0}) Bool} (u : Range ℕ) {f : F} {r : Option ℕ}
      → (xs : List ℕ) × (j : F) × YieldsThen nat_range_steps (record { start = 0; end = n }) xs r u × FoldsTo (λ p x q. CalledAt g p x false q) f xs j × MatchOption r ⊤ (λ x. (h : F) × CalledAt g j x true h)
      → ((x : ℕ) (q : F) → CalledAt g f x true q → test x ≡ true) → ((x : ℕ) (q : F) → CalledAt g f x false q → (q ≡ f) × (test x ≡ false)) → r ≡ lowest test n
  lowest_from_find u {f = f} {r = r} ran hit miss = by_option r (first_from_Range (record { start = 0; end = n }) u f r (λ i. test i ≡ true) (λ i. test i ≡ false) ran hit miss)

  at : (P : ℕ → Type 0) (k : ℕ) → k < n → P (get_or (range_with_len 0 n) k 0) → P k
  at P k l h = subst P {x = get_or (range_with_len 0 n) k 0} {y = k} (omega (arith, get_or-range_with_len 0 n k 0 l)) h

  by_bool : (r : Bool) → MatchBool r ((k : ℕ) × (k < length (range_with_len 0 n)) × HoldsAt (λ i. test i ≡ true) (range_with_len 0 n) k) (AllWithin (λ i. test i ≡ false) (range_with_len 0 n) 0 (length (range_with_len 0 n))) → r ≡ any test n
  by_bool true h =
      let l : h.0 < n = omega (arith, h.1, length-range_with_len 0 n) in
      sym (any_iff.1 (h.0, l, at (λ k. test k ≡ true) h.0 l (h.2 0)))
  by_bool false h = sym (any_none (λ k l. at (λ k. test k ≡ false) k l (h k 0 (omega arith) (omega (arith, l, length-range_with_len 0 n)))))

  -- `(0..n).any(..)`
  pub any_from_any : {F : Type 0} {g : Mut F (ℕ × Unit {0}) Bool} (u : Range ℕ) {f : F} {r : Bool}
      → (xs : List ℕ) × (o : Option ℕ) × (j : F) × YieldsThen nat_range_steps (record { start = 0; end = n }) xs o u × FoldsTo (λ p x q. Called g p (x, tt) false q) f xs j × MatchOption o (r ≡ false) (λ x. (r ≡ true) × ((h : F) × Called g j (x, tt) true h))
      → ((x : ℕ) (q : F) → Called g f (x, tt) true q → test x ≡ true) → ((x : ℕ) (q : F) → Called g f (x, tt) false q → (q ≡ f) × (test x ≡ false)) → r ≡ any test n
  any_from_any u {f = f} {r = r} ran hit miss = by_bool r (cases_from_any u f r (λ i. test i ≡ true) (λ i. test i ≡ false) ran (YieldsList-from_range 0 n n refl (omega arith)) hit miss)

-- an answer that goes by where the first hit is, as a callee found it
module _ {A : Type 0} (test : ℕ → Bool) (n : ℕ) (found : ℕ → A) (other : A) where
  by_lowest : (b : Bool) → any test n ≡ b → (r : Option ℕ) → r ≡ cond b (Some (first test n)) None → at_first test n found other ≡ elim r [ Some i ↦ found i | None ↦ other ]
  unfolding at_first
  by_lowest true e (Some i) h = let f : first test n ≡ i = cc in rw e (ap found f)
  by_lowest true e None h = absurd cc
  by_lowest false e (Some i) h = absurd cc
  by_lowest false e None h = rw e refl

  pub at_some : {r : Option ℕ} {i : ℕ} {x : A} → r ≡ lowest test n → r ≡ Some i → x ≡ found i → x ≡ at_first test n found other
  at_some {r} {i} {x} h e f = f ∙ sym (by_lowest (any test n) refl (Some i) (sym e ∙ h))

  pub at_nowhere : {r : Option ℕ} {x : A} → r ≡ lowest test n → r ≡ None → x ≡ other → x ≡ at_first test n found other
  at_nowhere {r} {x} h e f = f ∙ sym (by_lowest (any test n) refl None (sym e ∙ h))

-- a search that finds nothing says so of each place
pub nowhere_first : (test : ℕ → Bool) (n : ℕ) {r : Option ℕ} → r ≡ lowest test n → r ≡ None → n ≡ first test n
nowhere_first test n {r} h e = ap (λ r. unwrap_or r n) (sym e ∙ h) ∙ first_of_lowest test n

-- what a `(0..n).any(..)` and a `(0..n).find(..)` that finds nothing say of each number below n
module _ (P : ℕ → Type 0) (n : ℕ) where
  each : AllWithin P (range_with_len 0 n) 0 (length (range_with_len 0 n)) → (k : ℕ) → k < n → P k
  each h k l = subst P {x = get_or (range_with_len 0 n) k 0} {y = k} (omega (arith, get_or-range_with_len 0 n k 0 l)) (h k 0 (omega arith) (omega (arith, l, length-range_with_len 0 n)))

  by_any : (r : Bool) → MatchBool r ((k : ℕ) × (k < length (range_with_len 0 n)) × HoldsAt (λ x. Unit {0}) (range_with_len 0 n) k) (AllWithin P (range_with_len 0 n) 0 (length (range_with_len 0 n))) → r ≡ false → (k : ℕ) → k < n → P k
  by_any true h e = absurd (true≢false e)
  by_any false h e = each h

  pub each_from_any : {F : Type 0} {g : Mut F (ℕ × Unit {0}) Bool} (u : Range ℕ) {f : F} {r : Bool}
      → (xs : List ℕ) × (o : Option ℕ) × (j : F) × YieldsThen nat_range_steps (record { start = 0; end = n }) xs o u × FoldsTo (λ p x q. Called g p (x, tt) false q) f xs j × MatchOption o (r ≡ false) (λ x. (r ≡ true) × ((h : F) × Called g j (x, tt) true h))
      → ((x : ℕ) (q : F) → Called g f (x, tt) false q → (q ≡ f) × P x) → r ≡ false → (k : ℕ) → k < n → P k
  each_from_any u {f = f} {r = r} ran miss = by_any r (cases_from_any u f r (λ x. Unit {0}) P ran (YieldsList-from_range 0 n n refl (omega arith)) (λ x q k. tt) miss)

  by_find : (r : Option ℕ) → MatchOption r ((k : ℕ) → 0 ≤ k → k < n → P k) (λ i. (0 ≤ i) × (i < n) × Unit {0} × ((k : ℕ) → 0 ≤ k → k < i → P k)) → r ≡ None → (k : ℕ) → k < n → P k
  by_find None h e = λ k l. h k (omega arith) l
  by_find (Some i) h e = absurd cc

  pub each_from_find : {F : Type 0} {g : Mut F (Bor ℕ × Unit {0}) Bool} (u : Range ℕ) {f : F} {r : Option ℕ}
      → (xs : List ℕ) × (j : F) × YieldsThen nat_range_steps (record { start = 0; end = n }) xs r u × FoldsTo (λ p x q. CalledAt g p x false q) f xs j × MatchOption r ⊤ (λ x. (h : F) × CalledAt g j x true h)
      → ((x : ℕ) (q : F) → CalledAt g f x false q → (q ≡ f) × P x) → r ≡ None → (k : ℕ) → k < n → P k
  each_from_find u {f = f} {r = r} ran miss = by_find r (first_from_Range (record { start = 0; end = n }) u f r (λ x. Unit {0}) P ran (λ x q k. tt) miss)

-- tests that agree below n
module _ {f g : ℕ → Bool} {n : ℕ} (same : (k : ℕ) → k < n → f k ≡ g k) where
  pub any_same : any f n ≡ any g n
  any_same = by (any f n) refl
    where
      by : (b : Bool) → any f n ≡ b → any f n ≡ any g n
      by true e = let h = any_iff.0 e in e ∙ sym (any_iff.1 (h.0, h.1, sym (same h.0 h.1) ∙ h.2))
      by false e = e ∙ sym (false_iff.1 (λ t. let h = any_iff.0 t in false_iff.0 e (any_iff.1 (h.0, h.1, same h.0 h.1 ∙ h.2))))

-- `xs.iter().position(..)`, which asks each element
module _ {A : Type 0} (xs : List A) (d : A) (here : A → Bool) (test : ℕ → Bool) (same : (k : ℕ) → k < length xs → here (get_or xs k d) ≡ test k) where
  by_place : (r : Option ℕ) → MatchOption r (AllWithin (λ x. here x ≡ false) xs 0 (length xs)) (λ i. (i < length xs) × HoldsAt (λ x. here x ≡ true) xs i × AllWithin (λ x. here x ≡ false) xs 0 i) → r ≡ lowest test (length xs)
  by_place None h = lowest_none test (length xs) (λ k l. sym (same k l) ∙ h k d (omega arith) l)
  by_place (Some i) h = lowest_hit test (length xs) i h.0 (λ k l. sym (same k (omega (arith, l, h.0))) ∙ h.2 k d (omega arith) l) (sym (same i h.0) ∙ h.1 d)

  pub lowest_from_position : {F : Type 0} {g : Mut F (Bor A × Unit {0}) Bool} {s : Iter A} (u : Iter A) {f : F} {r : Option ℕ} → iter_rest s ≡ xs
      → (ys : List (Bor A)) × (o : Option (Bor A)) × (j : F) × YieldsThen fronts s ys o u × FoldsTo (λ p x q. Called g p (x, tt) false q) f ys j × MatchOption o (r ≡ None) (λ x. (r ≡ Some (length ys)) × ((h : F) × Called g j (x, tt) true h))
      → ((x : Bor A) (q : F) → Called g f (x, tt) true q → here x.now ≡ true) → ((x : Bor A) (q : F) → Called g f (x, tt) false q → (q ≡ f) × (here x.now ≡ false)) → r ≡ lowest test (length xs)
  lowest_from_position u {f = f} {r = r} e ran hit miss = by_place r (IsFirst-from_position u f r (λ x. here x ≡ true) (λ x. here x ≡ false) ran (YieldsList-from_slice xs e) hit miss)

-- whether all pass, asked of each of them
pub all_from_fold : {A : Type 0} (p : A → Bool) (xs : List A) → fold (λ a x. a && p x) true xs ≡ list_all p xs
all_from_fold p [] = refl
all_from_fold p (x ∷ xs) = go (p x) (all_from_fold p xs)
  where
    go : (b : Bool) → fold (λ a y. a && p y) true xs ≡ list_all p xs → fold (λ a y. a && p y) b xs ≡ (b && list_all p xs)
    go true e = e
    go false e = fold_stays (λ a y. a && p y) false (λ y. refl) xs
