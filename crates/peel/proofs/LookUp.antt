-- Looking a limit up: the place tells what stands before it and at it; in a falling list, halving finds it. Assumes nothing.
use mathlib.Core.Path.{◌≡◌, refl, sym, ◌∙◌}
use mathlib.Core.Bool.{Bool, true, false, cond}
use mathlib.Core.List.{List}
use Prim.Native.Nat.{ℕ, zero, suc, ◌+◌, ◌-◌, ◌/◌, ◌<◌, ◌≤◌}
use native.Mathlib.Decide.{dec_lt}
use native.Mathlib.Omega.{arith}
use borrow.Author.Rules.{rules}
use borrow.Author.Tests.{le-leb, lt-leb, leb-true, leb-false, ltb-true, ltb-false}
use lib.Dec.{leb, ltb}
use lib.ListN.{length, get_or}
use Rattle.laws.proofs.Search.{first_is, first_hit, first-none}
use Rattle.peel.specs.LookUp.{place_of, Falling, halved}

-- what the place of a limit says
pub record Place (limits : List ℕ) (limit i : ℕ) : Type 0 where
  pub within : i ≤ length limits
  pub above : (j : ℕ) → j < i → limit < get_or limits j 0
  pub not_above : i < length limits → get_or limits i 0 ≤ limit

module _ (limits : List ℕ) (limit : ℕ) where
  pub place_is : Place limits limit (place_of limits limit)
  unfolding place_of
  place_is =
      let f = first_is (λ i. leb (get_or limits i 0) limit) (length limits) in
      record { within = f.within; above = λ j l. leb-false _ _ (f.clear j l); not_above = λ l. leb-true _ _ (f.hit l) }

  -- and only that place does
  pub is_place : {i : ℕ} → Place limits limit i → i ≡ place_of limits limit
  unfolding place_of
  is_place {i} h = elim (dec_lt i (length limits)) [
    | yes l ↦ sym (first_hit test (length limits) i l (λ j b. lt-leb _ _ (h.above j b)) (le-leb _ _ (h.not_above l)))
    | no f ↦ (let w = h.within in let e : i ≡ length limits = omega arith in e ∙ sym (first-none test (length limits) (λ j b. lt-leb _ _ (h.above j (omega arith)))))
  ]
    where
      test : ℕ → Bool
      test i = leb (get_or limits i 0) limit

-- a search by halving has come to the places from low on, below high or at it
pub record Halving (limits : List ℕ) (limit low high : ℕ) : Type 0 where
  pub ordered : low ≤ high
  pub within : high ≤ length limits
  pub above : (j : ℕ) → j < low → limit < get_or limits j 0
  pub not_above : high < length limits → get_or limits high 0 ≤ limit

module _ {limits : List ℕ} {limit : ℕ} where
  pub halving_starts : Halving limits limit 0 (length limits)
  halving_starts = record { ordered = omega arith; within = omega arith; above = λ j l. absurd (omega arith); not_above = λ l. absurd (omega arith) }

  -- a turn that looks at place mid: its number is above the limit, or not
  module _ {low high mid : ℕ} (h : Halving limits limit low high) (b : low ≤ mid) (l : mid < high) where
    pub halving_up : Falling limits → limit < get_or limits mid 0 → Halving limits limit (mid + 1) high
    halving_up f e = record {
      ordered = omega arith;
      within = h.within;
      above = λ j d. elim (dec_lt j mid) [
        | yes x ↦ (let y = f j mid x (let w = h.within in omega arith) in omega arith)
        | no x ↦ (let z : mid ≡ j = omega arith in rw (← z) e)
      ];
      not_above = h.not_above;
    }

    pub halving_down : get_or limits mid 0 ≤ limit → Halving limits limit low mid
    halving_down e = record { ordered = b; within = (let w = h.within in omega arith); above = h.above; not_above = λ _. e }

  pub halving_ends : {low high : ℕ} → Halving limits limit low high → high ≤ low → low ≡ place_of limits limit
  halving_ends {low} {high} h l =
      let o = h.ordered in
      let e : low ≡ high = omega arith in
      is_place limits limit (record { within = (let w = h.within in omega arith); above = h.above; not_above = rw e h.not_above })

-- what answers the needs of such a loop
pub ruleset halving = (halving_starts, halving_up, halving_down, halving_ends, rules)

-- halving, with turns enough
module _ (limits : List ℕ) (limit : ℕ) (f : Falling limits) where
  abbrev Finds : ℕ → Type 0
  Finds n = (low high : ℕ) → high - low ≤ n → Halving limits limit low high → halved n limits limit low high ≡ place_of limits limit

  finds : (n : ℕ) → Finds n
  unfolding halved
  finds zero low high l h = halving_ends h (omega arith)
  finds (suc n) low high l h = step (ltb low high) refl (finds n)
    where
      mid : ℕ
      mid = (low + high) / 2

      at : (b : Bool) → leb (get_or limits mid 0) limit ≡ b → low < high → Finds n → cond b (halved n limits limit low mid) (halved n limits limit (mid + 1) high) ≡ place_of limits limit
      at true d m ih = ih low mid (omega arith) (halving_down h (omega arith) (omega arith) (leb-true _ _ d))
      at false d m ih = ih (mid + 1) high (omega arith) (halving_up h (omega arith) (omega arith) f (leb-false _ _ d))

      step : (b : Bool) → ltb low high ≡ b → Finds n → cond b (cond (leb (get_or limits mid 0) limit) (halved n limits limit low mid) (halved n limits limit (mid + 1) high)) low ≡ place_of limits limit
      step true e ih = at (leb (get_or limits mid 0) limit) refl (ltb-true low high e) ih
      step false e ih = halving_ends h (ltb-false low high e)

  pub halving_finds : halved (length limits) limits limit 0 (length limits) ≡ place_of limits limit
  halving_finds = finds (length limits) 0 (length limits) (omega arith) halving_starts
