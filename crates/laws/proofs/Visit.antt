-- A walk that marks where it has been: p, f p, f (f p), .. Assumes nothing.
use mathlib.Core.Path.{◌≡◌, sym, ap, ◌∙◌}
use mathlib.Core.Bool.{Bool, true, false, true≢false}
use mathlib.Core.List.{List}
use Prim.Native.Nat.{ℕ, ◌+◌, ◌≤◌, ◌<◌}
use native.Mathlib.Decide.{ℕ_discrete}
use native.Mathlib.Numerals.{add-one}
use native.Mathlib.Omega.{arith}
use lib.ListN.{length, get_or, set}
use lib.Seq.{get_or-set_same, get_or-set_other}
use Rattle.laws.specs.First.{walk, stepped, once}
use Rattle.laws.proofs.Test.{false_iff}
use Rattle.laws.proofs.Walk.{once-walk, stepped-suc}

-- i of n steps are made, each to a place not seen before; the walk is at p, and the places passed are marked
pub record Visited (f : ℕ → ℕ) (start n : ℕ) (seen : List Bool) (p i : ℕ) : Type 0 where
  pub within : i ≤ n
  pub here : p ≡ stepped f start i
  pub new : (j k : ℕ) → j < k → k < i → stepped f start j ≡ stepped f start k → ⊥
  pub marked : (j : ℕ) → j < i → get_or seen (stepped f start j) false ≡ true
  pub only : (q : ℕ) → get_or seen q false ≡ true → (j : ℕ) × (j < i) × (stepped f start j ≡ q)

module _ {f : ℕ → ℕ} {start n : ℕ} {seen : List Bool} where
  pub visits_none : {p : ℕ} → ((q : ℕ) → get_or seen q false ≡ false) → p ≡ start → Visited f start n seen p 0
  unfolding stepped
  visits_none clean e = record {
    within = omega arith;
    here = e;
    new = λ j k l b h. absurd (omega arith);
    marked = λ j l. absurd (omega arith);
    only = λ q h. absurd (true≢false (sym h ∙ clean q));
  }

  module _ {p i : ℕ} (v : Visited f start n seen p i) (l : i < n) where
    pub visits_one : {p' : ℕ} → p < length seen → (get_or seen p false ≡ true → ⊥) → p' ≡ f p → Visited f start n (set seen p true) p' (i + 1)
    visits_one {p'} b fresh e = record {
      within = omega arith;
      here = e ∙ ap f v.here ∙ sym (stepped-suc f start i) ∙ ap (stepped f start) (sym (add-one i));
      new = λ j k u w h. elim (ℕ_discrete k i) [
        | yes z ↦ fresh (ap (λ q. get_or seen q false) (v.here ∙ ap (stepped f start) (sym z) ∙ sym h) ∙ v.marked j (omega arith))
        | no z ↦ v.new j k u (omega arith) h
      ];
      marked = λ j w. elim (ℕ_discrete (stepped f start j) p) [
        | yes z ↦ ap (λ q. get_or (set seen p true) q false) z ∙ get_or-set_same seen p true false b
        | no z ↦ get_or-set_other seen p (stepped f start j) true false z ∙ v.marked j (elim (ℕ_discrete j i) [ yes y ↦ absurd (z (ap (stepped f start) y ∙ sym v.here)) | no y ↦ omega arith ])
      ];
      only = λ q h. elim (ℕ_discrete q p) [
        | yes z ↦ (i, omega arith, sym v.here ∙ sym z)
        | no z ↦ (let (j, w, y) = v.only q (sym (get_or-set_other seen p q true false z) ∙ h) in (j, omega arith, y))
      ];
    }

    -- a place seen before
    pub visits_twice : get_or seen p false ≡ true → once (walk f start n) ≡ false
    visits_twice h = false_iff.1 (λ e. let (j, w, y) = v.only p h in (once-walk f start n).0 e j i w l (y ∙ v.here))

  pub visits_all : {p i : ℕ} → Visited f start n seen p i → n ≤ i → (once (walk f start n) ≡ true) × (p ≡ stepped f start n)
  visits_all {p} {i} v l =
      let e : i ≡ n = (let w = v.within in omega arith) in
      ((once-walk f start n).1 (λ j k u w h. v.new j k u (omega arith) h), v.here ∙ ap (stepped f start) e)
