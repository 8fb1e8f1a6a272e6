-- Sides chained by the point that they start from: how the chains are made, and going back along one. Assumes nothing.
use mathlib.Core.Path.{◌≡◌, refl, sym, ap, ap₂, subst, ◌∙◌}
use mathlib.Core.Bool.{Bool, true, false, cond, ◌&&◌, ◌||◌}
use mathlib.Core.Logic.{inl, inr}
use mathlib.Core.List.{List}
use Prim.Native.Nat.{ℕ, suc, ◌+◌, ◌*◌, ◌/◌, ◌%◌, ◌<◌, ◌≤◌}
use native.Mathlib.Decide.{ℕ_discrete, dec_lt}
use native.Mathlib.Numerals.{add-one}
use native.Mathlib.Omega.{arith}
use lib.Dec.{ltb}
use lib.ListN.{length, get_or, set, replicate, length-set, length-replicate, get_or-replicate}
use lib.Seq.{get_or-set_same, get_or-set_other}
use borrow.Author.Tests.{eq-eqb, ne_eqb, eqb-true, lt-ltb, le-ltb}
use Rattle.laws.specs.First.{final, any}
use Rattle.laws.proofs.Final.{IsFinal, at, nowhere, final_is, final_hit, final_miss, back_from, back_begins, back_here, back_on, back_none, final-any}
use Rattle.laws.proofs.Test.{and_iff, any_iff, same_answer}
use Rattle.sheet.specs.Office.{bare, next, same_side, double}
use Rattle.sheet.specs.Code.{starts, ends, back_along, Cornered}
use Rattle.sheet.proofs.Side.{same_triangle}

-- the sides below s are chained, in a list of `room` numbers
pub record Chaining (room : ℕ) (corners earlier latest : List ℕ) (s : ℕ) : Type 0 where
  pub within : s ≤ length corners
  pub long_earlier : length earlier ≡ room
  pub long_latest : length latest ≡ 1024
  pub earlier_is : (k : ℕ) → k < s → get_or earlier k 0 ≡ final 65535 (starts corners (get_or corners k 0)) k
  pub latest_is : (p : ℕ) → p < 1024 → get_or latest p 0 ≡ final 65535 (starts corners p) s

pub chains_none : (room : ℕ) (corners : List ℕ) → Chaining room corners (replicate room 65535) (replicate 1024 65535) 0
unfolding final
chains_none room corners = record {
  within = omega arith;
  long_earlier = length-replicate {A = ℕ} room 65535;
  long_latest = length-replicate {A = ℕ} 1024 65535;
  earlier_is = λ k l. absurd (omega arith);
  latest_is = λ p l. get_or-replicate {A = ℕ} 1024 p 65535 0 l;
}

module _ {room : ℕ} {corners earlier latest : List ℕ} {s : ℕ} (h : Chaining room corners earlier latest s) where
  pub chains_one : (p : ℕ) → p ≡ get_or corners s 0 → p < 1024 → s < length corners → length corners ≤ room
      → Chaining room corners (set earlier s (get_or latest p 0)) (set latest p s) (s + 1)
  chains_one p e low l short = record {
    within = omega arith;
    long_earlier = length-set earlier s (get_or latest p 0) ∙ h.long_earlier;
    long_latest = length-set latest p s ∙ h.long_latest;
    earlier_is = λ k m. elim (ℕ_discrete k s) [
      | yes z ↦ subst (λ i. get_or (set earlier s (get_or latest p 0)) i 0 ≡ final 65535 (starts corners (get_or corners i 0)) i) (sym z) (get_or-set_same earlier s (get_or latest p 0) 0 (let w = h.long_earlier in omega arith) ∙ h.latest_is p low ∙ ap (λ q. final 65535 (starts corners q) s) e)
      | no z ↦ get_or-set_other earlier s k (get_or latest p 0) 0 z ∙ h.earlier_is k (omega arith)
    ];
    latest_is = λ q m. elim (ℕ_discrete q p) [
      | yes z ↦ ap (λ i. get_or (set latest p s) i 0) z ∙ get_or-set_same latest p s 0 (let w = h.long_latest in omega arith) ∙ sym (ap (final 65535 (starts corners q)) (add-one s) ∙ final_hit 65535 (starts corners q) s (eq-eqb _ _ (sym e ∙ sym z)))
      | no z ↦ get_or-set_other latest p q s 0 z ∙ h.latest_is q m ∙ sym (ap (final 65535 (starts corners q)) (add-one s) ∙ final_miss 65535 (starts corners q) s (ne_eqb _ _ (λ w. z (sym w ∙ sym e))))
    ];
  }

-- of the sides from the point where side r starts, up to r, the latest that passes the test
abbrev pub along : List ℕ → (ℕ → Bool) → ℕ → ℕ
along corners B r = back_from 65535 (starts corners (get_or corners r 0)) B r

-- where going back from `begun`, below n, has come to r
pub record Back (corners : List ℕ) (n : ℕ) (B : ℕ → Bool) (begun r : ℕ) : Type 0 where
  pub left : along corners B begun ≡ back_from 65535 (starts corners (get_or corners begun 0)) B r
  pub there : r < 65535 → r < n
  pub from : r < 65535 → starts corners (get_or corners begun 0) r ≡ true

-- how far it has still to go
abbrev pub rank : ℕ → ℕ
rank r = cond (ltb r 65535) (suc r) 0

module _ {corners : List ℕ} {n : ℕ} {B : ℕ → Bool} {begun : ℕ} where
  pub back_starts : (begun < 65535 → begun < n) → Back corners n B begun begun
  back_starts h = record { left = refl; there = h; from = λ l. eq-eqb (get_or corners begun 0) (get_or corners begun 0) refl }

  module _ {r : ℕ} (b : Back corners n B begun r) where
    abbrev A : ℕ → Bool
    A = starts corners (get_or corners begun 0)

    pub back_found : r < 65535 → B r ≡ true → r ≡ along corners B begun
    back_found l e = sym (b.left ∙ back_here 65535 A B r l (b.from l) e)

    same_start : r < 65535 → get_or corners r 0 ≡ get_or corners begun 0
    same_start l = eqb-true _ _ (b.from l)

    pub back_goes : {r' : ℕ} → r < 65535 → B r ≡ false → r' ≡ final 65535 (starts corners (get_or corners r 0)) r → Back corners n B begun r'
    back_goes {r'} l f e =
        let z : r' ≡ final 65535 A r = e ∙ ap (λ p. final 65535 (starts corners p) r) (same_start l) in
        record {
          left = b.left ∙ back_on 65535 A B r l (b.from l) f ∙ ap (back_from 65535 A B) (sym z);
          there = λ m. (let (i, t) = hit z m in let w = b.there l in omega arith);
          from = λ m. (hit z m).1;
        }
      where
        hit : {q : ℕ} → q ≡ final 65535 A r → q < 65535 → (q < r) × (A q ≡ true)
        hit {q} z m = step (final_is 65535 A r) z
          where
            step : {f : ℕ} → IsFinal 65535 A r f → q ≡ f → (q < r) × (A q ≡ true)
            step (at i t g) w = (omega arith, ap A w ∙ t)
            step (nowhere i g) w = absurd (omega arith)

    pub back_falls : {r' : ℕ} → r < 65535 → r' ≡ final 65535 (starts corners (get_or corners r 0)) r → rank r' < rank r
    back_falls {r'} l e = rw (lt-ltb r 65535 l) (step (final_is 65535 (starts corners (get_or corners r 0)) r) e)
      where
        step : {f : ℕ} → IsFinal 65535 (starts corners (get_or corners r 0)) r f → r' ≡ f → rank r' < suc r
        step (at i t g) w = rw (lt-ltb r' 65535 (omega arith)) (omega arith)
        step (nowhere i g) w = rw (le-ltb r' 65535 (omega arith)) (omega arith)

    pub back_ends : 65535 ≤ r → 65535 ≡ along corners B begun
    back_ends l = sym (b.left ∙ back_none 65535 A B r l)

-- going back from the latest side below n that starts at p
module _ (corners : List ℕ) (p n begun : ℕ) (is : begun ≡ final 65535 (starts corners p) n) (few : n ≤ 6129) where
  pub latest_there : begun < 65535 → begun < n
  latest_there l = step (final_is 65535 (starts corners p) n) is
    where
      step : {f : ℕ} → IsFinal 65535 (starts corners p) n f → begun ≡ f → begun < n
      step (at i t g) w = omega arith
      step (nowhere i g) w = absurd (omega arith)

  pub latest_back : (B : ℕ → Bool) → along corners B begun ≡ final 65535 (λ r. starts corners p r && B r) n
  latest_back B = step (final_is 65535 (starts corners p) n) is ∙ sym (back_begins 65535 (starts corners p) B n (omega arith) ∙ ap (back_from 65535 (starts corners p) B) (sym is))
    where
      step : {f : ℕ} → IsFinal 65535 (starts corners p) n f → begun ≡ f → along corners B begun ≡ back_from 65535 (starts corners p) B begun
      step (at i t g) w = ap (λ q. back_from 65535 (starts corners q) B begun) (ap (λ k. get_or corners k 0) w ∙ eqb-true _ _ t)
      step (nowhere i g) w = let z : 65535 ≤ begun = omega arith in rw (le-ltb begun 65535 z)

-- an earlier side that runs as side s does
module _ (corners : List ℕ) (s begun : ℕ) (l : s < length corners) (few : length corners ≤ 6129) (is : begun ≡ final 65535 (starts corners (get_or corners s 0)) s) where
  pub repeated_is : ltb (back_along corners (get_or corners (next s) 0) begun) 65535 ≡ any (same_side (bare corners) s) s
  repeated_is =
      ap (λ r. ltb r 65535) (latest_back corners (get_or corners s 0) s begun is (omega arith) (ends corners (get_or corners (next s) 0)))
      ∙ final-any 65535 (same_side (bare corners) s) s (omega arith)

-- two sides of one triangle do not start alike, so that earlier side stands in an earlier triangle
pub repeated_below : (corners : List ℕ) → Cornered corners → length corners % 3 ≡ 0 → (s t : ℕ) → s / 3 ≡ t → s < length corners
    → any (same_side (bare corners) s) s ≡ any (same_side (bare corners) s) (t * 3)
repeated_below corners three whole s t e l = same_answer
    (λ h. let (r, b, u) = any_iff.0 h in any_iff.1 (r, below r b (eqb-true _ _ (and_iff.0 u).0), u))
    (λ h. let (r, b, u) = any_iff.0 h in any_iff.1 (r, omega arith, u))
  where
    below : (r : ℕ) → r < s → get_or corners r 0 ≡ get_or corners s 0 → r < t * 3
    below r b x = elim (dec_lt r (t * 3)) [
      | yes m ↦ m
      | no f ↦ absurd (elim (same_triangle s r (omega arith)) [
        | inl i ↦ omega arith
        | inr (inl i) ↦ three s l (sym x ∙ ap (λ k. get_or corners k 0) i)
        | inr (inr i) ↦ three r (omega arith) (x ∙ ap (λ k. get_or corners k 0) (omega arith))
      ])
    ]

pub double_is : (corners : List ℕ) → Cornered corners → length corners % 3 ≡ 0 → (t : ℕ) → t < length corners / 3 → {a b c : Bool}
    → a ≡ any (same_side (bare corners) (t * 3)) (t * 3) → b ≡ any (same_side (bare corners) (t * 3 + 1)) (t * 3 + 1) → c ≡ any (same_side (bare corners) (t * 3 + 2)) (t * 3 + 2)
    → (a || b || c) ≡ double (bare corners) t
double_is corners three whole t l x y z =
    ap₂ ◌||◌ (ap₂ ◌||◌ x (y ∙ repeated_below corners three whole (t * 3 + 1) t (omega arith) (omega arith))) (z ∙ repeated_below corners three whole (t * 3 + 2) t (omega arith) (omega arith))
