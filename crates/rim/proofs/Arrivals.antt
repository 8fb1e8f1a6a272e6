-- What waits once sides that are not stuck have come in the first's place. Assumes nothing.
use mathlib.Core.Path.{◌≡◌, sym, ap, ◌∙◌}
use mathlib.Core.Logic.{◌⊎◌, inl, inr}
use mathlib.Core.Bool.{Bool, true}
use mathlib.Core.List.{List}
use Prim.Native.Nat.{ℕ, ◌+◌, ◌<◌}
use native.Mathlib.Omega.{arith}
use lib.Dec.{eqb}
use lib.ListN.{get_or}
use Rattle.laws.proofs.Test.{eqb_iff}
use Rattle.sheet.specs.Office.{Office, apex}
use Rattle.rim.specs.Heap.{Pushed, Sunk, Joined, tally}
use Rattle.rim.proofs.Bag.{tally_first, bit_same, bit_split, bit_apart}

-- a stuck side's third corner is marked
pub stuck_marked : (o : Office) (marks : List ℕ) {b : Bool} {r t : ℕ} → b ≡ eqb (get_or marks (apex o r) 0) 1 → r ≡ t → b ≡ true → get_or marks (apex o t) 0 ≡ 1
stuck_marked o marks e z f = ap (λ q. get_or marks (apex o q) 0) (sym z) ∙ eqb_iff.0 (sym e ∙ f)

-- side t has come in the first's place
module _ {o : Office} {old queue keys : List ℕ} {n t : ℕ} (l : 0 < n) (h : Sunk o old queue keys n t) where
  sunk_stays : (x : ℕ) → 0 < tally x old n → (get_or old 0 0 ≡ x → ⊥) → 0 < tally x queue n
  sunk_stays x w f = let u = h.bag x in let z = bit_apart (get_or old 0 0) x f in omega arith

  sunk_waits : 0 < tally t queue n
  sunk_waits = let u = h.bag t in let w = bit_same t in let v = tally_first t old n l in omega arith

  sunk_only : (x : ℕ) → 0 < tally x queue n → (0 < tally x old n) ⊎ (t ≡ x)
  sunk_only x w = elim (bit_split t x) [ inl z ↦ inr z | inr z ↦ inl (let u = h.bag x in omega arith) ]

module _ {o : Office} {marks old : List ℕ} {n s r : ℕ} (l : 0 < n) where
  pub one_joins : {queue keys : List ℕ} → Sunk o old queue keys n s → get_or marks (apex o r) 0 ≡ 1 → Joined o marks old queue keys n n s r
  one_joins {queue} h b = record {
    heap = h.heap;
    few = omega arith;
    stays = sunk_stays l h;
    one_waits = λ f. sunk_waits l h;
    two_waits = λ f. absurd (f b);
    only = λ x w. elim (sunk_only l h x w) [ inl z ↦ inl z | inr z ↦ inr (inl z) ];
  }

  pub two_joins : {queue keys : List ℕ} → Sunk o old queue keys n r → get_or marks (apex o s) 0 ≡ 1 → Joined o marks old queue keys n n s r
  two_joins h a = record {
    heap = h.heap;
    few = omega arith;
    stays = sunk_stays l h;
    one_waits = λ f. absurd (f a);
    two_waits = λ f. sunk_waits l h;
    only = λ x w. elim (sunk_only l h x w) [ inl z ↦ inl z | inr z ↦ inr (inr z) ];
  }

  pub both_join : {mid queue keys keys' : List ℕ} → Sunk o old mid keys n s → Pushed o mid queue keys' n r → Joined o marks old queue keys' n (n + 1) s r
  both_join {mid} {queue} h p = record {
    heap = p.heap;
    few = omega arith;
    stays = λ x w f. let u = p.bag x in let z = sunk_stays l h x w f in omega arith;
    one_waits = λ f. let u = p.bag s in let z = sunk_waits l h in omega arith;
    two_waits = λ f. let u = p.bag r in let z = bit_same r in omega arith;
    only = λ x w. elim (bit_split r x) [
      | inl z ↦ inr (inr z)
      | inr z ↦ elim (sunk_only l h x (let u = p.bag x in omega arith)) [ inl y ↦ inl y | inr y ↦ inr (inl y) ]
    ];
  }
