-- Gathering the rim: side after side, those on it are put into the queue. Assumes nothing.
use mathlib.Core.Path.{◌≡◌, refl, sym, ap, subst, ◌∙◌}
use mathlib.Core.Logic.{◌↔◌, ◌⊎◌, inl, inr}
use mathlib.Core.Bool.{Bool, true, false}
use mathlib.Core.List.{List}
use Prim.Native.Nat.{ℕ, zero, suc, ◌+◌, ◌<◌, ◌≤◌}
use native.Mathlib.Decide.{ℕ_discrete}
use native.Mathlib.Omega.{arith}
use lib.ListN.{length}
use Rattle.laws.specs.First.{count}
use Rattle.laws.proofs.Test.{false_iff}
use Rattle.laws.proofs.Counting.{count_last}
use Rattle.sheet.specs.Office.{Office, sides, office, bare}
use Rattle.rim.specs.Peel.{mark, rim, rims}
use Rattle.rim.specs.Heap.{Heap, Pushed, Queued, bit, tally}
use Rattle.rim.proofs.Bag.{tally_none, bit_same, bit_split}
use Rattle.rim.proofs.Marks.{rim_iff, removable_iff}
use Rattle.rim.proofs.Mated.{rim_bare}

count_below : (test : ℕ → Bool) (t n : ℕ) → t ≤ n → count test t ≤ count test n
unfolding count
count_below test zero n l = omega arith
count_below test (suc t) zero l = absurd (omega arith)
count_below test (suc t) (suc n) l = step (test zero) (count_below (λ i. test (suc i)) t n (omega arith))
  where
    step : {a b : ℕ} (c : Bool) → a ≤ b → elim c [ true ↦ suc a | false ↦ a ] ≤ elim c [ true ↦ suc b | false ↦ b ]
    step true h = let u = h in omega arith
    step false h = h

-- the rim sides below s are in the queue
pub record Gathering (o : Office) (k queue keys : List ℕ) (n s : ℕ) : Type 0 where
  pub within : s ≤ sides o
  pub heap : Heap o queue keys n
  pub many : n ≡ count (rim o k) s
  pub stock : (r : ℕ) → (0 < tally r queue n) ↔ ((r < s) × (rim o k r ≡ true))

pub gather_begins : (o : Office) (k queue keys : List ℕ) → (length queue ≡ 1024) × (length keys ≡ 1024) → Gathering o k queue keys 0 0
unfolding count
gather_begins o k queue keys z = record {
  within = omega arith;
  heap = record { size = z; known = λ i l. absurd (omega arith); measured = λ i l. absurd (omega arith); order = λ i l m. absurd (omega arith) };
  many = refl;
  stock = λ r. ((λ l. absurd (let e = tally_none r queue in omega arith)), (λ h. absurd (let l = h.0 in omega arith)));
}

module _ (xs ys corners k queue keys : List ℕ) (n s : ℕ) (g : Gathering (office xs ys corners) k queue keys n s) where
  abbrev o : Office
  o = office xs ys corners

  pub gathered : sides o ≤ s → Queued o k queue keys n
  gathered l =
      let e : s ≡ sides o = (let h = g.within in omega arith) in
      record {
        heap = g.heap;
        few = (let u = g.many in let w = ap (count (rim o k)) e in omega arith);
        all = λ r b t. (g.stock r).1 (omega arith, (rim_iff o k r).1 ((removable_iff o k r).0 t).0);
        on = λ r w f. ((g.stock r).0 w).1;
      }

  module _ (l : s < sides o) {b : Bool} (is : b ≡ rim (bare corners) k s) where
    rim_is : (c : Bool) → b ≡ c → rim o k s ≡ c
    rim_is c e = sym (rim_bare xs ys corners k s) ∙ sym is ∙ e

    pub skips : b ≡ false → Gathering o k queue keys n (s + 1)
    skips e = record {
      within = omega arith;
      heap = g.heap;
      many = g.many ∙ (let u = count_last (rim o k) s in let v = ap mark (rim_is false e) in let w : count (rim o k) (suc s) ≡ count (rim o k) (s + 1) = ap (count (rim o k)) (omega arith) in omega arith);
      stock = λ r. ((λ h. let (c, t) = (g.stock r).0 h in (omega arith, t)), (λ h. (g.stock r).1 (older r h.0 h.1 (ℕ_discrete r s), h.1)));
    }
      where
        older : (r : ℕ) → r < s + 1 → rim o k r ≡ true → Dec (r ≡ s) → r < s
        older r c t (yes z) = absurd (false_iff.0 (rim_is false e) (rw z at t))
        older r c t (no f) = omega arith

    module _ (e : b ≡ true) where
      more : count (rim o k) (s + 1) ≡ n + 1
      more = let u = count_last (rim o k) s in let v = ap mark (rim_is true e) in let w : count (rim o k) (suc s) ≡ count (rim o k) (s + 1) = ap (count (rim o k)) (omega arith) in let h = g.many in omega arith

      pub takes_fits : rims o k ≤ 1024 → n < 1024
      takes_fits m = let u = count_below (rim o k) (s + 1) (sides o) (omega arith) in let w = more in omega arith

      pub takes : {queue' keys' : List ℕ} → Pushed o queue queue' keys' n s → Gathering o k queue' keys' (n + 1) (s + 1)
      takes {queue'} p = record {
        within = omega arith;
        heap = p.heap;
        many = sym more;
        stock = λ r. (into r (bit_split s r), λ h. out r h.0 h.1 (ℕ_discrete r s));
      }
        where
          into : (r : ℕ) → (s ≡ r) ⊎ (bit s r ≡ 0) → 0 < tally r queue' (n + 1) → (r < s + 1) × (rim o k r ≡ true)
          into r (inl z) h = (omega arith, subst (λ t. rim o k t ≡ true) z (rim_is true e))
          into r (inr z) h = let (c, t) = (g.stock r).0 (let u = p.bag r in omega arith) in (omega arith, t)

          out : (r : ℕ) → r < s + 1 → rim o k r ≡ true → Dec (r ≡ s) → 0 < tally r queue' (n + 1)
          out r c t (yes z) = let u = p.bag r in let v = ap (bit s) z ∙ bit_same s in omega arith
          out r c t (no f) = let u = p.bag r in let v = (g.stock r).1 (omega arith, t) in omega arith
