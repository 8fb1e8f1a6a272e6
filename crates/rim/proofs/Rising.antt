-- A push: the place for the new side rises from the end, and what stood above it moves down. Assumes nothing.
use mathlib.Core.Path.{◌≡◌, ap, ◌∙◌}
use mathlib.Core.List.{List}
use Prim.Native.Nat.{ℕ, ◌+◌, ◌<◌, ◌≤◌}
use native.Mathlib.Decide.{ℕ_discrete}
use native.Mathlib.Omega.{arith}
use lib.ListN.{length, get_or, set, length-set}
use lib.Seq.{get_or-set_other}
use Rattle.sheet.specs.Office.{Office, sides}
use Rattle.rim.specs.Heap.{Heap, Pushed, rank, key, rank_at, above, bit, tally}
use Rattle.rim.proofs.Bag.{tally_more, tally_set}
use Rattle.rim.proofs.Stored.{key_here, key_there, known_set, measured_set}

-- side s is to go to place i or above; what stands at i is of no account
pub record Rising (o : Office) (old queue keys : List ℕ) (n s i : ℕ) : Type 0 where
  pub size : (length queue ≡ 1024) × (length keys ≡ 1024)
  pub room : n < 1024
  pub place : i ≤ n
  pub is_side : s < sides o
  pub known : (j : ℕ) → j < n + 1 → (j ≡ i → ⊥) → get_or queue j 0 < sides o
  pub measured : (j : ℕ) → j < n + 1 → (j ≡ i → ⊥) → get_or keys j 0 ≡ key o (get_or queue j 0)
  pub order : (j : ℕ) → 0 < j → j ≤ n → (j ≡ i → ⊥) → (above j ≡ i → ⊥) → rank_at o queue j ≤ rank_at o queue (above j)
  pub under : (j : ℕ) → 0 < j → j ≤ n → above j ≡ i → rank_at o queue j ≤ rank o s
  pub around : (j : ℕ) → 0 < j → j ≤ n → above j ≡ i → 0 < i → rank_at o queue j ≤ rank_at o queue (above i)
  pub bag : (x : ℕ) → tally x queue (n + 1) ≡ tally x old n + bit (get_or queue i 0) x

pub rise_begins : {o : Office} {old keys : List ℕ} {n s : ℕ} → n < 1024 → s < sides o → Heap o old keys n → Rising o old old keys n s n
rise_begins {old = old} {n = n} l b h = record {
  size = h.size;
  room = l;
  place = omega arith;
  is_side = b;
  known = λ j m f. h.known j (omega arith);
  measured = λ j m f. h.measured j (omega arith);
  order = λ j z m f g. h.order j z (omega arith);
  under = λ j z m e. absurd (omega arith);
  around = λ j z m e. absurd (omega arith);
  bag = λ x. tally_more x old n;
}

module _ {o : Office} {old queue keys : List ℕ} {n s i : ℕ} (r : Rising o old queue keys n s i) where
  inside : i < length queue
  inside = let h = r.place in let u = r.room in let z = r.size.0 in omega arith

  inside_keys : i < length keys
  inside_keys = let h = r.place in let u = r.room in let z = r.size.1 in omega arith

  pub rises : 0 < i → rank_at o queue (above i) < rank o s → Rising o old (set queue i (get_or queue (above i) 0)) (set keys i (get_or keys (above i) 0)) n s (above i)
  rises l b = record {
    size = (length-set queue i _ ∙ r.size.0, length-set keys i _ ∙ r.size.1);
    room = r.room;
    place = let h = r.place in omega arith;
    is_side = r.is_side;
    known = λ j m f. known_set o queue keys i other far inside (r.known (above i) (let h = r.place in omega arith) (λ z. omega arith)) r.known j m;
    measured = λ j m f. measured_set o queue keys i other far inside inside_keys (r.measured (above i) (let h = r.place in omega arith) (λ z. omega arith)) r.measured j m;
    order = λ j z m f g. below j z m f g (ℕ_discrete (above j) i);
    under = λ j z m e. beside j z m e (ℕ_discrete j i);
    around = λ j z m e q. again j z m e q (ℕ_discrete j i);
    bag = λ x.
        let u = tally_set x queue (n + 1) i other (let h = r.place in omega arith) inside in
        let w = r.bag x in
        let e : bit (get_or new (above i) 0) x ≡ bit other x = ap (λ t. bit t x) (get_or-set_other queue i (above i) other 0 (λ z. omega arith)) in
        omega arith;
  }
    where
      other : ℕ
      other = get_or queue (above i) 0

      far : ℕ
      far = get_or keys (above i) 0

      new : List ℕ
      new = set queue i other

      here : rank_at o new i ≡ rank_at o queue (above i)
      here = key_here o queue keys i other far inside

      there : (j : ℕ) → (j ≡ i → ⊥) → rank_at o new j ≡ rank_at o queue j
      there = key_there o queue keys i other far

      below : (j : ℕ) → 0 < j → j ≤ n → (j ≡ above i → ⊥) → (above j ≡ above i → ⊥) → Dec (above j ≡ i) → rank_at o new j ≤ rank_at o new (above j)
      below j z m f g (yes e) =
          let u = there j (λ t. omega arith) in
          let w = ap (rank_at o new) e ∙ here in
          let h = r.around j z m e l in
          omega arith
      below j z m f g (no q) =
          let u = there j (λ t. g (ap above t)) in
          let w = there (above j) q in
          let h = r.order j z m (λ t. g (ap above t)) q in
          omega arith

      beside : (j : ℕ) → 0 < j → j ≤ n → above j ≡ above i → Dec (j ≡ i) → rank_at o new j ≤ rank o s
      beside j z m e (yes t) = let u = ap (rank_at o new) t ∙ here in omega arith
      beside j z m e (no g) =
          let u = there j g in
          let h = r.order j z m g (λ t. omega arith) in
          let w = ap (rank_at o queue) e in
          omega arith

      again : (j : ℕ) → 0 < j → j ≤ n → above j ≡ above i → 0 < above i → Dec (j ≡ i) → rank_at o new j ≤ rank_at o new (above (above i))
      again j z m e q (yes t) =
          let u = ap (rank_at o new) t ∙ here in
          let h = r.order (above i) q (omega arith) (λ w. omega arith) (λ w. omega arith) in
          let w = there (above (above i)) (λ w. omega arith) in
          omega arith
      again j z m e q (no g) =
          let u = there j g in
          let h = r.order j z m g (λ t. omega arith) in
          let v = ap (rank_at o queue) e in
          let k = r.order (above i) q (omega arith) (λ w. omega arith) (λ w. omega arith) in
          let w = there (above (above i)) (λ w. omega arith) in
          omega arith

  pub settles : {far : ℕ} → far ≡ key o s → (0 < i → rank o s ≤ rank_at o queue (above i)) → Pushed o old (set queue i s) (set keys i far) n s
  settles {far} is top = record {
    heap = record {
      size = (length-set queue i s ∙ r.size.0, length-set keys i far ∙ r.size.1);
      known = λ j m. known_set o queue keys i s far inside r.is_side r.known j m;
      measured = λ j m. measured_set o queue keys i s far inside inside_keys is r.measured j m;
      order = λ j z m. fits j z (omega arith) (ℕ_discrete j i) (ℕ_discrete (above j) i);
    };
    bag = λ x.
        let u = tally_set x queue (n + 1) i s (let h = r.place in omega arith) inside in
        let w = r.bag x in
        omega arith;
  }
    where
      here : rank_at o (set queue i s) i ≡ rank o s
      here = key_here o queue keys i s far inside

      there : (j : ℕ) → (j ≡ i → ⊥) → rank_at o (set queue i s) j ≡ rank_at o queue j
      there = key_there o queue keys i s far

      fits : (j : ℕ) → 0 < j → j ≤ n → Dec (j ≡ i) → Dec (above j ≡ i) → rank_at o (set queue i s) j ≤ rank_at o (set queue i s) (above j)
      fits j z m (yes e) d =
          let u = ap (rank_at o (set queue i s)) e ∙ here in
          let w = ap (λ t. rank_at o (set queue i s) (above t)) e ∙ there (above i) (λ t. omega arith) in
          let h = top (omega arith) in
          omega arith
      fits j z m (no f) (yes e) =
          let u = there j f in
          let w = ap (rank_at o (set queue i s)) e ∙ here in
          let h = r.under j z m e in
          omega arith
      fits j z m (no f) (no g) =
          let u = there j f in
          let w = there (above j) g in
          let h = r.order j z m f g in
          omega arith
