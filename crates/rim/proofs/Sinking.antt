-- A side in the first's place, which sinks as the leader of those under it moves up; and what is left without the first. Assumes nothing.
use mathlib.Core.Path.{◌≡◌, refl, sym, ap, subst, ◌∙◌}
use mathlib.Core.Bool.{Bool, true, false, cond}
use mathlib.Core.List.{List}
use Prim.Native.Nat.{ℕ, ◌+◌, ◌*◌, ◌-◌, ◌<◌, ◌≤◌}
use native.Mathlib.Decide.{ℕ_discrete}
use native.Mathlib.Omega.{arith}
use lib.Dec.{ltb}
use lib.ListN.{length, get_or, set, length-set}
use lib.Seq.{get_or-set_other}
use Rattle.sheet.specs.Office.{Office, sides}
use Rattle.sheet.specs.Acceptable.{Acceptable}
use Rattle.rim.specs.Heap.{Heap, Sunk, Popped, Leading, rank, key, rank_at, above, bit, tally}
use Rattle.rim.proofs.Ranked.{by_key, up, not_up}
use Rattle.rim.proofs.Bag.{tally_none, tally_more, tally_set}
use Rattle.rim.proofs.Stored.{key_here, key_there, known_set, measured_set}

-- of the places under one place, the first where it is alone, or where the other does not go before it, else the other
module _ {o : Office} {queue : List ℕ} {m c : ℕ} where
  leads : (r : ℕ) → c ≤ r → r < m → r ≤ c + 1 → rank_at o queue c ≤ rank_at o queue r → (c + 1 < m → rank_at o queue (c + 1) ≤ rank_at o queue r) → Leading o queue m c r
  leads r from within near a b = record {
    from = from;
    within = within;
    near = near;
    most = λ j l u w. elim (ℕ_discrete j c) [
      | yes z ↦ (let e = ap (rank_at o queue) z in omega arith)
      | no f ↦ (let z : j ≡ c + 1 = omega arith in let e = ap (rank_at o queue) z in let h = b (omega arith) in omega arith)
    ];
  }

  pub leads_first : c + 1 < m → rank_at o queue (c + 1) ≤ rank_at o queue c → Leading o queue m c c
  leads_first l b = leads c (omega arith) (omega arith) (omega arith) (omega arith) (λ h. b)

  pub leads_second : c + 1 < m → rank_at o queue c < rank_at o queue (c + 1) → Leading o queue m c (c + 1)
  leads_second l b = leads (c + 1) (omega arith) l (omega arith) (omega arith) (λ h. omega arith)

-- unequal keys decide
pub leads_greater : {o : Office} {queue keys : List ℕ} {m c : ℕ} → Acceptable o → Heap o queue keys m → c + 1 < m → (get_or keys c 0 ≡ get_or keys (c + 1) 0 → ⊥)
    → {b : Bool} {r : ℕ} → r ≡ cond b 1 0 → b ≡ ltb (get_or keys c 0) (get_or keys (c + 1) 0) → Leading o queue m c (c + r)
leads_greater {o} {queue} {keys} {m} {c} a h l f {b} {r} z e = step b z e
  where
    goes : (i j : ℕ) → i < m → j < m → get_or keys i 0 < get_or keys j 0 → rank_at o queue i < rank_at o queue j
    goes i j x y w = by_key a (get_or queue j 0) (get_or queue i 0) (let u = h.measured i x in let v = h.measured j y in omega arith)

    step : (b : Bool) → r ≡ cond b 1 0 → b ≡ ltb (get_or keys c 0) (get_or keys (c + 1) 0) → Leading o queue m c (c + r)
    step true z e = subst (Leading o queue m c) (omega arith) (leads_second l (goes c (c + 1) (omega arith) l (up e refl)))
    step false z e = subst (Leading o queue m c) (omega arith) (leads_first l (let u = goes (c + 1) c l (omega arith) (let w : get_or keys (c + 1) 0 ≤ get_or keys c 0 = not_up e refl in omega (arith, f)) in omega arith))

-- side s is to go to place i or below; what stands at i is of no account, and c is the first place under it
pub record Sinking (o : Office) (old queue keys : List ℕ) (m s i c : ℕ) : Type 0 where
  pub size : (length queue ≡ 1024) × (length keys ≡ 1024)
  pub room : m ≤ 1024
  pub place : i < m
  pub child : c ≡ 2 * i + 1
  pub is_side : s < sides o
  pub now : Heap o queue keys m
  pub over : 0 < i → rank o s ≤ rank_at o queue (above i)
  pub bag : (x : ℕ) → tally x queue m + bit (get_or old 0 0) x ≡ tally x old m + bit (get_or queue i 0) x

module _ {o : Office} {old queue keys : List ℕ} {m s i c : ℕ} (r : Sinking o old queue keys m s i c) where
  inside : i < length queue
  inside = let h = r.place in let u = r.room in let z = r.size.0 in omega arith

  inside_keys : i < length keys
  inside_keys = let h = r.place in let u = r.room in let z = r.size.1 in omega arith

  pub sinks : {g : ℕ} → Leading o queue m c g → rank o s < rank_at o queue g → Sinking o old (set queue i (get_or queue g 0)) (set keys i (get_or keys g 0)) m s g (2 * g + 1)
  sinks {g} q b = record {
    size = (length-set queue i _ ∙ r.size.0, length-set keys i _ ∙ r.size.1);
    room = r.room;
    place = q.within;
    child = omega arith;
    is_side = r.is_side;
    now = record {
      size = (length-set queue i _ ∙ r.size.0, length-set keys i _ ∙ r.size.1);
      known = λ j l. known_set o queue keys i other far inside (r.now.known g q.within) (λ j l _. r.now.known j l) j l;
      measured = λ j l. measured_set o queue keys i other far inside inside_keys (r.now.measured g q.within) (λ j l _. r.now.measured j l) j l;
      order = λ j z l. fits j z l (ℕ_discrete j i) (ℕ_discrete (above j) i);
    };
    over = λ z. let u = ap (rank_at o new) under ∙ here in omega arith;
    bag = λ x.
        let u = tally_set x queue m i other r.place inside in
        let w = r.bag x in
        let e : bit (get_or new g 0) x ≡ bit other x = ap (λ t. bit t x) (get_or-set_other queue i g other 0 apart) in
        omega arith;
  }
    where
      other : ℕ
      other = get_or queue g 0

      far : ℕ
      far = get_or keys g 0

      new : List ℕ
      new = set queue i other

      -- g is under i
      under : above g ≡ i
      under = let u = q.from in let v = q.near in let w = r.child in omega arith

      apart : g ≡ i → ⊥
      apart z = let u = q.from in let w = r.child in omega arith

      here : rank_at o new i ≡ rank_at o queue g
      here = key_here o queue keys i other far inside

      there : (j : ℕ) → (j ≡ i → ⊥) → rank_at o new j ≡ rank_at o queue j
      there = key_there o queue keys i other far

      fits : (j : ℕ) → 0 < j → j < m → Dec (j ≡ i) → Dec (above j ≡ i) → rank_at o new j ≤ rank_at o new (above j)
      fits j z l (yes e) d =
          let u = ap (rank_at o new) e ∙ here in
          let w = ap (λ t. rank_at o new (above t)) e ∙ there (above i) (λ t. omega arith) in
          let h = r.now.order i (omega arith) (omega arith) in
          let k = r.now.order g (let u = q.from in let w = r.child in omega arith) q.within in
          let v = ap (rank_at o queue) under in
          omega arith
      fits j z l (no f) (yes e) =
          let u = there j f in
          let w = ap (rank_at o new) e ∙ here in
          let h = q.most j (let w = r.child in omega arith) (let w = r.child in omega arith) l in
          omega arith
      fits j z l (no f) (no g) = let u = there j f in let w = there (above j) g in let h = r.now.order j z l in omega arith

  module _ {far : ℕ} (is : far ≡ key o s) where
    stays : ((j : ℕ) → 0 < j → j < m → above j ≡ i → rank_at o queue j ≤ rank o s) → Sunk o old (set queue i s) (set keys i far) m s
    stays least = record {
      heap = record {
        size = (length-set queue i s ∙ r.size.0, length-set keys i far ∙ r.size.1);
        known = λ j l. known_set o queue keys i s far inside r.is_side (λ j l _. r.now.known j l) j l;
        measured = λ j l. measured_set o queue keys i s far inside inside_keys is (λ j l _. r.now.measured j l) j l;
        order = λ j z l. fits j z l (ℕ_discrete j i) (ℕ_discrete (above j) i);
      };
      bag = λ x.
          let u = tally_set x queue m i s r.place inside in
          let w = r.bag x in
          omega arith;
    }
      where
        here : rank_at o (set queue i s) i ≡ rank o s
        here = key_here o queue keys i s far inside

        there : (j : ℕ) → (j ≡ i → ⊥) → rank_at o (set queue i s) j ≡ rank_at o queue j
        there = key_there o queue keys i s far

        fits : (j : ℕ) → 0 < j → j < m → Dec (j ≡ i) → Dec (above j ≡ i) → rank_at o (set queue i s) j ≤ rank_at o (set queue i s) (above j)
        fits j z l (yes e) d =
            let u = ap (rank_at o (set queue i s)) e ∙ here in
            let w = ap (λ t. rank_at o (set queue i s) (above t)) e ∙ there (above i) (λ t. omega arith) in
            let h = r.over (omega arith) in
            omega arith
        fits j z l (no f) (yes e) = let u = there j f in let w = ap (rank_at o (set queue i s)) e ∙ here in let h = least j z l e in omega arith
        fits j z l (no f) (no g) = let u = there j f in let w = there (above j) g in let h = r.now.order j z l in omega arith

    -- it stays where there is nothing under i, or nothing that goes before it
    pub stays_last : m ≤ c → Sunk o old (set queue i s) (set keys i far) m s
    stays_last l = stays (λ j z b e. absurd (let w = r.child in omega arith))

    pub stays_over : {g : ℕ} → Leading o queue m c g → rank_at o queue g ≤ rank o s → Sunk o old (set queue i s) (set keys i far) m s
    stays_over q b = stays (λ j z l e. let w = r.child in let h = q.most j (omega arith) (omega arith) l in omega arith)

-- the first of n leaves: the last comes in its place, or there is no other
fewer : {o : Office} {queue keys : List ℕ} {n m : ℕ} → Heap o queue keys n → m ≤ n → Heap o queue keys m
fewer h l = record { size = h.size; known = λ j m. h.known j (omega arith); measured = λ j m. h.measured j (omega arith); order = λ j z m. h.order j z (omega arith) }

module _ {o : Office} {old keys : List ℕ} {n : ℕ} (h : Heap o old keys n) (l : 0 < n) where
  pub without_last : Heap o old keys (n - 1)
  without_last = fewer h (omega arith)

  all : (x : ℕ) → tally x old n ≡ tally x old (n - 1) + bit (get_or old (n - 1) 0) x
  all x = ap (tally x old) (omega arith) ∙ tally_more x old (n - 1)

  pub pops : {queue keys' : List ℕ} → Sunk o old queue keys' (n - 1) (get_or old (n - 1) 0) → Popped o old queue keys' n
  pops s = record { heap = s.heap; bag = λ x. s.bag x ∙ sym (all x) }

  pub pops_only : n - 1 ≤ 0 → Popped o old old keys n
  pops_only z = record {
    heap = without_last;
    bag = λ x.
        let e : n - 1 ≡ 0 = omega arith in
        let u = ap (tally x old) e ∙ tally_none x old in
        let w = all x in
        let v = ap (λ j. bit (get_or old j 0) x) e in
        omega arith;
  }
