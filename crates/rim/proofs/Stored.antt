-- One place of the queue set anew, and its first place. Assumes nothing.
use mathlib.Core.Path.{◌≡◌, ap}
use mathlib.Core.List.{List}
use Prim.Native.Nat.{ℕ, zero, suc, ◌-◌, ◌/◌, ◌<◌, ◌≤◌}
use native.Mathlib.Decide.{ℕ_discrete}
use native.Mathlib.Omega.{arith}
use lib.ListN.{length, get_or, set}
use lib.Seq.{get_or-set_same, get_or-set_other}
use Rattle.sheet.specs.Office.{Office, sides}
use Rattle.rim.specs.Heap.{Heap, key, rank_at, rank}

-- side v, of length w, is stored at place i
module _ (o : Office) (queue keys : List ℕ) (i v w : ℕ) where
  pub key_here : i < length queue → rank_at o (set queue i v) i ≡ rank o v
  key_here l = ap (rank o) (get_or-set_same queue i v 0 l)

  pub key_there : (j : ℕ) → (j ≡ i → ⊥) → rank_at o (set queue i v) j ≡ rank_at o queue j
  key_there j f = ap (rank o) (get_or-set_other queue i j v 0 f)

  pub known_set : {n : ℕ} → i < length queue → v < sides o → ((j : ℕ) → j < n → (j ≡ i → ⊥) → get_or queue j 0 < sides o) → (j : ℕ) → j < n → get_or (set queue i v) j 0 < sides o
  known_set l b f j m = elim (ℕ_discrete j i) [
    | yes z ↦ rw (z, get_or-set_same queue i v 0 l) b
    | no g ↦ rw (get_or-set_other queue i j v 0 g) (f j m g)
  ]

  pub measured_set : {n : ℕ} → i < length queue → i < length keys → w ≡ key o v → ((j : ℕ) → j < n → (j ≡ i → ⊥) → get_or keys j 0 ≡ key o (get_or queue j 0))
      → (j : ℕ) → j < n → get_or (set keys i w) j 0 ≡ key o (get_or (set queue i v) j 0)
  measured_set l k b f j m = elim (ℕ_discrete j i) [
    | yes z ↦ rw (z, get_or-set_same queue i v 0 l, get_or-set_same keys i w 0 k) b
    | no g ↦ rw (get_or-set_other queue i j v 0 g, get_or-set_other keys i j w 0 g) (f j m g)
  ]

-- none goes before the first
pub top_most : {o : Office} {queue keys : List ℕ} {n : ℕ} → Heap o queue keys n → (i : ℕ) → i < n → rank_at o queue i ≤ rank_at o queue 0
top_most {o} {queue} {keys} {n} h i l = below (suc i) i (omega arith) l
  where
    below : (m i : ℕ) → i < m → i < n → rank_at o queue i ≤ rank_at o queue 0
    below zero i b l = absurd (omega arith)
    below (suc m) zero b l = omega arith
    below (suc m) (suc i) b l =
        let u = h.order (suc i) (omega arith) l in
        let w = below m ((suc i - 1) / 2) (omega arith) (omega arith) in
        omega arith
