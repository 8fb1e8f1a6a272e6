-- The first rim side from each point, found from the last side down. Assumes nothing.
use mathlib.Core.Path.{◌≡◌, sym, subst, ◌∙◌}
use mathlib.Core.List.{List}
use Prim.Native.Nat.{ℕ, ◌<◌, ◌≤◌}
use native.Mathlib.Omega.{arith}
use lib.ListN.{length, get_or, replicate, length-replicate, get_or-replicate}
use Rattle.laws.proofs.Down.{Since, since_none, since_all}
use Rattle.sheet.specs.Code.{leaves, Leaving}

-- the sides from s on are seen
pub record Seen (corners list : List ℕ) (s : ℕ) : Type 0 where
  pub within : s ≤ length corners
  pub long : length list ≡ 1024
  pub since : (p : ℕ) → p < 1024 → Since (leaves corners p) (length corners) s (get_or list p 0)

pub seen_none : (corners : List ℕ) {n : ℕ} → n ≡ length corners → Seen corners (replicate 1024 n) (length corners)
seen_none corners {n} e = record {
  within = omega arith;
  long = length-replicate {A = ℕ} 1024 n;
  since = λ p l. subst (Since (leaves corners p) (length corners) (length corners)) (sym (get_or-replicate {A = ℕ} 1024 p n 0 l ∙ e)) since_none;
}

pub seen_all : {corners list : List ℕ} {s : ℕ} → Seen corners list s → s ≡ 0 → Leaving corners list
seen_all {corners} {list} h e p l = since_all (leaves corners p) (length corners) (get_or list p 0) (subst (λ i. Since (leaves corners p) (length corners) i (get_or list p 0)) e (h.since p l))
