-- The marks that peeling removable sides leads to, and what holds of all of them. Assumes nothing.
use mathlib.Core.Path.{◌≡◌, ap, subst, ◌∙◌}
use mathlib.Core.Logic.{◌↔◌, ◌⊎◌, inl, inr}
use mathlib.Core.Bool.{true}
use mathlib.Core.List.{List}
use Prim.Native.Nat.{ℕ, suc, ◌+◌, ◌/◌, ◌<◌}
use native.Mathlib.Decide.{ℕ_discrete}
use native.Mathlib.Omega.{arith}
use lib.ListN.{length, get_or, length-replicate, get_or-replicate}
use lib.Seq.{get_or-set_other}
use Rattle.laws.proofs.Count.{count_none}
use Rattle.laws.specs.Round.{Round}
use Rattle.laws.proofs.Runs.{same_sides}
use Rattle.sheet.specs.Office.{Office, points, sides, triangles, rim as hull_side, rims as hull_sides}
use Rattle.sheet.proofs.Rim.{rim_iff as hull_iff}
use Rattle.sheet.specs.Acceptable.{Acceptable}
use Rattle.sheet.proofs.Hull.{hull_round}
use Rattle.rim.specs.Peel.{rim, removable, peel, whole, peeled}
use Rattle.rim.specs.Reached.{Reached, begun, more}
use Rattle.rim.proofs.Marks.{Kept, Held, Way, rim_iff}
use Rattle.rim.proofs.OnePeel.{Peelable, gone}
use Rattle.rim.proofs.Starve.{held_after}
use Rattle.rim.proofs.Tallied.{peeled_after, size_after}
use Rattle.rim.proofs.Grow.{round_after}

-- the marks are 1 and 0, n of them 0; the rim is one round, n sides longer than at the start; every point is held
pub record Sound (o : Office) (n : ℕ) (k : List ℕ) : Type 0 where
  pub size : length k ≡ triangles o
  pub marks : (t : ℕ) → t < triangles o → (get_or k t 0 ≡ 1) ⊎ (get_or k t 0 ≡ 0)
  pub count : peeled o k ≡ n
  pub round : Round (Way o k) (hull_sides o + n)
  pub held : (p : ℕ) → p < points o → Held o k p

module _ (o : Office) (a : Acceptable o) where
  marked : (t : ℕ) → t < triangles o → get_or (whole o) t 0 ≡ 1
  marked t l = get_or-replicate (triangles o) t 1 0 l

  all_kept : (s : ℕ) → s < sides o → Kept (whole o) s
  all_kept s l = marked (s / 3) (let h = a.corners_bound.1 in omega arith)

  -- at the start the rim is the hull
  begun_rim : (s : ℕ) → s < sides o → (hull_side o s ≡ true) ↔ (rim o (whole o) s ≡ true)
  begun_rim s l = (
    (λ e. (rim_iff o (whole o) s).1 (all_kept s l, λ r m c v. (hull_iff o s).0 e r m v)),
    (λ e. (hull_iff o s).1 (λ r m v. ((rim_iff o (whole o) s).0 e).1 r m (all_kept r m) v)),
  )

  begun_round : Round (Way o (whole o)) (hull_sides o + 0)
  begun_round = subst (Round (Way o (whole o))) (omega arith) (same_sides begun_rim (hull_round a))

  begun_sound : Sound o 0 (whole o)
  unfolding peeled
  begun_sound = record {
    size = length-replicate (triangles o) 1;
    marks = λ t l. inl (marked t l);
    count = count_none _ (triangles o) (λ t l. rw (marked t l));
    round = begun_round;
    held = λ p l. let (s, b, e) = a.used p l in (s, b, all_kept s b, e);
  }

  pub peelable : {n : ℕ} {k : List ℕ} → Sound o n k → (s : ℕ) → s < sides o → removable o k s ≡ true → Peelable o k s
  peelable h s l e = record { size = h.size; below = l; may = e }

  pub sound : {n : ℕ} {k : List ℕ} → Reached o n k → Sound o n k
  sound begun = begun_sound
  sound (more {n} {k} s r l e) = step (sound r)
    where
      step : Sound o n k → Sound o (suc n) (peel k s)
      step h =
          let can = peelable h s l e in
          record {
            size = size_after a can;
            marks = λ t b. elim (ℕ_discrete t (s / 3)) [
              | yes z ↦ inr (rw z (gone a can))
              | no f ↦ rw (get_or-set_other k (s / 3) t 0 0 f) (h.marks t b)
            ];
            count = peeled_after a can ∙ ap suc h.count;
            round = subst (Round (Way o (peel k s))) (omega arith) (round_after a can h.round);
            held = λ p b. held_after a can p (h.held p b);
          }
