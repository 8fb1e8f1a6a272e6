-- A draw is given exactly for the acceptable offices whose buffers have room, and is refused as the check refuses; what that means for the
-- answers and the lent lists of draw and list. Assumes nothing.
use mathlib.Core.Path.{◌≡◌, refl, sym, ap, ◌∙◌}
use mathlib.Core.Logic.{◌↔◌}
use mathlib.Core.Bool.{Bool, true}
use mathlib.Core.List.{List}
use Prim.Native.Nat.{ℕ}
use native.Mathlib.Omega.{arith}
use Rattle.sheet.specs.Office.{Office, office, rims}
use Rattle.sheet.specs.Verdict.{Verdict, accepted, refused, verdict}
use Rattle.sheet.specs.Acceptable.{Acceptable}
use Rattle.sheet.proofs.Accepted.{accepted_lent}
use Rattle.rim.specs.Peel.{drawn}
use Rattle.peel.specs.Outcome.{draws, refuses, by_verdict, outcome}
use Rattle.peel.specs.Answer.{draw_room, list_room, drawing, listing, after_draw, after_list}
use Rattle.peel.proofs.NeverStarves.{never_starves}

pub draws_iff : (room : Bool) (o : Office) (limit : ℕ) (k : List ℕ) → (outcome room o limit ≡ draws k) ↔ ((room ≡ true) × Acceptable o × (k ≡ drawn o limit))
unfolding outcome by_verdict
draws_iff room o limit k = (
  to (verdict room o) refl,
  (λ (t, a, e). ap (by_verdict o limit) ((accepted_lent room o (rims o)).1 (t, a, refl)) ∙ never_starves a limit ∙ ap draws (sym e)),
)
  where
    to : (v : Verdict) → verdict room o ≡ v → by_verdict o limit v ≡ draws k → (room ≡ true) × Acceptable o × (k ≡ drawn o limit)
    to (accepted m) e h = let (t, a, _) = (accepted_lent room o m).0 e in let z = sym h ∙ never_starves a limit in (t, a, cc)
    to (refused n p) e h = absurd (let z : ◌≡◌ {A = ℕ} 0 1 = cc in omega arith)

pub refuses_iff : (room : Bool) (o : Office) (limit n p : ℕ) → (outcome room o limit ≡ refuses n p) ↔ (verdict room o ≡ refused n p)
unfolding outcome by_verdict
refuses_iff room o limit n p = (to (verdict room o) refl, λ e. ap (by_verdict o limit) e)
  where
    to : (v : Verdict) → verdict room o ≡ v → by_verdict o limit v ≡ refuses n p → v ≡ refused n p
    to (accepted m) e h = absurd (let (_, a, _) = (accepted_lent room o m).0 e in let x = sym h ∙ never_starves a limit in let z : ◌≡◌ {A = ℕ} 0 1 = cc in omega arith)
    to (refused m q) e h = cc

-- the same of the public calls
module _ (xs ys corners : List ℕ) where
  abbrev o : Office
  o = office xs ys corners

  module _ (limit : ℕ) (kept rim round : List ℕ) where
    pub draw_given : {m : ℕ} → verdict (draw_room o kept rim round) o ≡ accepted m → after_draw xs ys corners limit kept rim round ≡ drawing o (draws (drawn o limit)) kept rim round
    unfolding after_draw
    draw_given {m} e =
        let (t, a, _) = (accepted_lent (draw_room o kept rim round) o m).0 e in
        ap (λ x. drawing o x kept rim round) ((draws_iff (draw_room o kept rim round) o limit (drawn o limit)).1 (t, a, refl))

    pub draw_refused : {n p : ℕ} → verdict (draw_room o kept rim round) o ≡ refused n p → after_draw xs ys corners limit kept rim round ≡ drawing o (refuses n p) kept rim round
    unfolding after_draw
    draw_refused {n} {p} e = ap (λ x. drawing o x kept rim round) ((refuses_iff (draw_room o kept rim round) o limit n p).1 e)

  module _ (kept rim round least peeled area : List ℕ) where
    pub list_given : {m : ℕ} → verdict (list_room o kept rim round least peeled area) o ≡ accepted m
        → after_list xs ys corners kept rim round least peeled area ≡ listing o (draws (drawn o 0)) kept rim round least peeled area
    unfolding after_list
    list_given {m} e =
        let (t, a, _) = (accepted_lent (list_room o kept rim round least peeled area) o m).0 e in
        ap (λ x. listing o x kept rim round least peeled area) ((draws_iff (list_room o kept rim round least peeled area) o 0 (drawn o 0)).1 (t, a, refl))

    pub list_refused : {n p : ℕ} → verdict (list_room o kept rim round least peeled area) o ≡ refused n p
        → after_list xs ys corners kept rim round least peeled area ≡ listing o (refuses n p) kept rim round least peeled area
    unfolding after_list
    list_refused {n} {p} e = ap (λ x. listing o x kept rim round least peeled area) ((refuses_iff (list_room o kept rim round least peeled area) o 0 n p).1 e)
