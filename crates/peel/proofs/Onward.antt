-- Peeling on, step by step: what is left to peel gives the whole's answer. Assumes nothing.
use mathlib.Core.Path.{◌≡◌, refl, sym, ap, ◌∙◌}
use mathlib.Core.Bool.{Bool, true, false, cond}
use mathlib.Core.List.{List}
use mathlib.Core.Option.{Option, none, some}
use Prim.Native.Nat.{ℕ, suc, ◌+◌, ◌-◌, ◌/◌, ◌<◌}
use native.Mathlib.Omega.{arith}
use lib.Dec.{ltb}
use lib.ListN.{length, drop}
use Rattle.sheet.specs.Office.{Office, points, triangles}
use Rattle.rim.specs.Peel.{long, best, peel, turned, peels}
use Rattle.rim.specs.Code.{front, State, Stepped, answered, peels_of}
use Rattle.peel.specs.Code.{Drew}
use Rattle.rim.specs.declared.answers.Step.{Step}
use Rattle.rim.specs.declared.answers.Step.TheVariants.{Peeled, Nothing as Stays}
use Rattle.rim.proofs.Reached.{sound}
use Rattle.rim.proofs.Rings.{some_kept}

module _ (o : Office) (limit : ℕ) where
  -- a step that peeled: what the rest comes to
  goes_on : (others : List ℕ → List ℕ) (k : List ℕ) (x : Option ℕ) (t q : ℕ) → Peeled t q ≡ answered o limit x → others (turned o (λ j. j) limit k x) ≡ turned o others limit k x
  unfolding turned
  goes_on others k none t q e = absurd (let z : ◌≡◌ {A = ℕ} 0 1 = cc in omega arith)
  goes_on others k (some s) t q e = step (ltb limit (long o s)) e
    where
      step : (b : Bool) → Peeled t q ≡ cond b (Peeled (s / 3) (long o s)) Stays → others (cond b (peel k s) k) ≡ cond b (others (peel k s)) k
      step true e = refl
      step false e = absurd (let z : ◌≡◌ {A = ℕ} 0 1 = cc in omega arith)

  -- a step that did not: the marks stay, whatever the rest
  ends : (others : List ℕ → List ℕ) (k : List ℕ) (x : Option ℕ) → Stays ≡ answered o limit x → turned o others limit k x ≡ k
  unfolding turned
  ends others k none e = refl
  ends others k (some s) e = step (ltb limit (long o s)) e
    where
      step : (b : Bool) → Stays ≡ cond b (Peeled (s / 3) (long o s)) Stays → cond b (others (peel k s)) k ≡ k
      step true e = absurd (let z : ◌≡◌ {A = ℕ} 0 1 = cc in omega arith)
      step false e = refl

-- peeling from kept₀ and rim₀ on, after begun peels, has come to these marks
pub record Drawing (o : Office) (limit : ℕ) (mate kept₀ rim₀ : List ℕ) (begun : ℕ) (kept rim : List ℕ) (peeled area ring : ℕ) : Type 0 where
  pub state : State o mate kept rim peeled area ring
  pub left : peels o (triangles o - peeled) limit (front o.corners kept) ≡ peels o (triangles o - begun) limit (front o.corners kept₀)
  pub kept_rest : drop (triangles o) kept ≡ drop (triangles o) kept₀
  pub rim_rest : drop (points o) rim ≡ drop (points o) rim₀
  pub kept_long : length kept ≡ length kept₀
  pub rim_long : length rim ≡ length rim₀

pub draws : {o : Office} (limit : ℕ) {mate kept rim : List ℕ} {peeled area ring : ℕ} → State o mate kept rim peeled area ring → Drawing o limit mate kept rim peeled kept rim peeled area ring
draws limit h = record { state = h; left = refl; kept_rest = refl; rim_rest = refl; kept_long = refl; rim_long = refl }

pub not_all : {o : Office} {mate kept rim : List ℕ} {peeled area ring : ℕ} → State o mate kept rim peeled area ring → peeled < triangles o
not_all {o} h = some_kept h.held.acceptable (sound o h.held.acceptable h.reached)

module _ {o : Office} {limit : ℕ} {mate kept₀ rim₀ : List ℕ} {begun : ℕ} {kept rim : List ℕ} {peeled area ring : ℕ} {kept' rim' : List ℕ} {peeled' area' ring' : ℕ} {answer : Step}
    (h : Drawing o limit mate kept₀ rim₀ begun kept rim peeled area ring) (g : Stepped o limit mate kept rim kept' rim' peeled answer peeled' area' ring') where
  one_less : peeled' ≡ suc peeled → triangles o - peeled ≡ suc (triangles o - peeled')
  one_less e = let l = not_all h.state in omega arith

  unfolds : (n : ℕ) → peels o (suc n) limit (front o.corners kept) ≡ turned o (peels o n limit) limit (front o.corners kept) (best o (front o.corners kept))
  unfolding peels
  unfolds n = refl

  pub draws_on : (t q : ℕ) → answer ≡ Peeled t q → Drawing o limit mate kept₀ rim₀ begun kept' rim' peeled' area' ring'
  draws_on t q e =
      let z : peeled' ≡ suc peeled = (let w = g.counts ∙ ap (λ a. peels_of a + peeled) e in omega arith) in
      record {
        state = g.state;
        left = ap (peels o (triangles o - peeled') limit) g.marks ∙ goes_on o limit (peels o (triangles o - peeled') limit) (front o.corners kept) (best o (front o.corners kept)) t q (sym e ∙ g.says) ∙ sym (unfolds (triangles o - peeled')) ∙ ap (λ n. peels o n limit (front o.corners kept)) (sym (one_less z)) ∙ h.left;
        kept_rest = g.kept_rest ∙ h.kept_rest;
        rim_rest = g.rim_rest ∙ h.rim_rest;
        kept_long = g.kept_long ∙ h.kept_long;
        rim_long = g.rim_long ∙ h.rim_long;
      }

  pub falls : (t q : ℕ) → answer ≡ Peeled t q → triangles o - peeled' < triangles o - peeled
  falls t q e = let l = not_all h.state in let w = g.counts ∙ ap (λ a. peels_of a + peeled) e in omega arith

  pub drew : answer ≡ Stays → Drew o limit mate kept₀ rim₀ begun kept' rim' peeled' area' ring'
  drew e =
      let n = triangles o - suc peeled in
      let k = front o.corners kept in
      let f : triangles o - peeled ≡ suc n = (let l = not_all h.state in omega arith) in
      record {
        state = g.state;
        marks = g.marks ∙ ends o limit (λ j. j) k (best o k) (sym e ∙ g.says) ∙ sym (ends o limit (peels o n limit) k (best o k) (sym e ∙ g.says)) ∙ sym (unfolds n) ∙ ap (λ n. peels o n limit k) (sym f) ∙ h.left;
        kept_rest = g.kept_rest ∙ h.kept_rest;
        rim_rest = g.rim_rest ∙ h.rim_rest;
      }
