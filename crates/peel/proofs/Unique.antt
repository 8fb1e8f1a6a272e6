-- Two outcomes that one promise allows are equal: of draw, of outline, of list, of index. Assumes nothing.
use Rattle.rim.specs.declared.Tally.{Tally}
use Rattle.std.specs.Prelude.{Result, Ok, Err}
use mathlib.Core.Path.{◌≡◌, sym, ap, ◌∙◌}
use mathlib.Core.List.{List}
use Prim.Native.Nat.{ℕ}
use native.Mathlib.Omega.{arith}
use Rattle.peel.specs.Answer.{Answer, draw_answer, list_answer, used, DrawPromise, ListPromise}
use Rattle.peel.specs.IndexAnswer.{IndexPromise}
use Rattle.sheet.specs.declared.refusal.Refusal.{Refusal}
use Rattle.sheet.specs.Refusal.{number}
use Rattle.sheet.proofs.Unique.{same_refusal}

-- an answer's number and values tell it
pub draw_told : (r q : Result Tally Refusal) → draw_answer r ≡ draw_answer q → r ≡ q
draw_told (Ok t) (Ok u) e =
    let x : t.peeled ≡ u.peeled = cc in
    let y : t.area ≡ u.area = cc in
    let z : t.ring ≡ u.ring = cc in
    ap (λ n. Ok (record { peeled = n; area = t.area; ring = t.ring })) x
    ∙ ap (λ n. Ok (record { peeled = u.peeled; area = n; ring = t.ring })) y
    ∙ ap (λ n. Ok (record { peeled = u.peeled; area = u.area; ring = n })) z
draw_told (Ok t) (Err r) e = absurd (let z : ◌≡◌ {A = ℕ} 0 1 = cc in omega arith)
draw_told (Err r) (Ok t) e = absurd (let z : ◌≡◌ {A = ℕ} 0 1 = cc in omega arith)
draw_told (Err r) (Err q) e = ap Err (same_refusal r q (let x : number r.rule ≡ number q.rule = cc in x) (let y : r.place ≡ q.place = cc in y))

pub list_told : (r q : Result ℕ Refusal) → list_answer r ≡ list_answer q → r ≡ q
list_told (Ok n) (Ok m) e = cc
list_told (Ok n) (Err r) e = absurd (let z : ◌≡◌ {A = ℕ} 0 1 = cc in omega arith)
list_told (Err r) (Ok n) e = absurd (let z : ◌≡◌ {A = ℕ} 0 1 = cc in omega arith)
list_told (Err r) (Err q) e = ap Err (same_refusal r q (let x : number r.rule ≡ number q.rule = cc in x) (let y : r.place ≡ q.place = cc in y))

pub unique_draw : {xs ys corners : List ℕ} {limit : ℕ} {kept rim ring : List ℕ} {r q : Result Tally Refusal} {k i g k' i' g' : List ℕ}
    → DrawPromise xs ys corners limit kept rim ring r k i g → DrawPromise xs ys corners limit kept rim ring q k' i' g' → (r ≡ q) × (k ≡ k') × (i ≡ i') × (g ≡ g')
unique_draw {r = r} {q} x y = (draw_told r q (x.answers ∙ sym y.answers), x.kept_is ∙ sym y.kept_is, x.rim_is ∙ sym y.rim_is, x.ring_is ∙ sym y.ring_is)

pub unique_outline : (round : List ℕ) (sides : ℕ) {part other : List ℕ} → part ≡ used round sides → other ≡ used round sides → part ≡ other
unique_outline round sides x y = x ∙ sym y

pub unique_list : {xs ys corners kept rim ring least peeled area : List ℕ} {r q : Result ℕ Refusal} {k i g l p a k' i' g' l' p' a' : List ℕ}
    → ListPromise xs ys corners kept rim ring least peeled area r k i g l p a → ListPromise xs ys corners kept rim ring least peeled area q k' i' g' l' p' a'
    → (r ≡ q) × (k ≡ k') × (i ≡ i') × (g ≡ g') × (l ≡ l') × (p ≡ p') × (a ≡ a')
unique_list {r = r} {q} x y = (
  list_told r q (x.answers ∙ sym y.answers),
  x.kept_is ∙ sym y.kept_is,
  x.rim_is ∙ sym y.rim_is,
  x.ring_is ∙ sym y.ring_is,
  x.least_is ∙ sym y.least_is,
  x.peeled_is ∙ sym y.peeled_is,
  x.area_is ∙ sym y.area_is,
)

pub unique_index : {xs ys corners index least number : List ℕ} {r q : Answer} {i l n i' l' n' : List ℕ}
    → IndexPromise xs ys corners index least number r i l n → IndexPromise xs ys corners index least number q i' l' n' → (r ≡ q) × (i ≡ i') × (l ≡ l') × (n ≡ n')
unique_index x y = (x.answers ∙ sym y.answers, x.index_is ∙ sym y.index_is, x.limits_are ∙ sym y.limits_are, x.counts_are ∙ sym y.counts_are)
