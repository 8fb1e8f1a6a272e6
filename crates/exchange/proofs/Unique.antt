-- Two outcomes that one promise allows are equal, for each public call. Assumes nothing.
use Prim.Native.Nat.{ℕ, min}
use mathlib.Core.Path.{◌≡◌, sym, ap, ◌∙◌}
use mathlib.Core.List.{List}
use lib.ListN.{length}
use Rattle.std.specs.Prelude.{Result, Ok, Err}
use Rattle.sheet.specs.Refusal.{number}
use Rattle.sheet.specs.declared.refusal.Refusal.{Refusal}
use Rattle.sheet.proofs.Unique.{same_refusal}
use Rattle.shape.specs.declared.Coordinate.{Coordinate}
use Rattle.shape.specs.Answers.{reply, over}
use Rattle.shape.specs.Coordinates.{judgement}
use Rattle.shape.specs.Writing.{polygon, writing}
use Rattle.shape.specs.Reading.{read_answer, xs_at, ys_at}
use Rattle.exchange.specs.Points.{points_answer, points_xs, points_ys, sent_answer}
use Rattle.exchange.specs.Districts.{district, district_writing, district_answer, district_lengths, district_xs, district_ys}

-- what is replied tells which answer it is
same_reply : {A : Type 0} (r t : Result A Refusal) → reply r ≡ reply t → r ≡ t
same_reply (Ok a) (Ok b) e = cc
same_reply (Ok a) (Err b) e = cc
same_reply (Err a) (Ok b) e = cc
same_reply (Err a) (Err b) e =
    let k : number a.rule ≡ number b.rule = cc in
    let p : a.place ≡ b.place = cc in
    ap Err (same_refusal a b k p)

-- what the promises say of the answer and of lent memory afterwards
pub record Writes (xs ys out : List ℕ) (r : Result ℕ Refusal) (after : List ℕ) : Type 0 where
  pub answer : reply r ≡ writing xs ys (length out)
  pub output : after ≡ over (reply r) (polygon 1 xs ys) out

pub record Reads (block xs ys : List ℕ) (r : Result ℕ Refusal) (xs-after ys-after : List ℕ) : Type 0 where
  pub answer : reply r ≡ read_answer block (min (length xs) (length ys))
  pub list_x : xs-after ≡ over (reply r) (xs_at block 0) xs
  pub list_y : ys-after ≡ over (reply r) (ys_at block 0) ys

pub record Surveys (block xs ys : List ℕ) (r : Result ℕ Refusal) (xs-after ys-after : List ℕ) : Type 0 where
  pub answer : reply r ≡ points_answer block (min (length xs) (length ys))
  pub list_x : xs-after ≡ over (reply r) (points_xs block) xs
  pub list_y : ys-after ≡ over (reply r) (points_ys block) ys

pub record WritesDistrict (xs ys lengths out : List ℕ) (r : Result ℕ Refusal) (after : List ℕ) : Type 0 where
  pub answer : reply r ≡ district_writing xs ys lengths (length out)
  pub output : after ≡ over (reply r) (district lengths xs ys) out

pub record ReadsDistrict (block xs ys lengths : List ℕ) (r : Result ℕ Refusal) (xs-after ys-after lengths-after : List ℕ) : Type 0 where
  pub answer : reply r ≡ district_answer block (length lengths) (min (length xs) (length ys))
  pub list_x : xs-after ≡ over (reply r) (district_xs block) xs
  pub list_y : ys-after ≡ over (reply r) (district_ys block) ys
  pub list_n : lengths-after ≡ over (reply r) (district_lengths block) lengths

pub write_unique : (xs ys out : List ℕ) (r t : Result ℕ Refusal) (o p : List ℕ) → Writes xs ys out r o → Writes xs ys out t p → (r ≡ t) × (o ≡ p)
write_unique xs ys out r t o p a b =
    let same : r ≡ t = same_reply r t (a.answer ∙ sym b.answer) in
    (same, a.output ∙ ap (λ (v : Result ℕ Refusal). over (reply v) (polygon 1 xs ys) out) same ∙ sym b.output)

pub read_unique : (block xs ys : List ℕ) (r t : Result ℕ Refusal) (x y u v : List ℕ) → Reads block xs ys r x y → Reads block xs ys t u v → (r ≡ t) × (x ≡ u) × (y ≡ v)
read_unique block xs ys r t x y u v a b =
    let same : r ≡ t = same_reply r t (a.answer ∙ sym b.answer) in (
      same,
      a.list_x ∙ ap (λ (w : Result ℕ Refusal). over (reply w) (xs_at block 0) xs) same ∙ sym b.list_x,
      a.list_y ∙ ap (λ (w : Result ℕ Refusal). over (reply w) (ys_at block 0) ys) same ∙ sym b.list_y,
    )

pub judge_unique : (block : List ℕ) (order place : ℕ) (r t : Result Coordinate Refusal) → reply r ≡ judgement block order place → reply t ≡ judgement block order place → r ≡ t
judge_unique block order place r t a b = same_reply r t (a ∙ sym b)

pub points_unique : (block xs ys : List ℕ) (r t : Result ℕ Refusal) (x y u v : List ℕ) → Surveys block xs ys r x y → Surveys block xs ys t u v → (r ≡ t) × (x ≡ u) × (y ≡ v)
points_unique block xs ys r t x y u v a b =
    let same : r ≡ t = same_reply r t (a.answer ∙ sym b.answer) in (
      same,
      a.list_x ∙ ap (λ (w : Result ℕ Refusal). over (reply w) (points_xs block) xs) same ∙ sym b.list_x,
      a.list_y ∙ ap (λ (w : Result ℕ Refusal). over (reply w) (points_ys block) ys) same ∙ sym b.list_y,
    )

pub sent_unique : (block : List ℕ) (place : ℕ) (r t : Result Coordinate Refusal) → reply r ≡ sent_answer block place → reply t ≡ sent_answer block place → r ≡ t
sent_unique block place r t a b = same_reply r t (a ∙ sym b)

pub write_district_unique : (xs ys lengths out : List ℕ) (r t : Result ℕ Refusal) (o p : List ℕ) → WritesDistrict xs ys lengths out r o → WritesDistrict xs ys lengths out t p
    → (r ≡ t) × (o ≡ p)
write_district_unique xs ys lengths out r t o p a b =
    let same : r ≡ t = same_reply r t (a.answer ∙ sym b.answer) in
    (same, a.output ∙ ap (λ (v : Result ℕ Refusal). over (reply v) (district lengths xs ys) out) same ∙ sym b.output)

pub read_district_unique : (block xs ys lengths : List ℕ) (r t : Result ℕ Refusal) (x y n u v m : List ℕ)
    → ReadsDistrict block xs ys lengths r x y n → ReadsDistrict block xs ys lengths t u v m → (r ≡ t) × (x ≡ u) × (y ≡ v) × (n ≡ m)
read_district_unique block xs ys lengths r t x y n u v m a b =
    let same : r ≡ t = same_reply r t (a.answer ∙ sym b.answer) in (
      same,
      a.list_x ∙ ap (λ (w : Result ℕ Refusal). over (reply w) (district_xs block) xs) same ∙ sym b.list_x,
      a.list_y ∙ ap (λ (w : Result ℕ Refusal). over (reply w) (district_ys block) ys) same ∙ sym b.list_y,
      a.list_n ∙ ap (λ (w : Result ℕ Refusal). over (reply w) (district_lengths block) lengths) same ∙ sym b.list_n,
    )
