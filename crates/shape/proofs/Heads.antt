-- What an answer says of the questions: each that was passed holds; a head that was read, and positions that were scanned. Assumes nothing.
use Rattle.std.proofs.Common.{◌≡◌, ℕ, zero, suc, ◌+◌, ◌-◌, ◌*◌, ◌≤◌, Bool, true, false, cond, ◌&&◌, eqb, leb, List, [], ◌∷◌, ◌++◌, length, sym, refl, ap, ◌∙◌, arith, eq-eqb, eqb-true, le-leb, leb-true}
use Rattle.laws.proofs.Test.{and_iff}
use Rattle.shape.specs.Answers.{Question, must, gives, refused, asked}
use Rattle.shape.specs.Bytes.{number_at}
use Rattle.shape.specs.Coordinates.{coordinate_at, is_on_grid, ended}
use Rattle.shape.specs.Reading.{run, coordinate_asks, coordinates, count, order_at, length_at, head_asks}
use Rattle.shape.proofs.Asking.{passes, passes_below, ends, fault}
use Rattle.shape.proofs.Scanned.{ran, scanned}

module _ {A : Type 0} {b : A} where
  pub passed_one : (t : Bool) (k p : ℕ) (qs : List Question) (a : A) → gives b ≡ asked (must t k p ∷ qs) a → (t ≡ true) × (gives b ≡ asked qs a)
  unfolding asked
  passed_one true k p qs a e = (refl, e)
  passed_one false k p qs a e = let z : ◌≡◌ {A = ℕ} 0 1 = cc in absurd (omega arith)

  pub passed_all : (a : A) → gives b ≡ asked [] a → b ≡ a
  unfolding asked
  passed_all a e = cc

-- nothing is left past an end
pub none_left : (s : List ℕ) (end : ℕ) → gives (tt {0}) ≡ asked (ended s end ∷ []) (tt {0}) → length s ≤ end
none_left s end e = leb-true (length s) end (passed_one (leb (length s) end) 28 end [] (tt {0}) e).0

-- both parts were passed
pub passed_both : {A B : Type 0} {b : B} (ps qs : List Question) (a : A) (c : B) → gives b ≡ asked (ps ++ qs) c → (gives a ≡ asked ps a) × (gives b ≡ asked qs c)
unfolding asked
passed_both [] qs a c e = (refl, e)
passed_both (q ∷ ps) qs a c e =
    let one = passed_one q.holds q.number q.place (ps ++ qs) c e in
    let more = passed_both ps qs a c one.1 in
    (more.0 ∙ sym (ap (λ (t : Bool). cond t (asked ps a) (refused q.number q.place)) one.0), more.1)

-- ---- a head

-- a good head at a place, of a ring of length n, for lists that both have so much room
pub record Headed (s : List ℕ) (at room n : ℕ) : Type 0 where
  pub order : order_at s at ≤ 1
  pub three : number_at 4 (order_at s at) s (at + 1) ≡ 3
  pub one : number_at 4 (order_at s at) s (at + 5) ≡ 1
  pub counted : count (order_at s at) s at ≡ n + 1
  pub there : at + 13 ≤ length s
  pub least : 3 ≤ n
  pub most : n ≤ 1024
  pub fits : n ≤ room

pub head_good : (s : List ℕ) (at room n : ℕ) → gives n ≡ asked (head_asks s at room) (length_at s at) → Headed s at room n
head_good s at room n e =
    let o : ℕ = order_at s at in
    let m : ℕ = count o s at in
    let q1 = passed_one (leb (at + 1) (length s)) 20 at _ _ e in
    let q2 = passed_one (leb o 1) 21 at _ _ q1.1 in
    let q3 = passed_one (leb (at + 1 + 4) (length s)) 20 (at + 1) _ _ q2.1 in
    let q4 = passed_one (eqb (number_at 4 o s (at + 1)) 3) 22 (at + 1) _ _ q3.1 in
    let q5 = passed_one (leb (at + 5 + 4) (length s)) 20 (at + 5) _ _ q4.1 in
    let q6 = passed_one (eqb (number_at 4 o s (at + 5)) 1) 23 (at + 5) _ _ q5.1 in
    let q7 = passed_one (leb (at + 9 + 4) (length s)) 20 (at + 9) _ _ q6.1 in
    let q8 = passed_one (leb 4 m && leb m 1025) 24 (at + 9) _ _ q7.1 in
    let q9 = passed_one (leb (m - 1) room) 29 (at + 9) _ _ q8.1 in
    let is : n ≡ m - 1 = passed_all (m - 1) q9.1 in
    let between = and_iff.0 q8.0 in
    let lo : 4 ≤ m = leb-true 4 m between.0 in
    let hi : m ≤ 1025 = leb-true m 1025 between.1 in
    let long : at + 9 + 4 ≤ length s = leb-true (at + 9 + 4) (length s) q7.0 in
    let fit : m - 1 ≤ room = leb-true (m - 1) room q9.0 in
    record {
      order = leb-true o 1 q2.0;
      three = eqb-true (number_at 4 o s (at + 1)) 3 q4.0;
      one = eqb-true (number_at 4 o s (at + 5)) 1 q6.0;
      counted = omega arith;
      there = omega arith;
      least = omega arith;
      most = omega arith;
      fits = omega arith;
    }

-- ... and the other way round
pub head_answer : (s : List ℕ) (at room n : ℕ) → Headed s at room n → gives n ≡ asked (head_asks s at room) (length_at s at)
head_answer s at room n h =
    let m : ℕ = count (order_at s at) s at in
    let is : n ≡ m - 1 = omega (arith, h.counted) in
    let there = h.there in
    let between : (leb 4 m && leb m 1025) ≡ true =
    and_iff.1 (le-leb 4 m (omega (arith, h.counted, h.least)), le-leb m 1025 (omega (arith, h.counted, h.most))) in
    let o : ℕ = order_at s at in
    let long : ℕ = length s in
    passes_below (at + 1) long _ _ _ _ (omega arith)
    (passes_below o 1 _ _ _ _ h.order
    (passes_below (at + 1 + 4) long _ _ _ _ (omega arith)
    (passes _ _ _ _ _ (eq-eqb _ _ h.three)
    (passes_below (at + 5 + 4) long _ _ _ _ (omega arith)
    (passes _ _ _ _ _ (eq-eqb _ _ h.one)
    (passes_below (at + 9 + 4) long _ _ _ _ (omega arith)
    (passes _ _ _ _ _ between
    (passes_below (m - 1) room _ _ _ _ (omega (arith, h.counted, h.fits))
    (ends (m - 1) (ap gives is))))))))))

-- ---- coordinates that were passed

pub coordinate_passed : {A : Type 0} {b : A} (k order : ℕ) (s : List ℕ) (at : ℕ) (a : A) → gives b ≡ asked (coordinates (suc k) order s at) a
    → (at + 8 ≤ length s) × (is_on_grid (coordinate_at order s at) ≡ true) × (gives b ≡ asked (coordinates k order s (at + 8)) a)
unfolding run
coordinate_passed k order s at a e =
    let q1 = passed_one (leb (at + 8) (length s)) 20 at _ a e in
    let q2 = passed_one (is_on_grid (coordinate_at order s at)) _ at _ a q1.1 in
    (leb-true (at + 8) (length s) q1.0, q2.0, q2.1)

-- what was passed is there, where each says so
pub ran_there : (step : ℕ) (asks : ℕ → List Question) (s : List ℕ) → ((at : ℕ) → gives tt ≡ fault (asks at) → at + step ≤ length s)
    → (k at : ℕ) → at ≤ length s → gives tt ≡ ran step asks k at → at + step * k ≤ length s
unfolding run
ran_there step asks s each zero at h e = omega arith
ran_there step asks s each (suc k) at h e =
    let q = passed_both (asks at) (run step asks k (at + step)) tt tt e in
    let r : at + step + step * k ≤ length s = ran_there step asks s each k (at + step) (each at q.0) q.1 in
    omega arith

pub coordinates_there : (k order : ℕ) (s : List ℕ) (at : ℕ) → at ≤ length s → gives tt ≡ scanned k order s at → at + 8 * k ≤ length s
coordinates_there k order s at h e =
    ran_there 8 (coordinate_asks order s) s (λ p g. leb-true (p + 8) (length s) (passed_one (leb (p + 8) (length s)) 20 p _ tt g).0) k at h e
