-- Fields or shapes one after another in plain logic: all are good, or the first bad one has its number and its place. Assumes nothing.
use Rattle.std.proofs.Common.{◌≡◌, ℕ, zero, suc, ◌+◌, ◌*◌, ◌<◌, ◌≤◌, true, false, leb, List, [], ◌++◌, length, sym, refl, ap, ◌∙◌, subst, suc-le-suc, zero-le, le_of_suc-le-suc, arith, leb-false, leb-true}
use Rattle.shape.specs.declared.Coordinate.{Coordinate}
use Rattle.shape.specs.declared.Coordinate.TheVariants.{Grid, OffGrid, NotFinite}
use Rattle.shape.specs.Answers.{Question, gives, refused, asked}
use Rattle.shape.specs.Coordinates.{coordinate_at, refusal_of, is_on_grid}
use Rattle.shape.specs.Reading.{run, coordinate_asks}
use Rattle.shape.specs.Refusals.{Good, Bad, cut, not_finite, off_grid}
use Rattle.shape.proofs.Asking.{fault, ask_cases, ends, passes_all, stops_first, part_cases}
use Rattle.shape.proofs.Scanned.{scanned, cut_short, faulty_there, fine_there, no_more}
use Rattle.shape.proofs.Heads.{passed_both, coordinate_passed}

-- the end of a list of questions refuses nothing
pub nothing_left : {A : Type 0} {n p : ℕ} (a : A) → refused n p ≡ asked [] a → ⊥
nothing_left {A} {n} {p} a e = let z : gives a ≡ refused n p = sym (e ∙ sym (ends a refl)) in let q : ◌≡◌ {A = ℕ} 0 1 = cc in absurd (omega arith)

-- what is asked at a place says exactly whether what stands there is good, or with which number and place it is bad
pub record Exact {At : Type 0} (asks : At → List Question) (Fine : At → Type 0) (Wrong : At → ℕ → ℕ → Type 0) : Type 0 where
  pub is_fine : (at : At) → gives tt ≡ fault (asks at) → Fine at
  pub fine_is : (at : At) → Fine at → gives tt ≡ fault (asks at)
  pub is_wrong : (at : At) (number place : ℕ) → refused number place ≡ fault (asks at) → Wrong at number place
  pub wrong_is : (at : At) (number place : ℕ) → Wrong at number place → refused number place ≡ fault (asks at)

-- things one after another: what is asked of k of them from a place on, and the place of the i-th
pub record Row {At : Type 0} (asks : At → List Question) : Type 0 where
  pub next : At → At
  pub nth : ℕ → At → At
  pub all : ℕ → At → List Question
  pub here : (at : At) → at ≡ nth 0 at
  pub later : (at : At) (i : ℕ) → nth i (next at) ≡ nth (suc i) at
  pub none : (at : At) → all 0 at ≡ []
  pub more : (k : ℕ) (at : At) → all (suc k) at ≡ asks at ++ all k (next at)

-- the first fault of k things: the i-th is bad and those before it are good
pub record FirstBad {At : Type 0} (nth : ℕ → At → At) (Fine : At → Type 0) (Wrong : At → ℕ → ℕ → Type 0) (k : ℕ) (at : At) (number place : ℕ) : Type 0 where
  pub i : ℕ
  pub within : i < k
  pub before : (j : ℕ) → j < i → Fine (nth j at)
  pub bad : Wrong (nth i at) number place

module _ {At : Type 0} (asks : At → List Question) (r : Row asks) (Fine : At → Type 0) (Wrong : At → ℕ → ℕ → Type 0) (exact : Exact asks Fine Wrong) where
  -- the thing i + 1 is thing i of the rest
  fines : (k : ℕ) (at : At) → Fine at → ((j : ℕ) → j < k → Fine (r.nth j (r.next at))) → (j : ℕ) → j < suc k → Fine (r.nth j at)
  fines k at g f zero l = subst Fine (r.here at) g
  fines k at g f (suc j) l = subst Fine (r.later at j) (f j (le_of_suc-le-suc l))

  first_fine : (k : ℕ) (at : At) → ((j : ℕ) → j < suc k → Fine (r.nth j at)) → Fine at
  first_fine k at f = subst Fine (sym (r.here at)) (f 0 (suc-le-suc zero-le))

  rest_fine : (k : ℕ) (at : At) → ((j : ℕ) → j < suc k → Fine (r.nth j at)) → (j : ℕ) → j < k → Fine (r.nth j (r.next at))
  rest_fine k at f j l = subst Fine (sym (r.later at j)) (f (suc j) (suc-le-suc l))

  one_more : (k : ℕ) (at : At) → fault (asks at ++ r.all k (r.next at)) ≡ fault (r.all (suc k) at)
  one_more k at = ap fault (sym (r.more k at))

  -- nothing stands against k of them: all are good
  pub all_fine : (k : ℕ) (at : At) → gives tt ≡ fault (r.all k at) → (j : ℕ) → j < k → Fine (r.nth j at)
  all_fine zero at e j l = absurd (omega arith)
  all_fine (suc k) at e j l =
      let q = passed_both (asks at) (r.all k (r.next at)) (tt {0}) (tt {0}) (e ∙ sym (one_more k at)) in
      fines k at (exact.is_fine at q.0) (all_fine k (r.next at) q.1) j l

  pub fine_all : (k : ℕ) (at : At) → ((j : ℕ) → j < k → Fine (r.nth j at)) → gives tt ≡ fault (r.all k at)
  fine_all zero at f = ends (tt {0}) refl ∙ ap fault (sym (r.none at))
  fine_all (suc k) at f =
      passes_all (asks at) (r.all k (r.next at)) (tt {0}) (tt {0}) (exact.fine_is at (first_fine k at f)) (fine_all k (r.next at) (rest_fine k at f)) ∙ one_more k at

  bad_now : (k : ℕ) (at : At) (number place : ℕ) → Wrong at number place → FirstBad r.nth Fine Wrong (suc k) at number place
  bad_now k at number place b = record {
    i = 0;
    within = suc-le-suc zero-le;
    before = λ j l. absurd (omega arith);
    bad = subst (λ (p : At). Wrong p number place) (r.here at) b;
  }

  bad_later : (k : ℕ) (at : At) (number place : ℕ) → Fine at → FirstBad r.nth Fine Wrong k (r.next at) number place → FirstBad r.nth Fine Wrong (suc k) at number place
  bad_later k at number place g f = record {
    i = suc f.i;
    within = suc-le-suc f.within;
    before = fines f.i at g f.before;
    bad = subst (λ (p : At). Wrong p number place) (r.later at f.i) f.bad;
  }

  pub first_bad : (k : ℕ) (at : At) (number place : ℕ) → refused number place ≡ fault (r.all k at) → FirstBad r.nth Fine Wrong k at number place
  first_bad zero at number place e = absurd (nothing_left (tt {0}) (e ∙ ap fault (r.none at)))
  first_bad (suc k) at number place e =
      part_cases (asks at) (r.all k (r.next at)) (tt {0}) (tt {0}) (e ∙ sym (one_more k at))
      (λ f. bad_now k at number place (exact.is_wrong at number place f))
      (λ g f. bad_later k at number place (exact.is_fine at g) (first_bad k (r.next at) number place f))

  pub bad_first : (i k : ℕ) (at : At) (number place : ℕ) → i < k → ((j : ℕ) → j < i → Fine (r.nth j at)) → Wrong (r.nth i at) number place → refused number place ≡ fault (r.all k at)
  bad_first i zero at number place l f b = absurd (omega arith)
  bad_first zero (suc k) at number place l f b =
      stops_first (asks at) (r.all k (r.next at)) (tt {0}) (tt {0}) number place
      (exact.wrong_is at number place (subst (λ (p : At). Wrong p number place) (sym (r.here at)) b)) refl ∙ one_more k at
  bad_first (suc i) (suc k) at number place l f b =
      passes_all (asks at) (r.all k (r.next at)) (tt {0}) (tt {0}) (exact.fine_is at (first_fine i at f))
      (bad_first i k (r.next at) number place (le_of_suc-le-suc l) (rest_fine i at f) (subst (λ (p : At). Wrong p number place) (sym (r.later at i)) b)) ∙ one_more k at

-- one in each `step` bytes
pub run_none : (step : ℕ) (asks : ℕ → List Question) (at : ℕ) → run step asks 0 at ≡ []
unfolding run
run_none step asks at = refl

pub run_more : (step : ℕ) (asks : ℕ → List Question) (k at : ℕ) → run step asks (suc k) at ≡ asks at ++ run step asks k (at + step)
unfolding run
run_more step asks k at = refl

abbrev pub steps : (step : ℕ) (asks : ℕ → List Question) → Row asks
steps step asks = record {
  next = λ at. at + step;
  nth = λ i at. at + step * i;
  all = run step asks;
  here = λ at. omega arith;
  later = λ at i. omega arith;
  none = run_none step asks;
  more = run_more step asks;
}

-- ---- coordinates

grid_is : (c : Coordinate) → is_on_grid c ≡ true → (g : ℕ) × (c ≡ Grid g)
grid_is (Grid g) e = (g, refl)
grid_is (OffGrid x) e = let z : ◌≡◌ {A = ℕ} 0 1 = cc in absurd (omega arith)
grid_is NotFinite e = let z : ◌≡◌ {A = ℕ} 0 1 = cc in absurd (omega arith)

bad_is : (order : ℕ) (s : List ℕ) (at : ℕ) → at + 8 ≤ length s → (c : Coordinate) → coordinate_at order s at ≡ c → is_on_grid c ≡ false → Bad order s at (refusal_of c)
bad_is order s at h (Grid g) e f = let z : ◌≡◌ {A = ℕ} 0 1 = cc in absurd (omega arith)
bad_is order s at h (OffGrid x) e f = off_grid h x e
bad_is order s at h NotFinite e f = not_finite h e

-- a bad coordinate is refused at its own place
abbrev pub BadAt : ℕ → List ℕ → ℕ → ℕ → ℕ → Type 0
BadAt order s at number place = Bad order s at number × (place ≡ at)

module _ (order : ℕ) (s : List ℕ) where
  one : (at : ℕ) → fault (coordinate_asks order s at) ≡ scanned 1 order s at
  unfolding run
  one at = refl

  coordinate_bad : (at number place : ℕ) → refused number place ≡ fault (coordinate_asks order s at) → BadAt order s at number place
  coordinate_bad at number place e =
      ask_cases (BadAt order s at) (leb (at + 8) (length s)) 20 at _ (tt {0}) e
      (λ f. (cut (leb-false (at + 8) (length s) f), refl))
      (λ t r.
      ask_cases (BadAt order s at) (is_on_grid (coordinate_at order s at)) (refusal_of (coordinate_at order s at)) at [] (tt {0}) r
      (λ f. (bad_is order s at (leb-true (at + 8) (length s) t) (coordinate_at order s at) refl f, refl))
      (λ t2 r2. absurd (nothing_left (tt {0}) r2)))

  bad_answer : (at : ℕ) {number : ℕ} → Bad order s at number → refused number at ≡ scanned 1 order s at
  bad_answer at (cut h) = cut_short 0 order s at tt h refl
  bad_answer at (not_finite h e) = faulty_there 0 order s at tt h (sym (ap refusal_of e)) (λ z. absurd (omega arith)) refl
  bad_answer at (off_grid h x e) = faulty_there 0 order s at tt h (sym (ap refusal_of e)) (λ z. absurd (omega arith)) refl

  pub coordinate_exact : Exact (coordinate_asks order s) (Good order s) (BadAt order s)
  coordinate_exact = record {
    is_fine = λ at e. let c = coordinate_passed 0 order s at tt (e ∙ one at) in (c.0, grid_is (coordinate_at order s at) c.1);
    fine_is = λ at g. fine_there 0 order s at tt g.0 (sym (ap refusal_of g.1.1)) refl (no_more order s (at + 8) tt refl) ∙ sym (one at);
    is_wrong = coordinate_bad;
    wrong_is = λ at number place b. ap (refused number) b.1 ∙ bad_answer at b.0 ∙ sym (one at);
  }

  pub all_good : (k at : ℕ) → gives tt ≡ scanned k order s at → (j : ℕ) → j < k → Good order s (at + 8 * j)
  all_good = all_fine (coordinate_asks order s) (steps 8 (coordinate_asks order s)) (Good order s) (BadAt order s) coordinate_exact
