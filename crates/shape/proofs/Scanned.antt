-- Coordinates one after another: what stands against them, and their grid numbers. Assumes nothing.
use Rattle.std.proofs.Common.{◌≡◌, ℕ, zero, suc, ◌+◌, ◌-◌, ◌*◌, ◌<◌, ◌≤◌, true, false, List, [], ◌∷◌, ◌++◌, length, drop, set, sym, refl, ap, ap₂, ◌∙◌, add_assoc, arith}
use lib.Seq.{sets}
use Rattle.laws.proofs.Put.{put_front}
use Rattle.shape.specs.declared.Coordinate.{Coordinate}
use Rattle.shape.specs.declared.Coordinate.TheVariants.{Grid, OffGrid, NotFinite}
use Rattle.shape.specs.Answers.{Question, Answer, gives, refused, asked, over}
use Rattle.shape.specs.Coordinates.{coordinate_at, refusal_of, is_on_grid, grid_number, grid_of, grid_asks, whole}
use Rattle.shape.specs.Reading.{run, row, coordinate_asks, coordinates}
use Rattle.shape.proofs.Asking.{at_place, stops, passes, stops_above, passes_below, ends, asked_both, and_then, fault, stops_first, passes_all}

-- a coordinate is on the grid just where nothing is its refusal
unrefused_on_grid : (c : Coordinate) → refusal_of c ≡ 0 → is_on_grid c ≡ true
unrefused_on_grid (Grid g) e = refl
unrefused_on_grid (OffGrid x) e = absurd (omega arith)
unrefused_on_grid NotFinite e = absurd (omega arith)

off_grid : (c : Coordinate) → (refusal_of c ≡ 0 → ⊥) → is_on_grid c ≡ false
off_grid (Grid g) f = absurd (f refl)
off_grid (OffGrid x) f = refl
off_grid NotFinite f = refl

-- the grid number of a coordinate at a place, or the rule that it breaks
pub grid_judged : (c : Coordinate) (place : ℕ) → at_place place (grid_number c) ≡ asked (grid_asks c place) (grid_of c)
unfolding asked
grid_judged (Grid g) place = refl
grid_judged (OffGrid x) place = refl
grid_judged NotFinite place = refl

-- ---- the first of some coordinates: n is what it is refused with

module _ {A : Type 0} {x : Answer A} (k order : ℕ) (s : List ℕ) (at : ℕ) (a : A) where
  pub cut_short : length s < at + 8 → x ≡ refused 20 at → x ≡ asked (coordinates (suc k) order s at) a
  unfolding run
  cut_short h e = stops_above _ _ _ _ _ _ h e

  pub faulty_there : {n : ℕ} → at + 8 ≤ length s → n ≡ refusal_of (coordinate_at order s at) → (n ≡ 0 → ⊥) → x ≡ refused n at → x ≡ asked (coordinates (suc k) order s at) a
  unfolding run
  faulty_there h q f e = passes_below _ _ _ _ _ _ h (stops _ _ _ _ _ (off_grid (coordinate_at order s at) (λ z. f (q ∙ z))) (e ∙ ap (λ (m : ℕ). refused m at) q))

  pub fine_there : {n : ℕ} → at + 8 ≤ length s → n ≡ refusal_of (coordinate_at order s at) → n ≡ 0 → x ≡ asked (coordinates k order s (at + 8)) a → x ≡ asked (coordinates (suc k) order s at) a
  unfolding run
  fine_there h q z e = passes_below _ _ _ _ _ _ h (passes _ _ _ _ _ (unrefused_on_grid (coordinate_at order s at) (sym q ∙ z)) e)

-- ... as the code finds it
module _ {A : Type 0} {x : Answer A} (k order : ℕ) (s : List ℕ) (at : ℕ) (a : A) where
  pub none_there : {n p : ℕ} → refused n p ≡ asked (whole 8 s at ∷ []) (tt {0}) → x ≡ refused n p → x ≡ asked (coordinates (suc k) order s at) a
  unfolding run
  none_there {n} {p} e h = stops_first (whole 8 s at ∷ []) (grid_asks (coordinate_at order s at) at ++ coordinates k order s (at + 8)) (tt {0}) a n p e h

  pub bad_there : {c : Coordinate} {n p : ℕ} → at + 8 ≤ length s → c ≡ coordinate_at order s at → refused n p ≡ asked (grid_asks c at) (grid_of c)
      → x ≡ refused n p → x ≡ asked (coordinates (suc k) order s at) a
  unfolding run
  bad_there {c} {n} {p} there is e h =
      passes_below _ _ _ _ _ _ there
      (stops_first (grid_asks (coordinate_at order s at) at) (coordinates k order s (at + 8)) (grid_of (coordinate_at order s at)) a n p
      (e ∙ ap (λ (d : Coordinate). asked (grid_asks d at) (grid_of d)) is) h)

  pub good_there : {c : Coordinate} {g : ℕ} → at + 8 ≤ length s → c ≡ coordinate_at order s at → gives g ≡ asked (grid_asks c at) (grid_of c)
      → x ≡ asked (coordinates k order s (at + 8)) a → x ≡ asked (coordinates (suc k) order s at) a
  unfolding run
  good_there {c} {g} there is e h =
      passes_below _ _ _ _ _ _ there
      (passes_all (grid_asks (coordinate_at order s at) at) (coordinates k order s (at + 8)) (grid_of (coordinate_at order s at)) a
      (e ∙ ap (λ (d : Coordinate). asked (grid_asks d at) (grid_of d)) is) h)

pub no_more : {A : Type 0} {x : Answer A} (order : ℕ) (s : List ℕ) (at : ℕ) (a : A) → x ≡ gives a → x ≡ asked (coordinates 0 order s at) a
unfolding run
no_more order s at a e = ends a e

-- ---- one after another: nothing, or the first fault

abbrev pub ran : ℕ → (ℕ → List Question) → ℕ → ℕ → Answer (Unit {0})
ran step asks k at = fault (run step asks k at)

abbrev pub scanned : ℕ → ℕ → List ℕ → ℕ → Answer (Unit {0})
scanned k order s at = ran 8 (coordinate_asks order s) k at

module _ (step : ℕ) (asks : ℕ → List Question) where
  pub ran_next : (k at : ℕ) → ran step asks (suc k) at ≡ and_then (fault (asks at)) (ran step asks k (at + step))
  unfolding run
  ran_next k at = asked_both (asks at) (run step asks k (at + step)) (tt {0}) (tt {0})

  pub ran_none : (at : ℕ) → gives tt ≡ ran step asks 0 at
  unfolding run
  ran_none at = ends tt refl

  -- a turn of a loop over n of them: the i-th stands at `at`
  module _ (n i at : ℕ) (h : i < n) where
    turn : ran step asks (n - i) at ≡ and_then (fault (asks at)) (ran step asks (n - (i + 1)) (at + step))
    turn =
        let e : n - i ≡ suc (n - (i + 1)) = omega arith in
        ap (λ (k : ℕ). ran step asks k at) e ∙ ran_next (n - (i + 1)) at

    pub stop : (k p : ℕ) → refused k p ≡ fault (asks at) → refused k p ≡ ran step asks (n - i) at
    stop k p e = sym (turn ∙ ap (λ (f : Answer (Unit {0})). and_then f (ran step asks (n - (i + 1)) (at + step))) (sym e))

    pub go_on : gives tt ≡ fault (asks at) → ran step asks (n - (i + 1)) (at + step) ≡ ran step asks (n - i) at
    go_on e = sym (turn ∙ ap (λ (f : Answer (Unit {0})). and_then f (ran step asks (n - (i + 1)) (at + step))) (sym e))

  pub ran_end : (n i at : ℕ) → n ≤ i → gives tt ≡ ran step asks (n - i) at
  ran_end n i at h =
      let e : 0 ≡ n - i = omega arith in
      ran_none at ∙ ap (λ (k : ℕ). ran step asks k at) e

  -- a loop over n of them from a place on: what is left from the i-th on has the fault of the whole
  module _ (n at : ℕ) where
    abbrev pub from : ℕ → Answer (Unit {0})
    from i = ran step asks (n - i) (at + step * i)

    pub from_first : from 0 ≡ ran step asks n at
    from_first =
        let e : n - 0 ≡ n = omega arith in
        let f : at + step * 0 ≡ at = omega arith in
        ap₂ (ran step asks) e f

    pub from_stop : (i : ℕ) → i < n → {k p : ℕ} → refused k p ≡ fault (asks (at + step * i)) → refused k p ≡ from i
    from_stop i h {k} {p} e = stop n i (at + step * i) h k p e

    pub from_next : (i : ℕ) → i < n → gives tt ≡ fault (asks (at + step * i)) → from (i + 1) ≡ from i
    from_next i h e =
        let f : at + step * (i + 1) ≡ at + step * i + step = omega arith in
        ap (ran step asks (n - (i + 1))) f ∙ go_on n i (at + step * i) h e

    pub from_last : (i : ℕ) → n ≤ i → gives tt ≡ from i
    from_last i h = ran_end n i (at + step * i) h

-- positions are coordinates, two at a time
two_more : (k order : ℕ) (s : List ℕ) (at : ℕ) → coordinates (suc (suc k)) order s at ≡ coordinates 2 order s at ++ coordinates k order s (at + 16)
unfolding run
two_more k order s at = ap (λ (n : ℕ). coordinates 2 order s at ++ coordinates k order s n) (add_assoc at 8 8)

pub positions_asked : (n order : ℕ) (s : List ℕ) (at : ℕ) → run 16 (coordinates 2 order s) n at ≡ coordinates (2 * n) order s at
unfolding run
positions_asked zero order s at = refl
positions_asked (suc n) order s at =
    let e : suc (suc (2 * n)) ≡ 2 * suc n = omega arith in
    ap (λ (qs : List Question). coordinates 2 order s at ++ qs) (positions_asked n order s (at + 16))
    ∙ sym (two_more (2 * n) order s at) ∙ ap (λ (k : ℕ). coordinates k order s at) e

-- ---- the numbers that stand one after another

-- ---- numbers put into a list, n things' from a place on

-- nothing is left to put
pub put_none : (parts : ℕ → ℕ → List ℕ) → ((at : ℕ) → parts 0 at ≡ []) → (n i at from : ℕ) → n ≤ i → (l : List ℕ) → l ≡ sets l from (parts (n - i) at)
put_none parts none n i at from h l =
    let e : 0 ≡ n - i = omega arith in
    ap (sets l from) (sym (none at) ∙ ap (λ (k : ℕ). parts k at) e)

-- the list has them in front, and past them stays
pub filled_list : (parts : ℕ → ℕ → List ℕ) (n m at : ℕ) → n ≡ m → (old new : List ℕ) → length (parts n at) ≤ length old → new ≡ sets old 0 (parts n at)
    → new ≡ over (gives n) (parts m at) old
filled_list parts n m at is old new h e =
    e ∙ put_front (parts n at) old h ∙ ap (λ (k : ℕ). parts k at ++ drop (length (parts k at)) old) is

module _ (step : ℕ) (number : ℕ → ℕ) where
  pub row_length : (k at : ℕ) → length (row step number k at) ≡ k
  unfolding row
  row_length zero at = refl
  row_length (suc k) at = ap suc (row_length k (at + step))

  row_next : (k at : ℕ) → row step number (suc k) at ≡ number at ∷ row step number k (at + step)
  unfolding row
  row_next k at = refl

  row_none : (at : ℕ) → row step number 0 at ≡ []
  unfolding row
  row_none at = refl

  -- a turn of a loop that puts n of them into a list
  pub fill_step : (n i at : ℕ) → i < n → (l next : List ℕ) → next ≡ set l i (number at)
      → sets next (i + 1) (row step number (n - (i + 1)) (at + step)) ≡ sets l i (row step number (n - i) at)
  fill_step n i at h l next e =
      let one : i + 1 ≡ suc i = omega arith in
      let k : n - i ≡ suc (n - (i + 1)) = omega arith in
      let more : List ℕ = row step number (n - (i + 1)) (at + step) in
      ap (λ (m : ℕ). sets next m more) one ∙ ap (λ (v : List ℕ). sets v (suc i) more) e
      ∙ ap (sets l i) (sym (ap (λ (m : ℕ). row step number m at) k ∙ row_next (n - (i + 1)) at))

  pub fill_end : (n i at : ℕ) → n ≤ i → (l : List ℕ) → l ≡ sets l i (row step number (n - i) at)
  fill_end n i at h l = put_none (row step number) row_none n i at i h l

  pub filled_row : (n m at : ℕ) → n ≡ m → (old new : List ℕ) → n ≤ length old → new ≡ sets old 0 (row step number n at)
      → new ≡ over (gives n) (row step number m at) old
  filled_row n m at is old new h e =
      let l : length (row step number n at) ≡ n = row_length n at in
      filled_list (row step number) n m at is old new (omega arith) e

  -- a loop that puts the n that stand from a place on into a list: with i of them put, what is left makes of the list what the whole makes of it
  module _ (n at : ℕ) (old : List ℕ) where
    abbrev pub Filling : ℕ → List ℕ → Type 0
    Filling i l = sets l i (row step number (n - i) (at + step * i)) ≡ sets old 0 (row step number n at)

    pub filling_next : (i : ℕ) → i < n → (l next : List ℕ) → Filling i l → next ≡ set l i (number (at + step * i)) → Filling (i + 1) next
    filling_next i h l next f e =
        let p : at + step * (i + 1) ≡ at + step * i + step = omega arith in
        ap (λ (p : ℕ). sets next (i + 1) (row step number (n - (i + 1)) p)) p ∙ fill_step n i (at + step * i) h l next e ∙ f

    pub filling_last : (i : ℕ) → n ≤ i → (l : List ℕ) → Filling i l → l ≡ sets old 0 (row step number n at)
    filling_last i h l f = fill_end n i (at + step * i) h l ∙ f
