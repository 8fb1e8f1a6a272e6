-- Polygons one after another: what stands against them, their rings' numbers, and how code that goes polygon by polygon comes to both. Assumes nothing.
use Prim.Native.Nat.{ℕ, zero, suc, ◌+◌, ◌*◌, ◌-◌, ◌<◌, ◌≤◌}
use mathlib.Core.Path.{◌≡◌, refl, sym, ap, ◌∙◌, subst}
use mathlib.Core.List.{List, [], ◌∷◌, ◌++◌}
use native.Mathlib.Omega.{arith}
use lib.ListN.{length, length-append}
use lib.Seq.{sets}
use Rattle.laws.proofs.Put.{put_next}
use Rattle.shape.specs.Answers.{Answer, gives, refused, asked}
use Rattle.shape.specs.Coordinates.{grid_at}
use Rattle.shape.specs.Reading.{order_at, length_at, end, polygon_asks, xs_at, ys_at}
use Rattle.shape.proofs.Asking.{and_then, asked_both, ends, given_is}
use Rattle.shape.proofs.Scanned.{row_length}
use Rattle.shape.proofs.Heads.{passed_both}
use Rattle.shape.proofs.Polygons.{Ringed, polygon_good}
use Rattle.exchange.specs.Districts.{total, parts_asks, parts_end, part_lengths, parts_xs, parts_ys}

-- where a polygon ends that begins at a place and has a ring of length n
abbrev pub past : ℕ → ℕ → ℕ
past at n = at + (29 + 16 * n)

module _ (s : List ℕ) where
  pub past_end : (at room n : ℕ) → Ringed s at room n → past at n ≡ end s at
  past_end at room n r = omega (arith, r.head.counted)

  -- where k polygons from a place on end, or what stands against them
  abbrev pub parted : ℕ → ℕ → ℕ → Answer ℕ
  parted k at room = asked (parts_asks s k at room) (parts_end s k at)

  -- nothing does
  abbrev pub Fine : ℕ → ℕ → ℕ → Type 0
  Fine k at room = gives (parts_end s k at) ≡ parted k at room

  -- ---- the first of them, and the rest

  parted_next : (k at room : ℕ) → parted (suc k) at room ≡ and_then (asked (polygon_asks s at room) (length_at s at)) (parted k (end s at) (room - length_at s at))
  unfolding parts_asks parts_end
  parted_next k at room = asked_both (polygon_asks s at room) (parts_asks s k (end s at) (room - length_at s at)) (length_at s at) (parts_end s k (end s at))

  parted_none : (at room : ℕ) → gives at ≡ parted 0 at room
  unfolding parts_asks parts_end
  parted_none at room = ends at refl

  pub fine_next : (k at room : ℕ) → Fine (suc k) at room → (gives (length_at s at) ≡ asked (polygon_asks s at room) (length_at s at)) × Fine k (end s at) (room - length_at s at)
  unfolding parts_asks parts_end
  fine_next k at room e = passed_both (polygon_asks s at room) (parts_asks s k (end s at) (room - length_at s at)) (length_at s at) (parts_end s k (end s at)) e

  xs_next : (k at : ℕ) → parts_xs s (suc k) at ≡ xs_at s at ++ parts_xs s k (end s at)
  unfolding parts_xs
  xs_next k at = refl

  ys_next : (k at : ℕ) → parts_ys s (suc k) at ≡ ys_at s at ++ parts_ys s k (end s at)
  unfolding parts_ys
  ys_next k at = refl

  lengths_next : (k at : ℕ) → part_lengths s (suc k) at ≡ (length_at s at ∷ []) ++ part_lengths s k (end s at)
  unfolding part_lengths
  lengths_next k at = refl

  pub no_xs : (at : ℕ) → parts_xs s 0 at ≡ []
  unfolding parts_xs
  no_xs at = refl

  pub no_ys : (at : ℕ) → parts_ys s 0 at ≡ []
  unfolding parts_ys
  no_ys at = refl

  pub no_lengths : (at : ℕ) → part_lengths s 0 at ≡ []
  unfolding part_lengths
  no_lengths at = refl

  -- ---- how long their lists are

  xs_at_length : (at : ℕ) → length (xs_at s at) ≡ length_at s at
  xs_at_length at = row_length 16 (grid_at (order_at s at) s) (length_at s at) (at + 13)

  ys_at_length : (at : ℕ) → length (ys_at s at) ≡ length_at s at
  ys_at_length at = row_length 16 (grid_at (order_at s at) s) (length_at s at) (at + 13 + 8)

  pub lengths_length : (k at : ℕ) → length (part_lengths s k at) ≡ k
  unfolding part_lengths
  lengths_length zero at = refl
  lengths_length (suc k) at = ap suc (lengths_length k (end s at))

  pub xs_length : (k at : ℕ) → length (parts_xs s k at) ≡ total (part_lengths s k at)
  unfolding parts_xs part_lengths total
  xs_length zero at = refl
  xs_length (suc k) at = length-append (xs_at s at) (parts_xs s k (end s at)) ∙ omega (arith, xs_at_length at, xs_length k (end s at))

  pub ys_length : (k at : ℕ) → length (parts_ys s k at) ≡ total (part_lengths s k at)
  unfolding parts_ys part_lengths total
  ys_length zero at = refl
  ys_length (suc k) at = length-append (ys_at s at) (parts_ys s k (end s at)) ∙ omega (arith, ys_at_length at, ys_length k (end s at))

  -- the rings of polygons that are taken have room
  pub total_fits : (k at room : ℕ) → Fine k at room → total (part_lengths s k at) ≤ room
  unfolding part_lengths total
  total_fits zero at room e = omega arith
  total_fits (suc k) at room e =
      let q = fine_next k at room e in
      omega (arith, (polygon_good s at room (length_at s at) q.0).head.fits, total_fits k (end s at) (room - length_at s at) q.1)

  -- ---- a turn of a loop over k of them: the i-th begins at `at`

  pub part_last : (k i at room : ℕ) → k ≤ i → gives at ≡ parted (k - i) at room
  part_last k i at room h =
      let e : 0 ≡ k - i = omega arith in
      parted_none at room ∙ ap (λ (m : ℕ). parted m at room) e

  module _ (k i at room : ℕ) (h : i < k) where
    more : k - i ≡ suc (k - (i + 1))
    more = omega arith

    turn : parted (k - i) at room ≡ and_then (asked (polygon_asks s at room) (length_at s at)) (parted (k - (i + 1)) (end s at) (room - length_at s at))
    turn = ap (λ (m : ℕ). parted m at room) more ∙ parted_next (k - (i + 1)) at room

    found : {a : Answer ℕ} → a ≡ asked (polygon_asks s at room) (length_at s at) → and_then a (parted (k - (i + 1)) (end s at) (room - length_at s at)) ≡ parted (k - i) at room
    found e = sym (turn ∙ ap (λ (a : Answer ℕ). and_then a (parted (k - (i + 1)) (end s at) (room - length_at s at))) (sym e))

    pub part_stops : (number place : ℕ) → refused number place ≡ asked (polygon_asks s at room) (length_at s at) → refused number place ≡ parted (k - i) at room
    part_stops number place e = found e

    pub part_passes : (n : ℕ) → gives n ≡ asked (polygon_asks s at room) (length_at s at) → parted (k - (i + 1)) (past at n) (room - n) ≡ parted (k - i) at room
    part_passes n e =
        ap (λ (p : ℕ). parted (k - (i + 1)) p (room - n)) (past_end at room n (polygon_good s at room n e))
        ∙ ap (λ (m : ℕ). parted (k - (i + 1)) (end s at) (room - m)) (given_is (polygon_asks s at room) (length_at s at) e)
        ∙ found e

    -- they are taken, and n is the length of the first ring
    module _ (fine : Fine (k - i) at room) where
      both : (gives (length_at s at) ≡ asked (polygon_asks s at room) (length_at s at)) × Fine (k - (i + 1)) (end s at) (room - length_at s at)
      both = fine_next (k - (i + 1)) at room (subst (λ (m : ℕ). Fine m at room) more fine)

      pub part_fine : gives (length_at s at) ≡ asked (polygon_asks s at room) (length_at s at)
      part_fine = both.0

      module _ (n : ℕ) (is : n ≡ length_at s at) where
        pub part_ring : Ringed s at room n
        part_ring = polygon_good s at room n (ap gives is ∙ part_fine)

        to_end : past at n ≡ end s at
        to_end = past_end at room n part_ring

        pub rest_fine : Fine (k - (i + 1)) (past at n) (room - n)
        rest_fine =
            subst (λ (p : ℕ). Fine (k - (i + 1)) p (room - n)) (sym to_end)
            (subst (λ (m : ℕ). Fine (k - (i + 1)) (end s at) (room - m)) (sym is) both.1)

        -- the first's numbers are put into a list; what is left to put makes of it what all of them make
        put_part_step : (parts : ℕ → ℕ → List ℕ) (first : List ℕ) → ((j : ℕ) → parts (suc j) at ≡ first ++ parts j (end s at))
            → (m : ℕ) → length first ≡ m → (from : ℕ) (l next : List ℕ) → next ≡ sets l from first
            → sets next (from + m) (parts (k - (i + 1)) (past at n)) ≡ sets l from (parts (k - i) at)
        put_part_step parts first each m long from l next e =
            ap (λ (v : List ℕ). sets v (from + m) (parts (k - (i + 1)) (past at n))) e
            ∙ ap (λ (p : ℕ). sets (sets l from first) (from + m) (parts (k - (i + 1)) p)) to_end
            ∙ put_next l first (parts (k - (i + 1)) (end s at)) from m long
            ∙ ap (sets l from) (sym (ap (λ (j : ℕ). parts j at) more ∙ each (k - (i + 1))))

        pub xs_step : (from : ℕ) (l next : List ℕ) → next ≡ sets l from (xs_at s at)
            → sets next (from + n) (parts_xs s (k - (i + 1)) (past at n)) ≡ sets l from (parts_xs s (k - i) at)
        xs_step from l next e = put_part_step (parts_xs s) (xs_at s at) (λ j. xs_next j at) n (xs_at_length at ∙ sym is) from l next e

        pub ys_step : (from : ℕ) (l next : List ℕ) → next ≡ sets l from (ys_at s at)
            → sets next (from + n) (parts_ys s (k - (i + 1)) (past at n)) ≡ sets l from (parts_ys s (k - i) at)
        ys_step from l next e = put_part_step (parts_ys s) (ys_at s at) (λ j. ys_next j at) n (ys_at_length at ∙ sym is) from l next e

        pub lengths_step : (l next : List ℕ) → next ≡ sets l i (n ∷ [])
            → sets next (i + 1) (part_lengths s (k - (i + 1)) (past at n)) ≡ sets l i (part_lengths s (k - i) at)
        lengths_step l next e =
            put_part_step (part_lengths s) (length_at s at ∷ []) (λ j. lengths_next j at) 1 refl i l next
            (e ∙ ap (λ (m : ℕ). sets l i (m ∷ [])) is)
