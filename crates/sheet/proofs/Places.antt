-- An office renumbered by its points and triangles is matched by its points and places. Assumes nothing.
use mathlib.Core.Path.{◌≡◌, refl, sym, ap, ap₂, ◌∙◌}
use Prim.Native.Nat.{ℕ, ◌+◌, ◌*◌, ◌/◌, ◌%◌, ◌<◌}
use native.Mathlib.Omega.{arith}
use Rattle.sheet.specs.Office.{Office, sides, triangles, tail, next}
use Rattle.sheet.specs.Renumbered.{Renumbered}
use Rattle.sheet.proofs.Side.{own_triangle, triangle_below, next_triangle}
use Rattle.sheet.proofs.Matched.{Matched, moved_triangle}

-- corner s, counted round, as a corner of triangle u, r further on
abbrev place : ℕ → ℕ → ℕ → ℕ
place u r s = u * 3 + (s + r) % 3

place_triangle : (u r s : ℕ) → place u r s / 3 ≡ u
place_triangle u r s = omega arith

-- r further on and twice r further on is once round
place_back : (u r s : ℕ) → place (s / 3) (r + r) (place u r s) ≡ s
place_back u r s = omega arith

place_again : (u r s : ℕ) → place (s / 3) r (place u (r + r) s) ≡ s
place_again u r s = omega arith

place_next : (u r s : ℕ) → next (place u r s) ≡ place u r (next s)
place_next u r s = ap₂ (λ v w. v * 3 + w) (place_triangle u r s) (later u (s + r) ∙ on)
  where
    later : (u x : ℕ) → (u * 3 + x % 3 + 1) % 3 ≡ (x + 1) % 3
    later u x = omega arith

    on : (s + r + 1) % 3 ≡ (next s + r) % 3
    on = omega arith

place_below : (n u r s : ℕ) → n % 3 ≡ 0 → u < n / 3 → place u r s < n
place_below n u r s w l = omega arith

module _ {o n : Office} (re : Renumbered o n) where
  there : ℕ → ℕ
  there s = place (re.triangle.to (s / 3)) (re.turned (s / 3)) s

  back : ℕ → ℕ
  back s = let t = re.triangle.from (s / 3) in place t (re.turned t + re.turned t) s

  back_there : (s : ℕ) → back (there s) ≡ s
  unfolding there back
  back_there s =
      ap (λ t. place t (re.turned t + re.turned t) (there s)) (ap re.triangle.from (place_triangle _ (re.turned (s / 3)) s) ∙ re.triangle.from_to (s / 3))
      ∙ place_back (re.triangle.to (s / 3)) (re.turned (s / 3)) s

  there_back : (s : ℕ) → there (back s) ≡ s
  unfolding there back
  there_back s =
      let t = re.triangle.from (s / 3) in
      ap (λ u. place (re.triangle.to u) (re.turned u) (back s)) (place_triangle t (re.turned t + re.turned t) s)
      ∙ ap (λ u. place u (re.turned t) (back s)) (re.triangle.to_from (s / 3))
      ∙ place_again t (re.turned t) s

  next_there : (s : ℕ) → next (there s) ≡ there (next s)
  unfolding there
  next_there s = place_next (re.triangle.to (s / 3)) (re.turned (s / 3)) s ∙ ap (λ t. place (re.triangle.to t) (re.turned t) (next s)) (sym (next_triangle s))

  module _ (whole : sides o % 3 ≡ 0) where
    whole_there : sides n % 3 ≡ 0
    whole_there = ap (λ s. s % 3) re.as_many_corners ∙ whole

    third : (s : ℕ) → s < sides o → s / 3 < triangles o
    third s = triangle_below (sides o) s whole

    corner_there : (s : ℕ) → s < sides o → tail n (there s) ≡ re.number.to (tail o s)
    unfolding there
    corner_there s l =
        ap (tail n) (omega arith)
        ∙ re.corner (s / 3) (s % 3) (third s l) (omega arith)
        ∙ ap (λ i. re.number.to (tail o i)) (omega arith)

    pub matched : Matched o n
    unfolding there back
    matched = record {
      numbers = re.number;
      places = record {
        to = there;
        from = back;
        from_to = back_there;
        to_from = there_back;
        to_below = λ s l. place_below (sides n) _ _ s whole_there (re.triangle.to_below (s / 3) (third s l));
        from_below = λ s l. place_below (sides o) _ _ s whole (re.triangle.from_below (s / 3) (triangle_below (sides n) s whole_there l));
      };
      paired = re.as_many_ys;
      same_x = re.same_x;
      same_y = re.same_y;
      corner = corner_there;
      onward = λ s l. next_there s;
    }

    -- with the same new numbers
    pub matched_number : matched.numbers ≡ re.number
    unfolding matched
    matched_number = refl

    pub matched_triangle : (t : ℕ) → moved_triangle matched t ≡ re.triangle.to t
    unfolding matched there
    matched_triangle t = place_triangle _ (re.turned (t * 3 / 3)) (t * 3) ∙ ap re.triangle.to (own_triangle t)
