-- What parsing leaves, case by case. Assumes nothing.
use Prim.Native.Nat.{ℕ, ◌+◌, ◌*◌, ◌/◌, ◌≤◌, ◌-◌}
use mathlib.Core.Path.{◌≡◌, sym, ap, ap₂, ◌∙◌}
use mathlib.Core.Bool.{Bool, true, false, ◌&&◌, ◌||◌}
use mathlib.Core.List.{List, ◌++◌}
use mathlib.Core.Option.{none, some}
use native.Mathlib.Omega.{arith}
use borrow.Author.Tests.{eqb-true}
use lib.Dec.{leb, ltb}
use lib.ListN.{length, get_or, take, drop}
use Rattle.std.proofs.lemmas.Bool.Decides.{nat_tests}
use Rattle.laws.specs.First.{table}
use Rattle.laws.proofs.Fill.{length-table}
use Rattle.laws.proofs.Test.{and_iff}
use Rattle.listing.proofs.Laying.{coordinates, across, up, round}
use Rattle.listing.specs.Text.{numbers, parsed, counted, point_count, triangle_count, sheet}
use Rattle.listing.specs.Answer.{counts, refused, AfterParse, over, parsing, after_parse}

-- a list is too short for the points or the sides
short : (x y k n s : ℕ) → ((ltb x n || ltb y n) || ltb k s) ≡ true → ((leb n x && leb n y) && leb s k) ≡ false
short x y k n s h = grind (arith, nat_tests)

-- none is
roomy : (x y k n s : ℕ) → ((ltb x n || ltb y n) || ltb k s) ≡ false → ((leb n x && leb n y) && leb s k) ≡ true
roomy x y k n s h = grind (arith, nat_tests)

module _ (text xs ys corners : List ℕ) where
  abbrev pub untouched : ℕ → AfterParse
  untouched number = record { answer = refused number 0; xs = xs; ys = ys; corners = corners }

  pub after_no_numbers : numbers text ≡ none → after_parse text xs ys corners ≡ untouched 40
  unfolding parsed parsing
  after_no_numbers e = rw (e, parsing)

  module _ (ns : List ℕ) (e : numbers text ≡ some ns) where
    pub after_no_counts : counted ns ≡ false → after_parse text xs ys corners ≡ untouched 40
    unfolding parsed parsing
    after_no_counts k = rw (e, k, parsing)

    module _ (k : counted ns ≡ true) where
      abbrev too_short : Bool
      too_short = (ltb (length xs) (point_count ns) || ltb (length ys) (point_count ns)) || ltb (length corners) (3 * triangle_count ns)

      office : parsed text ≡ some (sheet ns)
      unfolding parsed
      office = rw (e, k)

      sizes : (leb (length (sheet ns).xs) (length xs) && leb (length (sheet ns).xs) (length ys)) && leb (length (sheet ns).corners) (length corners)
          ≡ ((leb (point_count ns) (length xs) && leb (point_count ns) (length ys)) && leb (3 * triangle_count ns) (length corners))
      sizes = rw (length-table (λ i. get_or ns (2 + 2 * i) 0) (point_count ns), length-table (λ s. get_or ns (2 + 2 * point_count ns + s) 0) (3 * triangle_count ns))

      pub after_short : too_short ≡ true → after_parse text xs ys corners ≡ untouched 4
      unfolding parsing
      after_short h = rw (office, parsing) (rw (sizes ∙ short (length xs) (length ys) (length corners) (point_count ns) (3 * triangle_count ns) h))

      after_office : too_short ≡ false → after_parse text xs ys corners ≡ record {
        answer = counts (point_count ns) (triangle_count ns);
        xs = over (sheet ns).xs xs;
        ys = over (sheet ns).ys ys;
        corners = over (sheet ns).corners corners;
      }
      unfolding parsing
      after_office h =
          let third : length (sheet ns).corners / 3 ≡ triangle_count ns = rw (length-table (λ s. get_or ns (2 + 2 * point_count ns + s) 0) (3 * triangle_count ns)) (omega arith) in
          rw (office, parsing) (rw (sizes ∙ roomy (length xs) (length ys) (length corners) (point_count ns) (3 * triangle_count ns) h) (λ i. record {
            answer = counts (length-table (λ i. get_or ns (2 + 2 * i) 0) (point_count ns) i) (third i);
            xs = over (sheet ns).xs xs;
            ys = over (sheet ns).ys ys;
            corners = over (sheet ns).corners corners;
          }))

      -- what is then put into the three lists
      pub lays : {n t : ℕ} {points rest xs' ys' front : List ℕ} → n ≡ point_count ns → t ≡ triangle_count ns
          → ((ltb (length xs) n || ltb (length ys) n) || ltb (length corners) (3 * t)) ≡ false
          → points ≡ take (2 * n) (take (length ns - 2) (drop 2 ns)) → rest ≡ drop (2 * n) (take (length ns - 2) (drop 2 ns))
          → xs' ≡ over (table (λ i. get_or points (2 * i) 0) (length points / 2)) xs
          → ys' ≡ over (table (λ i. get_or points (2 * i + 1) 0) (length points / 2)) ys
          → front ≡ rest
          → (counts n t ≡ (after_parse text xs ys corners).answer) × (xs' ≡ (after_parse text xs ys corners).xs) × (ys' ≡ (after_parse text xs ys corners).ys)
          × (front ++ drop (3 * t) corners ≡ (after_parse text xs ys corners).corners)
      lays {n} {t} {points} p q h a b x y f =
          let g = after_office (rw (p, q) at h) in
          let l : length ns ≡ 2 + 2 * point_count ns + 3 * triangle_count ns = eqb-true (length ns) (2 + 2 * point_count ns + 3 * triangle_count ns) ((and_iff {a = leb 2 (length ns)}).0 k).1 in
          let r : 2 + 2 * point_count ns ≤ length ns = omega arith in
          let o : points ≡ coordinates ns (point_count ns) r = a ∙ ap (λ (m : ℕ). take (2 * m) (take (length ns - 2) (drop 2 ns))) p in (
            ap₂ counts p q ∙ sym (ap (λ (p : AfterParse). p.answer) g),
            x ∙ ap (λ (l : List ℕ). over l xs) (ap (λ (l : List ℕ). table (λ i. get_or l (2 * i) 0) (length l / 2)) o ∙ across ns (point_count ns) r)
                ∙ sym (ap (λ (p : AfterParse). p.xs) g),
            y ∙ ap (λ (l : List ℕ). over l ys) (ap (λ (l : List ℕ). table (λ i. get_or l (2 * i + 1) 0) (length l / 2)) o ∙ up ns (point_count ns) r)
                ∙ sym (ap (λ (p : AfterParse). p.ys) g),
            ap₂ (λ (l : List ℕ) (m : ℕ). l ++ drop m corners)
                (f ∙ b ∙ ap (λ (m : ℕ). drop (2 * m) (take (length ns - 2) (drop 2 ns))) p ∙ round ns (point_count ns) r (3 * triangle_count ns) l)
                (ap (λ (m : ℕ). 3 * m) q ∙ sym (length-table (λ s. get_or ns (2 + 2 * point_count ns + s) 0) (3 * triangle_count ns)))
                ∙ sym (ap (λ (p : AfterParse). p.corners) g),
          )
