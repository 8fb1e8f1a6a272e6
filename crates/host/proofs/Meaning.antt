-- What the C function writes for an acceptable office: past the check only 32 is left to refuse, and the polygon reads back as the outline.
-- Assumes nothing.
use Prim.Native.Nat.{ℕ, ◌≤◌, ◌<◌}
use mathlib.Core.Path.{◌≡◌, sym, ◌∙◌}
use mathlib.Core.Bool.{true, cond}
use mathlib.Core.List.{List, [], ◌∷◌}
use native.Mathlib.Decide.{dec_lt}
use native.Mathlib.Omega.{arith}
use borrow.Author.Tests.{le-leb, eq-eqb}
use lib.Dec.{leb}
use lib.ListN.{length, get_or, get_or-eq_default}
use Rattle.sheet.specs.Office.{Office}
use Rattle.sheet.specs.Acceptable.{Acceptable}
use Rattle.sheet.proofs.Hull.{hull_three}
use Rattle.rim.specs.Peel.{ring, drawn}
use Rattle.peel.proofs.DrawEnds.{drawn_ends}
use Rattle.rim.proofs.Reached.{sound}
use Rattle.rim.proofs.Rings.{ring_length, ring_fits}
use Rattle.shape.specs.Answers.{gives, refused, asked}
use Rattle.shape.specs.Writing.{low, size, polygon}
use Rattle.shape.specs.Reading.{read_answer, xs_at, ys_at}
use Rattle.exchange.proofs.Lows.{low_none, low_more}
use Rattle.exchange.proofs.ReadAfterWrite.{Writable, read_after_write}
use Rattle.host.specs.Polygon.{along, writes}
use Rattle.host.proofs.Rounds.{along_length}

low_along : (l round : List ℕ) → ((p : ℕ) → get_or l p 0 ≤ 16383) → low (along l round) ≡ true
low_along l [] h = low_none
low_along l (p ∷ round) h = low_more (get_or l p 0) (along l round) (h p) (low_along l round h)

low_all : (l : List ℕ) → ((p : ℕ) → p < length l → get_or l p 0 ≤ 16383) → (p : ℕ) → get_or l p 0 ≤ 16383
low_all l h p = elim (dec_lt p (length l)) [ yes b ↦ h p b | no f ↦ (let e = get_or-eq_default l 0 {n = p} (omega arith) in omega arith) ]

module _ {o : Office} (a : Acceptable o) (limit : ℕ) where
  -- the outline's coordinates
  abbrev pub outline_xs : List ℕ
  outline_xs = along o.xs (ring o (drawn o limit))

  abbrev pub outline_ys : List ℕ
  outline_ys = along o.ys (ring o (drawn o limit))

  size_of : (3 ≤ length (ring o (drawn o limit))) × (length (ring o (drawn o limit)) ≤ 1024)
  size_of =
      let (n, _, r, _) = drawn_ends a limit in
      let s = sound o a r in
      let h = hull_three a in
      let l = ring_length a s in
      let f = ring_fits a s in
      let b = a.points_bound in
      (omega arith, omega arith)

  pub writable : Writable outline_xs outline_ys
  writable =
      let x = along_length o.xs (ring o (drawn o limit)) in
      let y = along_length o.ys (ring o (drawn o limit)) in
      let b = size_of in
      record {
        same = x ∙ sym y;
        least = omega arith;
        most = omega arith;
        low_x = low_along o.xs (ring o (drawn o limit)) (low_all o.xs (λ p l. (a.small p l).0));
        low_y = low_along o.ys (ring o (drawn o limit)) (low_all o.ys (λ p l. (a.small p (let e = a.paired in omega arith)).1));
      }

  -- an accepted office is refused with 32, where the output is too short, or not at all: 30 and 31 never come
  pub only_too_short : (out : List ℕ) → (writes outline_xs outline_ys out).answer ≡ cond (leb (size (length outline_xs)) (length out)) (gives (size (length outline_xs))) (refused 32 0)
  unfolding writes asked
  only_too_short out =
      let w = writable in
      rw (eq-eqb (length outline_xs) (length outline_ys) w.same, le-leb 3 (length outline_xs) w.least, le-leb (length outline_xs) 1024 w.most, w.low_x, w.low_y)

  -- and what is written reads back as the outline
  pub reads_back : (room : ℕ) → length outline_xs ≤ room
      → (read_answer (polygon 1 outline_xs outline_ys) room ≡ gives (length outline_xs)) × (xs_at (polygon 1 outline_xs outline_ys) 0 ≡ outline_xs) × (ys_at (polygon 1 outline_xs outline_ys) 0 ≡ outline_ys)
  reads_back room h = read_after_write 1 (omega arith) outline_xs outline_ys writable room h
