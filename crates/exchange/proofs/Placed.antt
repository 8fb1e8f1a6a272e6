-- What stands at a place as it was written is read there: a byte order and a type, and a position, in either byte order. Assumes nothing.
use Prim.Native.Nat.{ℕ, suc, ◌+◌, ◌^◌, ◌<◌, ◌≤◌}
use mathlib.Core.Path.{◌≡◌, refl, sym, ap, ◌∙◌, subst}
use mathlib.Core.List.{List, ◌∷◌, ◌++◌, append_assoc}
use native.Mathlib.Omega.{arith}
use lib.ListN.{length, drop, get_or}
use lib.Seq.{drop-drop, get_or-drop}
use lib.IntN.{pos}
use lib.Ieee.{binary64, of_bits, of_int}
use lib.Ieee.Bits.{to_bits-lt}
use lib.Ieee.Fits.{of_int-fits}
use Rattle.shape.specs.declared.Coordinate.TheVariants.{Grid}
use Rattle.shape.specs.Answers.{gives}
use Rattle.shape.specs.Bytes.{in_order, number_at}
use Rattle.shape.specs.Coordinates.{coordinate, encode, coordinate_at, refusal_of}
use Rattle.shape.specs.Writing.{position}
use Rattle.shape.specs.Reading.{order_at}
use Rattle.shape.specs.Refusals.{Typed}
use Rattle.shape.proofs.Judgements.{judge_encode}
use Rattle.shape.proofs.Scanned.{scanned, fine_there}
use Rattle.exchange.proofs.Words.{word_at, word_past, word_room}

-- ---- a byte order and a type

pub record Begun (s : List ℕ) (at order type : ℕ) (more : List ℕ) : Type 0 where
  pub is_order : order_at s at ≡ order
  pub typed : Typed s at type
  pub after : drop (at + 5) s ≡ more

pub begun : (s : List ℕ) (at order type : ℕ) (more : List ℕ) → order ≤ 1 → type < 256 ^ 4 → drop at s ≡ order ∷ (in_order order 4 type ++ more) → Begun s at order type more
begun s at order type more two small e =
    let z : at + 0 ≡ at = omega arith in
    let o : order_at s at ≡ order = ap (λ (i : ℕ). get_or s i 0) (sym z) ∙ sym (get_or-drop at s 0 0) ∙ ap (λ (l : List ℕ). get_or l 0 0) e in
    let w : drop (at + 1) s ≡ in_order order 4 type ++ more = sym (drop-drop 1 at s) ∙ ap (drop 1) e in
    let p : at + 5 ≡ at + 1 + 4 = omega arith in
    let l : at + 1 + 4 ≤ length s = word_room order s (at + 1) 4 type more w (omega arith) in
    record {
      is_order = o;
      typed = ((omega arith, subst (λ (k : ℕ). k ≤ 1) (sym o) two), omega arith, ap (λ (k : ℕ). number_at 4 k s (at + 1)) o ∙ word_at order s (at + 1) 4 type more w small);
      after = ap (λ (i : ℕ). drop i s) p ∙ word_past order s (at + 1) 4 type more w;
    }

-- ---- a position

encode_lt : (g : ℕ) → encode g < 256 ^ 8
encode_lt g = to_bits-lt binary64 (of_int binary64 (pos g)) (of_int-fits binary64 (pos g))

pub record Placed (order : ℕ) (s : List ℕ) (at x y : ℕ) (more : List ℕ) : Type 0 where
  pub x_is : coordinate_at order s at ≡ Grid x
  pub y_is : coordinate_at order s (at + 8) ≡ Grid y
  pub x_there : at + 8 ≤ length s
  pub y_there : at + 8 + 8 ≤ length s
  pub after : drop (at + 16) s ≡ more

module _ (order : ℕ) (s : List ℕ) where
  -- a grid number's bytes at a place are that number there
  coordinate_back : (at g : ℕ) (more : List ℕ) → g ≤ 16383 → drop at s ≡ in_order order 8 (encode g) ++ more → coordinate_at order s at ≡ Grid g
  coordinate_back at g more h e = ap (λ (b : ℕ). coordinate (of_bits binary64 b)) (word_at order s at 8 (encode g) more e (encode_lt g)) ∙ judge_encode g (omega arith)

  pub position_back : (at x y : ℕ) (more : List ℕ) → x ≤ 16383 → y ≤ 16383 → drop at s ≡ position order x y ++ more → Placed order s at x y more
  position_back at x y more hx hy e =
      let dx : drop at s ≡ in_order order 8 (encode x) ++ (in_order order 8 (encode y) ++ more) = e ∙ append_assoc (in_order order 8 (encode x)) (in_order order 8 (encode y)) more in
      let dy : drop (at + 8) s ≡ in_order order 8 (encode y) ++ more = word_past order s at 8 (encode x) (in_order order 8 (encode y) ++ more) dx in
      let p : at + 16 ≡ at + 8 + 8 = omega arith in
      record {
        x_is = coordinate_back at x (in_order order 8 (encode y) ++ more) hx dx;
        y_is = coordinate_back (at + 8) y more hy dy;
        x_there = word_room order s at 8 (encode x) _ dx (omega arith);
        y_there = word_room order s (at + 8) 8 (encode y) more dy (omega arith);
        after = ap (λ (i : ℕ). drop i s) p ∙ word_past order s (at + 8) 8 (encode y) more dy;
      }

  -- nothing stands against it
  pub placed_scanned : (k at x y : ℕ) (more : List ℕ) → Placed order s at x y more → gives tt ≡ scanned k order s (at + 16) → gives tt ≡ scanned (suc (suc k)) order s at
  placed_scanned k at x y more p e =
      let q : at + 16 ≡ at + 8 + 8 = omega arith in
      fine_there (suc k) order s at tt p.x_there (sym (ap refusal_of p.x_is)) refl
      (fine_there k order s (at + 8) tt p.y_there (sym (ap refusal_of p.y_is)) refl (e ∙ ap (scanned k order s) q))
