-- `exchange::districts::fill_parts` meets its contract.
use Rattle.std.proofs.Common.{◌≡◌, ℕ, ◌+◌, ◌-◌, min, length, refl, sym, ap, ◌∙◌, subst, arith}
use Rattle.std.proofs.lemmas.List.Edits.{sets}
use Rattle.std.proofs.Math.Nat.{sub-add-eq, le_refl}
use borrow.Rule.Slice.PartMut.{mid_of, put_mid, mid_len}
use Rattle.laws.proofs.Put.{put_rest}
use Rattle.shape.specs.Answers.{asked}
use Rattle.shape.specs.Reading.{length_at, polygon_asks, xs_at, ys_at}
use Rattle.shape.proofs.Scanned.{put_none}
use Rattle.exchange.specs.Districts.{parts_xs, parts_ys, part_lengths}
use Rattle.exchange.proofs.Parts.{past, Fine, part_fine, part_ring, rest_fine, xs_step, ys_step, lengths_step, no_xs, no_ys, no_lengths}
use Rattle.exchange.proofs.districts.fill_parts.Goals as goal

pub loop-i-init : goal.loop-i-init
loop-i-init c =
    let s = c.args.s.now in
    let m = min (length c.args.xs.now) (length c.args.ys.now) in
    let e : c.args.k - 0 ≡ c.args.k = omega arith in
    let f : m - 0 ≡ m = omega arith in
    record {
      within = omega arith;
      fine = subst (λ (k : ℕ). Fine s k c.args.at (m - 0)) (sym e) (subst (Fine s c.args.k c.args.at) (sym f) c.requires.at_value);
      xs_same = ap (λ (k : ℕ). sets c.args.xs.now 0 (parts_xs s k c.args.at)) e;
      ys_same = ap (λ (k : ℕ). sets c.args.ys.now 0 (parts_ys s k c.args.at)) e;
      lengths_same = ap (λ (k : ℕ). sets c.args.lengths.now 0 (part_lengths s k c.args.at)) e;
    }

pub fill_polygon-n-requires : goal.fill_polygon-n-requires
fill_polygon-n-requires c =
    let l = c.loop-i in
    let m = min (length c.args.xs.now) (length c.args.ys.now) in
    let e : m - l.from ≡ min (length (mid_of l.from (length l.xs - l.from) l.xs)) (length (mid_of l.from (length l.ys - l.from) l.ys)) =
    omega (arith, mid_len l.from (length l.xs) l.xs (le_refl _), mid_len l.from (length l.ys) l.ys (le_refl _)) in
    part_fine c.args.s.now c.args.k l.i l.place (m - l.from) c.loop-i-test.true l.invariant.fine
    ∙ ap (λ (room : ℕ). asked (polygon_asks c.args.s.now l.place room) (length_at c.args.s.now l.place)) e

pub overflow_cast-lengths : goal.overflow_cast-lengths
overflow_cast-lengths c =
    let l = c.loop-i in
    let q = c.fill_polygon-n in
    let r = part_ring c.args.s.now c.args.k l.i l.place _ c.loop-i-test.true l.invariant.fine q.result q.ensures.value in
    omega (arith, r.head.most)

pub overflow_mul-place : goal.overflow_mul-place
overflow_mul-place c =
    let l = c.loop-i in
    let q = c.fill_polygon-n in
    let r = part_ring c.args.s.now c.args.k l.i l.place _ c.loop-i-test.true l.invariant.fine q.result q.ensures.value in
    omega (arith, r.head.most)

pub overflow_add-place : goal.overflow_add-place
overflow_add-place c =
    let l = c.loop-i in
    let q = c.fill_polygon-n in
    let r = part_ring c.args.s.now c.args.k l.i l.place _ c.loop-i-test.true l.invariant.fine q.result q.ensures.value in
    omega (arith, r.head.most)

pub overflow_add-place-in-loop-i : goal.overflow_add-place-in-loop-i
overflow_add-place-in-loop-i c =
    let l = c.loop-i in
    let q = c.fill_polygon-n in
    let r = part_ring c.args.s.now c.args.k l.i l.place _ c.loop-i-test.true l.invariant.fine q.result q.ensures.value in
    omega (arith, r.whole)

pub overflow_add-from : goal.overflow_add-from
overflow_add-from c =
    let l = c.loop-i in
    let q = c.fill_polygon-n in
    let r = part_ring c.args.s.now c.args.k l.i l.place _ c.loop-i-test.true l.invariant.fine q.result q.ensures.value in
    omega (arith, r.head.fits, l.invariant.within)

pub loop-i-preserved : goal.loop-i-preserved
loop-i-preserved c =
    let s = c.args.s.now in
    let l = c.loop-i in
    let m = min (length c.args.xs.now) (length c.args.ys.now) in
    let t = c.loop-i-test.true in
    let q = c.fill_polygon-n in
    let n = q.ensures.value in
    let fine = l.invariant.fine in
    let r = part_ring s c.args.k l.i l.place (m - l.from) t fine q.result n in
    let x = ap (put_mid l.from (length l.xs - l.from) l.xs) q.ensures.xs_after ∙ put_rest l.from l.xs (xs_at s l.place) (omega (arith, l.invariant.within)) in
    let y = ap (put_mid l.from (length l.ys - l.from) l.ys) q.ensures.ys_after ∙ put_rest l.from l.ys (ys_at s l.place) (omega (arith, l.invariant.within)) in
    let less : m - l.from - q.result ≡ m - (l.from + q.result) = sym (sub-add-eq m l.from q.result) in
    record {
      within = omega (arith, r.head.fits, l.invariant.within);
      fine = subst (Fine s (c.args.k - (l.i + 1)) (past l.place q.result)) less (rest_fine s c.args.k l.i l.place (m - l.from) t fine q.result n);
      xs_same = xs_step s c.args.k l.i l.place (m - l.from) t fine q.result n l.from l.xs _ x ∙ l.invariant.xs_same;
      ys_same = ys_step s c.args.k l.i l.place (m - l.from) t fine q.result n l.from l.ys _ y ∙ l.invariant.ys_same;
      lengths_same = lengths_step s c.args.k l.i l.place (m - l.from) t fine q.result n l.lengths _ refl ∙ l.invariant.lengths_same;
    }

pub returns : goal.returns
returns c =
    let s = c.args.s.now in
    let l = c.loop-i in
    record {
      xs_after = put_none (parts_xs s) (no_xs s) c.args.k l.i l.place l.from c.loop-i-test.false l.xs ∙ l.invariant.xs_same;
      ys_after = put_none (parts_ys s) (no_ys s) c.args.k l.i l.place l.from c.loop-i-test.false l.ys ∙ l.invariant.ys_same;
      lengths_after = put_none (part_lengths s) (no_lengths s) c.args.k l.i l.place l.i c.loop-i-test.false l.lengths ∙ l.invariant.lengths_same;
    }
