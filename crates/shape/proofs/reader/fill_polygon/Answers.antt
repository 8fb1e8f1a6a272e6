-- `shape::reader::fill_polygon` meets its contract: the polygon is taken, so its ring is there and has room.
use Rattle.std.proofs.Common.{◌≡◌, ℕ, ◌+◌, ◌-◌, ap, ◌∙◌, arith}
use Rattle.std.proofs.lemmas.List.Edits.{sets}
use Rattle.shape.specs.Reading.{grids, order_at, length_at}
use Rattle.shape.proofs.Polygons.{polygon_good}
use Rattle.shape.proofs.reader.fill_polygon.Goals as goal

pub bounds-s-at : goal.bounds-s-at
bounds-s-at c = let r = polygon_good c.args.s.now c.args.at _ _ c.requires in omega (arith, r.whole)

pub overflow_add-at : goal.overflow_add-at
overflow_add-at c = let r = polygon_good c.args.s.now c.args.at _ _ c.requires in omega (arith, r.whole)

pub number4-requires : goal.number4-requires
number4-requires c = let r = polygon_good c.args.s.now c.args.at _ _ c.requires in omega (arith, r.whole)

pub overflow_sub-n : goal.overflow_sub-n
overflow_sub-n c = let r = polygon_good c.args.s.now c.args.at _ _ c.requires in omega (arith, c.number4.ensures, r.head.counted)

pub overflow_add-at-2 : goal.overflow_add-at-2
overflow_add-at-2 c = let r = polygon_good c.args.s.now c.args.at _ _ c.requires in omega (arith, r.whole)

pub fill-requires-clause-n_in_bounds : goal.fill-requires-clause-n_in_bounds
fill-requires-clause-n_in_bounds c = let r = polygon_good c.args.s.now c.args.at _ _ c.requires in omega (arith, r.whole, c.number4.ensures)

pub fill-requires-clause-lists_in_bounds : goal.fill-requires-clause-lists_in_bounds
fill-requires-clause-lists_in_bounds c =
    let r = polygon_good c.args.s.now c.args.at _ _ c.requires in
    (omega (arith, r.head.fits, c.number4.ensures), omega (arith, r.head.fits, c.number4.ensures))

pub returns : goal.returns
returns c =
    let s = c.args.s.now in
    let o = order_at s c.args.at in
    let n : c.number4.result - 1 ≡ length_at s c.args.at = ap (λ (k : ℕ). k - 1) c.number4.ensures in
    record {
      value = n;
      xs_after = c.fill.ensures.xs_after ∙ ap (λ (k : ℕ). sets c.args.xs.now 0 (grids k o s (c.args.at + 13))) n;
      ys_after = c.fill.ensures.ys_after ∙ ap (λ (k : ℕ). sets c.args.ys.now 0 (grids k o s (c.args.at + 13 + 8))) n;
    }
