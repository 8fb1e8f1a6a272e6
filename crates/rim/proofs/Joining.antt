-- A step's queue: the two sides that a peel lays bare are the mates of the other two sides of its triangle, and there is room for them. Assumes nothing.
use mathlib.Core.Path.{◌≡◌, sym, ap, subst, ◌∙◌}
use mathlib.Core.List.{List}
use Prim.Native.Nat.{ℕ, suc, ◌/◌, ◌<◌, ◌≤◌}
use native.Mathlib.Omega.{arith}
use lib.ListN.{get_or, set}
use Rattle.laws.proofs.Fill.{table_at}
use Rattle.sheet.specs.Office.{Office, sides, apex, next, last, mate_of}
use Rattle.sheet.specs.Acceptable.{Acceptable, Reverse}
use Rattle.sheet.proofs.Side.{next_below, last_below}
use Rattle.rim.specs.Peel.{mark, on_rim, peel, rims}
use Rattle.rim.specs.Reached.{Reached, more}
use Rattle.rim.specs.Code.{front, Held, State}
use Rattle.rim.specs.Heap.{Queued, Next, Joined}
use Rattle.std.specs.Prelude.{Option as Maybe, Some}
use Rattle.rim.specs.declared.answers.Side.{Side}
use Rattle.rim.proofs.Mated.{is_mate}
use Rattle.rim.proofs.OnePeel.{Peelable, outward, inward}
use Rattle.rim.proofs.Reached.{sound}
use Rattle.rim.proofs.Rings.{rims_are, rims_after, ring_fits}
use Rattle.rim.proofs.Queueing.{joins}
use Rattle.rim.proofs.Stepping.{can, front_is, on}

-- a place for each side of the rim
pub rims_low : {o : Office} {n : ℕ} {k : List ℕ} → Acceptable o → Reached o n k → rims o k ≤ 1024
rims_low {o} a r = let h = sound o a r in omega (arith, rims_are a h, ring_fits a h, a.points_bound)

pub all_fit : {o : Office} {mate kept rim : List ℕ} {peeled area ring : ℕ} → State o mate kept rim peeled area ring → rims o (front o.corners kept) ≤ 1024
all_fit h = rims_low h.held.acceptable h.reached

-- the side that runs back along side r
mate_is : {o : Office} {mate kept rim : List ℕ} → Held o mate kept rim → (r b : ℕ) → r < sides o → b < sides o → Reverse o r b → get_or mate r 0 ≡ b
mate_is {o} {mate} h r b l m v = table_at (mate_of o.corners) (sides o) mate r h.mates l ∙ sym (is_mate o h.acceptable.single mate r b m v).1

module _ {o : Office} {mate kept rim : List ℕ} {peeled area ring : ℕ} (h : State o mate kept rim peeled area ring) {queue keys : List ℕ} {n : ℕ} {found : Maybe Side}
    (g : Next o (front o.corners kept) queue keys n found) {side : Side} (f : found ≡ Some side) where
  abbrev s : ℕ
  s = side.place

  abbrev k : List ℕ
  k = front o.corners kept

  a : Acceptable o
  a = h.held.acceptable

  may : Peelable o k s
  may = can o 0 mate kept rim peeled area ring h side g.is_best f

  pub some_wait : 0 < n
  some_wait = (g.is_first side f).0

  grows : rims o (peel k s) ≡ suc (rims o k)
  grows = rims_after a h.reached s may.below may.may

  pub one_more_fits : n < 1024
  one_more_fits = omega (arith, g.queued.few, rims_low a (more s h.reached may.below may.may), grows)

  out_is : get_or mate (next s) 0 ≡ (outward a may).0
  out_is = let b = (outward a may).1 in mate_is h.held (next s) (outward a may).0 (next_below (sides o) s a.corners_bound.1 may.below) b.below b.back

  in_is : get_or mate (last s) 0 ≡ (inward a may).0
  in_is = let b = (inward a may).1 in mate_is h.held (last s) (inward a may).0 (last_below (sides o) s a.corners_bound.1 may.below) b.below b.back

  pub outward_there : get_or mate (next s) 0 < sides o
  outward_there = let e = out_is in let b = (outward a may).1.below in omega arith

  pub inward_there : get_or mate (last s) 0 < sides o
  inward_there = let e = in_is in let b = (inward a may).1.below in omega arith

  pub queued_after : {queue' keys' : List ℕ} {m : ℕ} → Joined o (set rim (apex o s) 1) queue queue' keys' n m (get_or mate (next s) 0) (get_or mate (last s) 0)
      → Queued o (front o.corners (set kept (s / 3) 0)) queue' keys' m
  queued_after {queue'} {keys'} {m} j =
      let e = front_is o 0 mate kept rim peeled area ring h side g.is_best f in
      subst (λ t. Queued o t queue' keys' m) (sym e) (joins a g.queued some_wait (g.is_first side f).1 may out_is in_is (λ p l. on o 0 mate kept rim peeled area ring h side g.is_best f p l ∙ ap (λ t. mark (on_rim o t p)) e) j grows)
