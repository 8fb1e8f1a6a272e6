-- Document 02, 2/13: renumbering points and triangles changes the outline only by that renumbering, and the starting place with it, at every
-- limit and in the list. Assumes nothing.
use mathlib.Core.Path.{◌≡◌, sym, ap, subst, ◌∙◌}
use Prim.Native.Nat.{ℕ, ◌%◌, ◌<◌}
use lib.ListN.{get_or}
use Rattle.sheet.specs.Office.{Office, sides, triangles}
use Rattle.sheet.specs.Acceptable.{Acceptable}
use Rattle.sheet.specs.Renumbered.{Renumbered}
use Rattle.sheet.proofs.Matched.{Matched}
use Rattle.sheet.proofs.Places.{matched, matched_number, matched_triangle}
use Rattle.rim.specs.Peel.{on_rim, drawn}
use Rattle.peel.specs.List.{outline, entries}
use Rattle.peel.specs.Renamed.{Renamed, Paired}
use Rattle.peel.proofs.MatchedMarks.{on_rim_same}
use Rattle.peel.proofs.MatchedDraw.{mark_moved, drawn_carried}
use Rattle.peel.proofs.MatchedList.{drawn_renamed, entries_paired}

pub record SameOutlines {o n : Office} (re : Renumbered o n) : Type 0 where
  -- at every limit the same triangles are kept
  pub keeps : (limit t : ℕ) → t < triangles o → get_or (drawn n limit) (re.triangle.to t) 0 ≡ get_or (drawn o limit) t 0
  -- the same points are on the rim
  pub rims : (limit p : ℕ) → on_rim n (drawn n limit) (re.number.to p) ≡ on_rim o (drawn o limit) p
  -- and the outline is the renumbered one, begun at its lowest new number, with as many peels and the same area
  pub draws : (limit : ℕ) → Renamed re.number.to (outline o (drawn o limit)) (outline n (drawn n limit))
  -- the lists agree entry by entry in least limit, peels and area, and their rings are the renumbered ones
  pub lists : Paired re.number.to (entries o) (entries n)

pub renumbering : {o n : Office} (re : Renumbered o n) → Acceptable o → SameOutlines re
renumbering {o} {n} re a = record {
  keeps = λ limit t l. ap (λ u. get_or (drawn n limit) u 0) (sym (matched_triangle re whole t)) ∙ mark_moved w a (drawn_carried w a limit) t l;
  rims = λ limit p. ap (λ b. on_rim n (drawn n limit) (b.to p)) (sym (matched_number re whole)) ∙ on_rim_same w a (drawn_carried w a limit) p;
  draws = λ limit. subst (λ b. Renamed b.to (outline o (drawn o limit)) (outline n (drawn n limit))) (matched_number re whole) (drawn_renamed w a limit);
  lists = subst (λ b. Paired b.to (entries o) (entries n)) (matched_number re whole) (entries_paired w a);
}
  where
    whole : sides o % 3 ≡ 0
    whole = a.corners_bound.1

    w : Matched o n
    w = matched re whole
