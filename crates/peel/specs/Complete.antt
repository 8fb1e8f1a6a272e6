-- Document 01, demand 3, in plain logic: the list holds every outline that any limit gives, once, at its least limit, in falling order. Assumes nothing.
use Rattle.std.specs.Prelude.{◌≡◌, ℕ, suc, ◌+◌, ◌<◌, ◌≤◌, length}
use Rattle.std.proofs.Math.Option.{some}
use Rattle.sheet.specs.Office.{Office, points}
use Rattle.rim.specs.Peel.{drawn, ring}
use Rattle.peel.specs.List.{Entry, At, entries, look, outline}

pub record Complete (o : Office) : Type 0 where
  -- at every whole-number limit, the first entry whose least limit is not above it is what a draw there gives: peels, area and ring
  pub looks_up : (limit : ℕ) → look (entries o) limit ≡ some (outline o (drawn o limit))
  -- an entry's outline is the one drawn at its least limit
  pub draws : (i : ℕ) (e : Entry) → At (entries o) i e → e.outline ≡ outline o (drawn o e.least)
  -- and no smaller limit gives its ring
  pub least : (i : ℕ) (e : Entry) (limit : ℕ) → At (entries o) i e → ring o (drawn o limit) ≡ e.outline.round → e.least ≤ limit
  -- the least limits fall strictly, and end at 0
  pub falls : (i j : ℕ) (e d : Entry) → i < j → At (entries o) i e → At (entries o) j d → d.least < e.least
  pub last : (i : ℕ) × (e : Entry) × At (entries o) i e × (suc i ≡ length (entries o)) × (e.least ≡ 0)
  -- no ring stands twice
  pub once : (i j : ℕ) (e d : Entry) → At (entries o) i e → At (entries o) j d → e.outline.round ≡ d.outline.round → i ≡ j
  -- there are two entries fewer than points, or fewer still
  pub fits : length (entries o) + 2 ≤ points o
