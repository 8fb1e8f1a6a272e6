-- A side is on the rim where its triangle is kept and its mate is absent or not kept. Assumes nothing.
use mathlib.Core.Path.{◌≡◌, refl, sym, ap, ap₂, subst, ◌∙◌}
use mathlib.Core.Bool.{true, not, ◌&&◌}
use mathlib.Core.List.{List}
use Prim.Native.Nat.{ℕ, ◌/◌, ◌%◌, ◌<◌, ◌≤◌}
use native.Mathlib.Omega.{arith}
use lib.Dec.{eqb}
use lib.ListN.{length, get_or, take}
use lib.Seq.{get_or-take}
use Rattle.laws.specs.First.{first, table}
use Rattle.laws.proofs.Search.{first_is}
use Rattle.laws.proofs.Test.{plain, and_iff, not_iff, eqb_iff, same_answer, first_of}
use Rattle.laws.proofs.Fill.{table_at}
use Rattle.sheet.specs.Office.{Office, sides, reverse, office, bare, mate_of}
use Rattle.sheet.specs.Acceptable.{Single, Reverse}
use Rattle.rim.specs.Peel.{kept, rim}
use Rattle.rim.specs.Code.{front}
use Rattle.rim.proofs.Marks.{Kept, rim_iff}

reverse_iff : (o : Office) (s r : ℕ) → reverse o s r ≡ true → Reverse o s r
reverse_iff o s r e = simp plain at e

module _ (o : Office) (single : Single o) (k : List ℕ) (s : ℕ) where
  abbrev mate : ℕ
  mate = first (reverse o s) (sides o)

  pub is_mate : (r : ℕ) → r < sides o → Reverse o s r → (mate < sides o) × (r ≡ mate)
  is_mate r l v =
      let (b, e) = first_of (reverse o s) (sides o) r l (simp plain v) in
      let w = reverse_iff o s mate e in
      (b, single r mate l b (v.0 ∙ sym w.0) (v.1 ∙ sym w.1))

  pub rim_mated : mate < sides o → (kept o k s && not (kept o k mate)) ≡ rim o k s
  rim_mated l = same_answer
      (λ e. let h = (and_iff {a = kept o k s}).0 e in (rim_iff o k s).1 (eqb_iff.0 h.0, λ r m c v. not_iff.0 h.1 (eqb_iff.1 (subst (Kept k) (is_mate r m v).1 c))))
      (λ e. let h = (rim_iff o k s).0 e in and_iff.1 (eqb_iff.1 h.0, not_iff.1 (λ c. h.1 mate l (eqb_iff.0 c) (reverse_iff o s mate ((first_is (reverse o s) (sides o)).hit l)))))

  pub rim_alone : sides o ≤ mate → kept o k s ≡ rim o k s
  rim_alone l = same_answer
      (λ e. (rim_iff o k s).1 (eqb_iff.0 e, λ r m c v. let b = (is_mate r m v).0 in omega arith))
      (λ e. eqb_iff.1 ((rim_iff o k s).0 e).0)

-- the same by what the code reads: m is the mate's place
module _ (corners mates marks : List ℕ) (single : Single (bare corners)) (whole : length corners % 3 ≡ 0) (s m : ℕ) (l : s < length corners)
    (e : take (length corners) mates ≡ table (mate_of corners) (length corners)) (is : m ≡ get_or mates s 0) where
  mate_is : m ≡ mate_of corners s
  mate_is = is ∙ table_at (mate_of corners) (length corners) mates s e l

  pub rim_there : m < length corners → (eqb (get_or marks (s / 3) 0) 1 && not (eqb (get_or marks (m / 3) 0) 1)) ≡ rim (bare corners) (front corners marks) s
  rim_there b =
      let z = mate_is in
      sym (ap₂ (λ x y. eqb x 1 && not (eqb y 1)) (get_or-take (length corners / 3) marks (s / 3) 0 (omega arith)) (get_or-take (length corners / 3) marks (m / 3) 0 (omega arith)))
      ∙ ap (λ y. kept (bare corners) (front corners marks) s && not (kept (bare corners) (front corners marks) y)) z
      ∙ rim_mated (bare corners) single (front corners marks) s (omega arith)

  pub rim_absent : length corners ≤ m → eqb (get_or marks (s / 3) 0) 1 ≡ rim (bare corners) (front corners marks) s
  rim_absent b =
      let z = mate_is in
      sym (ap (λ x. eqb x 1) (get_or-take (length corners / 3) marks (s / 3) 0 (omega arith)))
      ∙ rim_alone (bare corners) single (front corners marks) s (omega arith)

-- the rim goes by the corners alone
pub rim_bare : (xs ys corners k : List ℕ) (s : ℕ) → rim (bare corners) k s ≡ rim (office xs ys corners) k s
unfolding rim
rim_bare xs ys corners k s = refl
