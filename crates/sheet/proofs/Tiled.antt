-- An acceptable office is a tiling. Assumes nothing.
use mathlib.Core.Path.{◌≡◌, refl, sym, ◌∙◌}
use Prim.Native.Nat.{ℕ, ◌<◌}
use Rattle.laws.proofs.Round.{same_way}
use Rattle.laws.specs.Round.{Round}
use Rattle.sheet.specs.Office.{Office, sides, tail, head}
use Rattle.sheet.specs.Acceptable.{Rim, Along, Single, Acceptable}
use Rattle.sheet.proofs.Tiling.{Tiling}

-- from a point of a round there is one way on
pub parted_of : (o : Office) → Single o → {m : ℕ} → Round (Along o) m → (s r : ℕ) → s < sides o → r < sides o → Rim o s → Rim o r → tail o s ≡ tail o r → s ≡ r
parted_of o single ring s r ls lr is ir e =
    let (i, x, y) = ring.all (tail o s) (head o s) (s, ls, is, refl, refl) in
    let (j, u, w) = ring.all (tail o r) (head o r) (r, lr, ir, refl, refl) in
    single s r ls lr e (sym y ∙ same_way ring i j 1 (x ∙ e ∙ sym u) ∙ w)

pub tiling : {o : Office} → Acceptable o → Tiling o
tiling {o} a = record {
  whole = a.corners_bound.1;
  distinct = a.distinct;
  numbered = a.numbered;
  left = a.left;
  single = a.single;
  used = a.used;
  parted = parted_of o a.single a.ring.1;
  hull = a.hull;
}
