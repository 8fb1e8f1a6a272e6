-- A side with no mate above it is not asked. Assumes nothing.
use Rattle.std.proofs.Common.{◌≡◌, ◌<◌, ℕ, true, false, ◌||◌, leb, length, refl, subst, ◌∙◌, arith}
use mathlib.Core.Logic.{inl, inr}
use Rattle.laws.proofs.Fill.{table_at}
use Rattle.laws.proofs.Test.{or_iff, leb_iff, neither_iff, plain}
use Rattle.sheet.specs.Office.{tail, last, mate_of}
use Rattle.sheet.specs.Code.{At}
use Rattle.sheet.specs.Values.{office_of}
use Rattle.sheet.proofs.Cancel.{differ}
use Rattle.sheet.proofs.Neat.{clear_at, invaded_at}
use Rattle.sheet.proofs.Side.{last_below}
use Rattle.sheet.proofs.spots.Mesh.is_held.Goals as goal

not_asked : {m r s n : ℕ} → m ≡ r → (leb m s || leb n m) ≡ true → s < r → r < n → ⊥
not_asked {m} {r} {s} {n} e t l b = elim ((or_iff {a = leb m s}).0 t) [ inl x ↦ (let y = (leb_iff {a = m} {b = s}).0 x in omega arith) | inr x ↦ (let y = (leb_iff {a = n} {b = m}).0 x in omega arith) ]

below : {m n : ℕ} (s : ℕ) → (leb m s || leb n m) ≡ false → m < n
below {m} {n} s e = let t = (neither_iff {a = leb m s} {b = leb n m}).0 e in let u = simp plain at t.1 in omega arith

pub returns-then-r-s : goal.returns-then-r-s
returns-then-r-s c =
    let m = c.args.self.now in
    let mate_is = c.from-r.ensures ∙ table_at (mate_of m.plot.corners.now) (length m.plot.corners.now) m.mate.now c.args.s m.mated c.requires.side in
    ((λ e l b h. not_asked mate_is c.if-r-s.true l b), (λ e. differ e refl))

pub returns : goal.returns
returns c =
    let m = c.args.self.now in
    let o = office_of m.plot in
    let r = c.from-r.result in
    let mate_is = c.from-r.ensures ∙ table_at (mate_of m.plot.corners.now) (length m.plot.corners.now) m.mate.now c.args.s m.mated c.requires.side in
    let d = subst (λ k. At o (tail o k) c.corner.result.x c.corner.result.y) c.last_of.ensures c.corner.ensures in
    (clear_at o c.args.s r mate_is c.requires.cornering.from c.requires.cornering.to c.requires.cornering.third d c.holds.ensures, invaded_at o c.args.s r (m.plot.plotted.numbered (last r) (last_below _ r m.plot.plotted.whole (below c.args.s c.if-r-s.false))) c.requires.cornering.from c.requires.cornering.to c.requires.cornering.third d c.holds.ensures)
