-- What the quick tests answer for: an office that passes them and the refusals 1 to 10 and 12 is accepted. Assumes nothing.
use mathlib.Core.Path.{◌≡◌, refl, sym, subst, ◌∙◌}
use mathlib.Core.Logic.{inl, inr}
use mathlib.Core.Bool.{Bool, true, false, not, ◌&&◌, ◌||◌}
use Prim.Native.Nat.{ℕ, ◌+◌, ◌*◌, ◌/◌, ◌%◌, ◌<◌}
use native.Mathlib.Decide.{ℕ_discrete}
use native.Mathlib.Omega.{arith}
use lib.Dec.{ltb, eqb}
use lib.IntN.{ℤ, pos}
use lib.Signed.{◌<ℤ◌, lt_z}
use Rattle.laws.specs.First.{first}
use Rattle.laws.specs.Round.{Round}
use Rattle.laws.proofs.Search.{first_is}
use Rattle.laws.proofs.Test.{plain, first_of, any_iff, not_iff, neither_iff, and_iff, false_iff, ltb_iff, eqb_iff, less_iff}
use Rattle.sheet.specs.Plane.{spot, turn, circle}
use Rattle.sheet.specs.Office.{Office, points, sides, triangles, invaded, next, last, point, tail, head, apex, reverse, rim, mate_of, one_ring, rims}
use Rattle.sheet.specs.Acceptable.{Left, Single, Used, Rim, Along}
use Rattle.sheet.specs.Verdict.{accepted, rim_verdict}
use Rattle.sheet.specs.Code.{Plotted, At, leaves}
use Rattle.sheet.specs.Quick.{Ringed, Half, Convex, Clear, Clears, AllClear, Cornering, Smooth, SmoothFrom, AllSmooth, Neat, Goes, Onward, key}
use Rattle.sheet.proofs.AtPoint.{spot_at}
use Rattle.sheet.proofs.Side.{Place, place}
use Rattle.sheet.proofs.Rotate.{turn_rotates, circle_rotates, from_any}
use Rattle.sheet.proofs.Rim.{rim_iff}
use Rattle.sheet.proofs.Cancel.{differ}
use Rattle.sheet.proofs.Tiled.{parted_of}
use Rattle.sheet.proofs.OneRing.{one_ring_iff}
use Rattle.sheet.proofs.Accepted.{first_iff, whenever_iff}
use Rattle.sheet.proofs.AtOnce.{hull_of, empty_of}

-- ---- what the tests of one side answer for
key_below : {o : Office} {p q ax ay bx by : ℕ} → At o p ax ay → At o q bx by → key (point o p) < key (point o q) → ax * 16384 + ay < bx * 16384 + by
key_below a b l = omega (arith, a.across, a.up, b.across, b.up)

module _ (o : Office) (s r : ℕ) where
  pub clear_at : {ax ay bx by cx cy dx dy : ℕ} {w : Bool} → r ≡ mate_of o.corners s
      → At o (tail o s) ax ay → At o (head o s) bx by → At o (apex o s) cx cy → At o (apex o r) dx dy
      → w ≡ lt_z (pos 0) (circle (spot ax ay) (spot bx by) (spot cx cy) (spot dx dy)) → w ≡ false → Clear o s
  clear_at m a b c d e f _ _ h =
      let i = spot_at a in
      let j = spot_at b in
      let l = spot_at c in
      let n = spot_at d in
      let g : pos 0 <ℤ circle (point o (tail o s)) (point o (head o s)) (point o (apex o s)) (point o (apex o r)) = subst (λ q. pos 0 <ℤ circle (point o (tail o s)) (point o (head o s)) (point o (apex o s)) (point o (apex o q))) (sym m) h in
      let t = less_iff.1 g in
      differ {b = true} refl cc

  pub invaded_at : {ax ay bx by cx cy dx dy : ℕ} {w : Bool} → apex o r < points o
      → At o (tail o s) ax ay → At o (head o s) bx by → At o (apex o s) cx cy → At o (apex o r) dx dy
      → w ≡ lt_z (pos 0) (circle (spot ax ay) (spot bx by) (spot cx cy) (spot dx dy)) → w ≡ true → invaded o (s / 3) ≡ true
  invaded_at l a b c d e f =
      let i = spot_at a in
      let j = spot_at b in
      let k = spot_at c in
      let n = spot_at d in
      let g = from_any (λ x y z. circle x y z (point o (apex o r))) (circle_rotates (point o (apex o r))) o s in
      any_iff.1 (apex o r, l, cc)

  pub smooth_at : {ax ay bx by cx cy p lowest : ℕ} {w : Bool} → s < sides o → r < sides o → rim o r ≡ true → p ≡ head o s → head o s ≡ tail o r
      → At o (tail o s) ax ay → At o (head o s) bx by → At o (head o r) cx cy
      → w ≡ (lt_z (turn (spot ax ay) (spot bx by) (spot cx cy)) (pos 0) || (ltb (bx * 16384 + by) (ax * 16384 + ay) && ltb (bx * 16384 + by) (cx * 16384 + cy) && not (eqb p lowest)))
      → w ≡ false → Smooth o lowest s
  smooth_at {ax} {ay} {bx} {by} {cx} {cy} {p} {lowest} ls lr z q y a b c e f x =
      let i = spot_at a in
      let j = spot_at b in
      let l = spot_at c in
      let g = (neither_iff {a = lt_z (turn (spot ax ay) (spot bx by) (spot cx cy)) (pos 0)}).0 (sym e ∙ f) in
      record {
        side = r;
        onward = (ls, lr, x, (rim_iff o r).0 z, y);
        bends = λ h. let t = less_iff.1 h in differ {b = true} refl cc;
        low = λ u v. elim (ℕ_discrete p lowest) [
          | yes n ↦ sym q ∙ n
          | no n ↦ absurd (false_iff.0 g.1 (and_iff.1 (and_iff.1 (ltb_iff.1 (key_below b a u), ltb_iff.1 (key_below b c v)), not_iff.1 (λ t. n (eqb_iff.0 t)))))
        ];
      }

-- the three corners of triangle t, from each of its sides on
module _ (o : Office) (t : ℕ) {area : ℤ} {ax ay bx by cx cy : ℕ} (a : At o (tail o (t * 3)) ax ay) (b : At o (tail o (t * 3 + 1)) bx by) (c : At o (tail o (t * 3 + 2)) cx cy) (e : area ≡ turn (spot ax ay) (spot bx by) (spot cx cy)) where
  moved : {i x y : ℕ} (j : ℕ) → i ≡ j → At o (tail o i) x y → At o (tail o j) x y
  moved {i} {x} {y} j f h = subst (λ k. At o (tail o k) x y) f h

  pub second_cornering : Cornering o (t * 3 + 1) area bx by cx cy ax ay
  second_cornering = record { from = b; to = moved (next (t * 3 + 1)) (omega arith) c; third = moved (last (t * 3 + 1)) (omega arith) a; turns = e ∙ turn_rotates _ _ _ }

  pub third_cornering : Cornering o (t * 3 + 2) area cx cy ax ay bx by
  third_cornering = record { from = c; to = moved (next (t * 3 + 2)) (omega arith) a; third = moved (last (t * 3 + 2)) (omega arith) b; turns = e ∙ turn_rotates _ _ _ ∙ turn_rotates _ _ _ }

-- each side is one of its triangle's three
pub all_clear : (o : Office) → sides o % 3 ≡ 0 → ((t : ℕ) → t < triangles o → Clears o t) → AllClear o
all_clear o whole clears s l = step (place s) (clears (s / 3) (omega arith))
  where
    step : Place s → Clears o (s / 3) → Clear o s
    step (inl h) (x, y, z) = subst (Clear o) (sym h) x
    step (inr (inl h)) (x, y, z) = subst (Clear o) (sym h) y
    step (inr (inr h)) (x, y, z) = subst (Clear o) (sym h) z

-- the first rim side from a point, and the first from where it ends
module _ (o : Office) (p s q r : ℕ) (i : s ≡ first (leaves o.corners p) (sides o)) (l : s < sides o) (e : q ≡ head o s) (j : r ≡ first (leaves o.corners q) (sides o)) (m : r < sides o) where
  leaving_is : {x y : ℕ} → y ≡ first (leaves o.corners x) (sides o) → y < sides o → (tail o y ≡ x) × (rim o y ≡ true)
  leaving_is {x} {y} h b =
      let t = subst (λ z. leaves o.corners x z ≡ true) (sym h) ((first_is (leaves o.corners x) (sides o)).hit (omega arith)) in
      let (u, v) = (and_iff {a = eqb (tail o y) x}).0 t in
      (eqb_iff.0 u, v)

  pub smooth_from : {ax ay bx by cx cy lowest : ℕ} {w : Bool} → At o p ax ay → At o q bx by → At o (head o r) cx cy
      → w ≡ (lt_z (turn (spot ax ay) (spot bx by) (spot cx cy)) (pos 0) || (ltb (bx * 16384 + by) (ax * 16384 + ay) && ltb (bx * 16384 + by) (cx * 16384 + cy) && not (eqb q lowest)))
      → w ≡ false → SmoothFrom o lowest p
  smooth_from {ax} {ay} {bx} {by} {lowest = lowest} a b c f g _ =
      subst (Smooth o lowest) i (smooth_at o s r l m (leaving_is j m).1 e (sym e ∙ sym (leaving_is j m).0)
      (subst (λ k. At o k ax ay) (sym (leaving_is i l).0) a) (subst (λ k. At o k bx by) e b) c f g)

-- ---- all of them
-- a side's mate is the one side that runs back along it
half_of : (o : Office) → Single o → AllClear o → Half o
half_of o single clear s r l b w h =
    let (m, e) = first_of (reverse o s) (sides o) r b (simp plain w) in
    let t = simp plain at e in
    let same : mate_of o.corners s ≡ r = single _ r m b (t.0 ∙ sym w.0) (t.1 ∙ sym w.1) in
    clear s (omega arith) (omega arith) (omega arith) (subst (λ q. pos 0 <ℤ circle (point o (tail o s)) (point o (head o s)) (point o (apex o s)) (point o (apex o q))) (sym same) h)

-- one rim side goes on from another
convex_of : (o : Office) → ((s : ℕ) → s < sides o → tail o s < points o) → Single o → {m : ℕ} → Round (Along o) m → AllSmooth o → Convex o
convex_of o numbered single ring (lowest, smooth) = record {
  bends = λ s r w h. let g = goes s w.0 w.2 in g.bends (subst (λ q. turn (point o (tail o s)) (point o (head o s)) (point o (head o q)) <ℤ pos 0) (same s r w g) h);
  lowest = lowest;
  lows = λ s r w x y. let g = goes s w.0 w.2 in g.low x (subst (λ q. key (point o (head o s)) < key (point o (head o q))) (same s r w g) y);
}
  where
    -- in a ring no other rim side starts where s does
    goes : (s : ℕ) → s < sides o → Rim o s → Goes o lowest s
    goes s l x =
        let (b, t) = first_of (leaves o.corners (tail o s)) (sides o) s l (and_iff.1 ((eqb_iff {a = tail o s}).1 refl, (rim_iff o s).1 x)) in
        let (u, v) = (and_iff {a = eqb (tail o (first (leaves o.corners (tail o s)) (sides o))) (tail o s)}).0 t in
        let y = (rim_iff o (first (leaves o.corners (tail o s)) (sides o))).0 v in
        subst (Goes o lowest) (parted_of o single ring (first (leaves o.corners (tail o s)) (sides o)) s b l y x (eqb_iff.0 u)) (smooth (tail o s) (numbered s l) b y)

    same : (s r : ℕ) → Onward o s r → (g : Goes o lowest s) → r ≡ g.side
    same s r w g = parted_of o single ring r g.side w.1 g.onward.1 w.3 g.onward.3 (sym w.4 ∙ g.onward.4)

module _ (o : Office) (p : Plotted o) (left : Left o) (single : Single o) (used : Used o) where
  ringed : one_ring o ≡ true → Ringed o
  ringed one = record {
    whole = p.whole;
    small = p.small;
    distinct = p.distinct;
    numbered = p.numbered;
    left = left;
    single = single;
    used = used;
    ring = (one_ring_iff o p.whole single).0 one;
  }

  -- the refusals 11 and 13 pass such an office
  pub neat_accepted : one_ring o ≡ true → Neat o → rim_verdict o ≡ accepted (rims o)
  neat_accepted one neat =
      let a = ringed one in
      let c = convex_of o p.numbered single a.ring.1 neat.smooth in
      simp (whenever_iff, first_iff, plain) (
        (λ t b (q, m, h). empty_of a c (half_of o single neat.clear) t q b m h),
        ((simp plain at one), ((λ q b (s, m, (w, h)). hull_of a c s q m (λ x y z. w (x, y, z)) b h), refl)),
      )
