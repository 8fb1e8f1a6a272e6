-- Each refusal is given exactly when every rule before it is kept and its own breaks, at the lowest place. Assumes nothing.
use mathlib.Core.Path.{◌≡◌, refl, sym, ap, subst, ◌∙◌}
use mathlib.Core.Logic.{◌↔◌, ◌⊎◌, inl, inr}
use mathlib.Core.Bool.{Bool, true, false, true≢false, not, ◌||◌}
use mathlib.Core.List.{List, [], ◌∷◌}
use Prim.Native.Nat.{ℕ, ◌+◌, ◌*◌, ◌/◌, ◌%◌, ◌<◌}
use native.Mathlib.Decide.{ℕ_discrete}
use native.Mathlib.Omega.{arith}
use lib.IntN.{pos}
use lib.Signed.{lt_z, ◌<ℤ◌}
use Rattle.laws.specs.First.{first, any, at_first}
use Rattle.laws.proofs.Search.{first_is, first_hit, at_hit, at_none, first-none}
use Rattle.laws.proofs.Test.{plain, any_iff, false_iff, not_iff, and_iff, or_iff, eqb_iff, ltb_iff, leb_iff, less_iff}
use Rattle.sheet.specs.Office.{Office, points, sides, triangles, area, double, same_side, tail, head, rims}
use Rattle.sheet.specs.Verdict.{Verdict, accepted, refused, whenever, verdict}
use Rattle.sheet.specs.Acceptable.{Single}
use Rattle.sheet.specs.Rules.{Rule, Lowest, Kept, Given, once, rules}
use Rattle.sheet.proofs.Side.{Place, place}
use Rattle.sheet.proofs.Single.{Earlier, single_of}
use Rattle.sheet.proofs.Rim.{rim_iff}
use Rattle.sheet.proofs.OneRing.{one_ring_iff}

bool_cases : (b : Bool) → (b ≡ true) ⊎ (b ≡ false)
bool_cases true = inl refl
bool_cases false = inr refl

either : {a b : Bool} {A B : Type 0} → (a ≡ true) ↔ A → (b ≡ true) ↔ B → ((a || b) ≡ true) ↔ (A ⊎ B)
either {a} {b} f g = (
  (λ e. elim ((or_iff {a = a} {b = b}).0 e) [ inl h ↦ inl (f.0 h) | inr h ↦ inr (g.0 h) ]),
  (λ s. (or_iff {a = a} {b = b}).1 (elim s [ inl h ↦ inl (f.1 h) | inr h ↦ inr (g.1 h) ])),
)

neither : {a : Bool} {A : Type 0} → (a ≡ true) ↔ A → (not a ≡ true) ↔ (A → ⊥)
neither f = ((λ e h. not_iff.0 e (f.1 h)), (λ n. not_iff.1 (λ e. n (f.0 e))))

-- one more rule in front: a test that is asked at n places, and what it says there
module _ (k n j p : ℕ) (test : ℕ → Bool) (Broken : ℕ → Type 0) (other : Verdict) (rs : List Rule) (says : (i : ℕ) → (test i ≡ true) ↔ Broken i) where
  abbrev rule : Rule
  rule = record { number = k; places = n; Broken = Broken }

  in_front : (Kept rule → (other ≡ refused j p) ↔ Given rs j p) → (at_first test n (refused k) other ≡ refused j p) ↔ Given (rule ∷ rs) j p
  unfolding Given at_first
  in_front rest = (forth (any test n) refl, back)
    where
      clear : any test n ≡ false → Kept rule
      clear e i l b = true≢false (sym ((any_iff {test = test}).1 (i, l, (says i).1 b)) ∙ e)

      here : refused k (first test n) ≡ refused j p → any test n ≡ true → (j ≡ k) × Lowest rule p
      here e t =
          let (x, l, y) = (any_iff {test = test}).0 t in
          let same : first test n ≡ p = cc in
          let f = first_is test n in
          let b : first test n < n = ltb_iff.0 t in
          ((cc), (subst (λ q. q < n) same b, subst Broken same ((says (first test n)).0 (f.hit b)), λ q m h. true≢false (sym ((says q).1 h) ∙ f.clear q (omega arith))))

      forth : (b : Bool) → any test n ≡ b → at_first test n (refused k) other ≡ refused j p → Given (rule ∷ rs) j p
      forth true t e = inl (here (rw (t, at_first) at e) t)
      forth false t e = inr (clear t, (rest (clear t)).0 (rw (t, at_first) at e))

      back : Given (rule ∷ rs) j p → at_first test n (refused k) other ≡ refused j p
      back (inl (e, (l, b, none))) =
          let f = first_hit test n p l (λ q m. false_iff.1 (λ t. none q m ((says q).0 t))) ((says p).1 b) in
          sym (at_hit test n p (refused k) (refused j p) other (sym f) l (ap (λ i. refused i p) e))
      back (inr (kept, g)) =
          let f = first-none test n (λ q m. false_iff.1 (λ t. kept q m ((says q).0 t))) in
          sym (at_none test n n (refused k) (refused j p) other (sym f) (omega arith) (sym ((rest kept).1 g)))

-- the same for a test that is asked once
module _ (k j p : ℕ) (test : Bool) (Wrong : Type 0) (other : Verdict) (rs : List Rule) (says : (test ≡ true) ↔ Wrong) where
  asked_once : ((Wrong → ⊥) → (other ≡ refused j p) ↔ Given rs j p) → (whenever test k other ≡ refused j p) ↔ Given (once k Wrong ∷ rs) j p
  unfolding Given
  asked_once rest = (forth test refl, back)
    where
      right : test ≡ false → Wrong → ⊥
      right e w = true≢false (sym (says.1 w) ∙ e)

      forth : (b : Bool) → test ≡ b → whenever test k other ≡ refused j p → Given (once k Wrong ∷ rs) j p
      forth true t e = let f : refused k 0 ≡ refused j p = rw t at e in inl ((cc), ((let z : 0 ≡ p = cc in omega arith), says.0 t, λ q m h. absurd (let z : 0 ≡ p = cc in omega arith)))
      forth false t e = inr ((λ q m. right t), (rest (right t)).0 (rw t at e))

      back : Given (once k Wrong ∷ rs) j p → whenever test k other ≡ refused j p
      back (inl (e, (l, w, none))) = rw (says.1 w) (let z : p ≡ 0 = omega arith in (cc))
      back (inr (kept, g)) = rw (false_iff.1 (λ t. kept 0 (omega arith) (says.0 t))) ((rest (kept 0 (omega arith))).1 g)

module _ (o : Office) where
  -- a side of triangle t that also stands in an earlier one
  double_iff : (t : ℕ) → (double o t ≡ true) ↔ ((s r : ℕ) × (s / 3 ≡ t) × (r / 3 < t) × (tail o r ≡ tail o s) × (head o r ≡ head o s))
  double_iff t = (
    (λ e. elim (three.0 e) [ inl (inl h) ↦ found (t * 3) (omega arith) h | inl (inr h) ↦ found (t * 3 + 1) (omega arith) h | inr h ↦ found (t * 3 + 2) (omega arith) h ]),
    (λ (s, r, i, l, x, y). three.1 (step s r i l (x, y) (place s))),
  )
    where
      Repeated : Type 0
      Repeated = (s r : ℕ) × (s / 3 ≡ t) × (r / 3 < t) × (tail o r ≡ tail o s) × (head o r ≡ head o s)

      three : (double o t ≡ true) ↔ ((Earlier o t (t * 3) ⊎ Earlier o t (t * 3 + 1)) ⊎ Earlier o t (t * 3 + 2))
      three = either (either (below (t * 3)) (below (t * 3 + 1))) (below (t * 3 + 2))
        where
          below : (s : ℕ) → (any (same_side o s) (t * 3) ≡ true) ↔ Earlier o t s
          below s = ((λ e. simp plain at e), (λ h. simp plain h))

      found : (s : ℕ) → s / 3 ≡ t → Earlier o t s → Repeated
      found s i (r, l, (x, y)) = (s, r, i, omega arith, x, y)

      step : (s r : ℕ) → s / 3 ≡ t → r / 3 < t → (tail o r ≡ tail o s) × (head o r ≡ head o s) → Place s → (Earlier o t (t * 3) ⊎ Earlier o t (t * 3 + 1)) ⊎ Earlier o t (t * 3 + 2)
      step s r i l h (inl e) = inl (inl (subst (Earlier o t) (omega arith) (r, omega arith, h)))
      step s r i l h (inr (inl e)) = inl (inr (subst (Earlier o t) (omega arith) (r, omega arith, h)))
      step s r i l h (inr (inr e)) = inr (subst (Earlier o t) (omega arith) (r, omega arith, h))

accepted_not : (m j p : ℕ) → (accepted m ≡ refused j p) ↔ Given [] j p
unfolding Given
accepted_not m j p = ((λ e. let z : ◌≡◌ {A = ℕ} 0 1 = cc in omega arith), (λ f. absurd f))

pub refused_exactly : (room : Bool) (o : Office) (k p : ℕ) → (verdict room o ≡ refused k p) ↔ Given (rules room o) k p
unfolding verdict
refused_exactly room o k p =
    asked_once 1 k p _ _ _ _ (neither eqb_iff) (λ paired.
    asked_once 2 k p _ _ _ _ (either ltb_iff ltb_iff) (λ few.
    asked_once 3 k p _ _ _ _ (either (either eqb_iff (neither eqb_iff)) ltb_iff) (λ third.
    asked_once 4 k p _ _ _ _ (neither ((λ e. e), (λ e. e))) (λ roomy.
    in_front 5 (points o) k p _ _ _ _ (λ i. either ltb_iff ltb_iff) (λ small.
    in_front 6 (points o) k p _ _ _ _ (λ i. ((λ e. let (q, l, (x, y)) = simp plain at e in (q, l, x, y)), (λ (q, l, x, y). simp plain (q, l, (x, y))))) (λ distinct.
    in_front 7 (sides o) k p _ _ _ _ (λ i. leb_iff) (λ numbered.
    in_front 8 (triangles o) k p _ _ _ _ (λ i. neither less_iff) (λ left.
    in_front 9 (triangles o) k p _ _ _ _ (double_iff o) (λ new.
    in_front 10 (points o) k p _ _ _ _ (λ i. ((λ e s l h. (simp plain at e) (s, l, h)), (λ f. simp plain (λ (s, l, h). f s l h)))) (λ used.
    in_front 11 (triangles o) k p _ _ _ _ (λ i. ((λ e. simp plain at e), (λ h. simp plain h))) (λ empty.
    asked_once 12 k p _ _ _ _ (neither (one_ring_iff o (whole third) (single third left new))) (λ ring.
    in_front 13 (points o) k p _ _ _ _ (λ i. ((λ e. let (s, l, (r, h)) = simp (any_iff, and_iff, less_iff) at e in (s, l, (rim_iff o s).0 r, h)), (λ (s, l, r, h). simp (any_iff, and_iff, less_iff) (s, l, ((rim_iff o s).1 r, h))))) (λ hull.
    accepted_not (rims o) k p)))))))))))))
  where
    whole : ((((sides o ≡ 0) ⊎ (sides o % 3 ≡ 0 → ⊥)) ⊎ (6129 < sides o)) → ⊥) → sides o % 3 ≡ 0
    whole third = elim (ℕ_discrete (sides o % 3) 0) [ yes e ↦ e | no f ↦ absurd (third (inl (inr f))) ]

    single : ((((sides o ≡ 0) ⊎ (sides o % 3 ≡ 0 → ⊥)) ⊎ (6129 < sides o)) → ⊥)
        → ((t : ℕ) → t < triangles o → (pos 0 <ℤ area o t → ⊥) → ⊥)
        → ((t : ℕ) → t < triangles o → ((s r : ℕ) × (s / 3 ≡ t) × (r / 3 < t) × (tail o r ≡ tail o s) × (head o r ≡ head o s)) → ⊥)
        → Single o
    single third left new = single_of o (whole third) (λ t l. positive t (left t l)) (λ t l. ((fresh t l (t * 3) (omega arith), fresh t l (t * 3 + 1) (omega arith)), fresh t l (t * 3 + 2) (omega arith)))
      where
        positive : (t : ℕ) → ((pos 0 <ℤ area o t → ⊥) → ⊥) → pos 0 <ℤ area o t
        positive t f = less_iff.0 (elim (bool_cases (lt_z (pos 0) (area o t))) [ inl e ↦ e | inr e ↦ absurd (f (λ h. true≢false (sym (less_iff.1 h) ∙ e))) ])

        fresh : (t : ℕ) → t < triangles o → (s : ℕ) → s / 3 ≡ t → Earlier o t s → ⊥
        fresh t l s i (r, b, (x, y)) = new t l (s, r, i, omega arith, x, y)
