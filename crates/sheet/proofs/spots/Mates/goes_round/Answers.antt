-- A walk that marks where it has been. Assumes nothing.
use Rattle.std.proofs.Common.{◌≡◌, ◌<◌, ℕ, Bool, true, false, ◌&&◌, List, length, get_or, eqb, sym, ap, ap₂, subst, ◌∙◌, arith}
use native.Mathlib.Decide.{dec_lt}
use lib.ListN.{replicate, length-set, length-replicate, get_or-replicate, get_or-eq_default}
use Rattle.laws.specs.First.{walk, stepped, once}
use Rattle.laws.proofs.Visit.{visits_none, visits_one, visits_twice, visits_all}
use Rattle.sheet.specs.Office.{bare, after, start}
use Rattle.sheet.specs.Code.{Numbered}
use Rattle.sheet.proofs.spots.Mates.goes_round.Goals as goal

-- every corner, and what stands for none, is within the array
low : (corners : List ℕ) → Numbered corners 1024 → (s : ℕ) → get_or corners s 0 < 1024
low corners n s = elim (dec_lt s (length corners)) [ yes l ↦ n s l | no f ↦ (let e = get_or-eq_default corners 0 {n = s} (omega arith) in omega arith) ]

clean : (q : ℕ) → get_or (replicate 1024 false) q false ≡ false
clean q = elim (dec_lt q 1024) [
  | yes l ↦ get_or-replicate 1024 q false false l
  | no f ↦ get_or-eq_default (replicate 1024 false) false {n = q} (let e = length-replicate {A = Bool} 1024 false in omega arith)
]

pub loop-init : goal.loop-init
loop-init c = (visits_none clean c.rim_start-begun.ensures, subst (λ q. q < 1024) (sym c.rim_start-begun.ensures) (low c.args.self.now.corners.now c.requires.1 _), length-replicate {A = Bool} 1024 false)

pub loop-preserved : goal.loop-preserved
loop-preserved c = (
  visits_one c.loop.invariant.0 c.loop-test.true (omega (arith, c.loop.invariant.1, c.loop.invariant.2)) (λ e. absurd (let z : true ≡ false = sym e ∙ c.if-seen-p.false in cc)) c.onward-p.ensures,
  subst (λ q. q < 1024) (sym c.onward-p.ensures) (low c.args.self.now.corners.now c.requires.1 _),
  simp length-set c.loop.invariant.2,
)

module _ (corners : List ℕ) (rim : ℕ) where
  abbrev new : Bool
  new = once (walk (after (bare corners)) (start (bare corners)) rim)

  abbrev back : Bool
  back = eqb (stepped (after (bare corners)) (start (bare corners)) rim) (start (bare corners))

  no_round : new ≡ false → false ≡ (new && back)
  no_round e = sym (ap (λ b. b && back) e)

  round_is : {here : Bool} → new ≡ true → here ≡ back → here ≡ (new && back)
  round_is e f = f ∙ sym (ap (λ b. b && back) e)

pub returns-then-seen-p : goal.returns-then-seen-p
returns-then-seen-p c = no_round c.args.self.now.corners.now c.args.rim (visits_twice c.loop.invariant.0 c.loop-test.true c.if-seen-p.true)

pub returns : goal.returns
returns c =
    let (once_is, here) = visits_all c.loop.invariant.0 (omega (arith, c.loop-test.false)) in
    round_is c.args.self.now.corners.now c.args.rim once_is (ap₂ eqb here c.rim_start-begun.ensures)
