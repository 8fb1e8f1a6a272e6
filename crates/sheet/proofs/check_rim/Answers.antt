-- Each early return is its refusal, or an acceptance that the quick tests answer for. Assumes nothing.
use Rattle.std.proofs.Common.{◌≡◌, ℕ, Bool, true, false, not, ◌&&◌, List, Option, None, Some, IfNone, sym, ap, ◌∙◌}
use Rattle.std.specs.Option.{is_some}
use Rattle.laws.proofs.Search.{when_broken, when_sound}
use Rattle.laws.proofs.Find.{at_some, at_nowhere}
use Rattle.laws.proofs.Test.{and_iff}
use Rattle.sheet.specs.Office.{bare, one_ring, rims}
use Rattle.sheet.specs.Verdict.{accepted}
use Rattle.sheet.specs.Values.{office_of}
use Rattle.sheet.proofs.Handed.{refuses}
use Rattle.sheet.proofs.Neat.{neat_accepted}
use Rattle.sheet.proofs.check_rim.Goals as goal

-- nothing bad was found
clear : (r : Option ℕ) {b : Bool} {A : Type 0} → is_some r ≡ not b → b ≡ true → IfNone r A → A
clear None e t h = h
clear (Some i) e t h = absurd (let z : true ≡ false = e ∙ ap not t in cc)

-- the rim by the mesh's own corners
ring : {one : Bool} {own corners : List ℕ} → own ≡ corners → one ≡ one_ring (bare own) → one ≡ one_ring (bare corners)
ring same e = e ∙ ap (λ k. one_ring (bare k)) same

long : {n : ℕ} {own corners : List ℕ} → own ≡ corners → n ≡ rims (bare own) → accepted n ≡ accepted (rims (bare corners))
long same e = ap accepted (e ∙ ap (λ k. rims (bare k)) same)

pub returns-then-one-convex : goal.returns-then-one-convex
returns-then-one-convex c =
    let m = c.args.mesh.now in
    let same = c.mates-mates.ensures.0 in
    let (h, n) = (and_iff {a = c.is_one_ring-one.result && c.is_convex-convex.result}).0 c.if-one-convex.true in
    let (one, convex) = (and_iff {a = c.is_one_ring-one.result}).0 h in
    long same c.rim_length-rim.ensures
    ∙ sym (neat_accepted (office_of m.plot) m.plot.plotted c.requires.0 c.requires.1 c.requires.2 (sym (ring same c.is_one_ring-one.ensures) ∙ one) (record { clear = clear c.first_bad-bad.result c.is_none.ensures n c.first_bad-bad.ensures.none; smooth = c.is_convex-convex.ensures convex }))

pub returns-in-Some : goal.returns-in-Some
returns-in-Some c = at_some _ _ _ _ c.first_invaded.ensures c.in-Some.is (refuses c.at.ensures)

pub returns-then-not-one : goal.returns-then-not-one
returns-then-not-one c =
    at_nowhere _ _ _ _ c.first_invaded.ensures c.in_default.is
    (when_broken _ (ap not (sym (ring c.mates-mates.ensures.0 c.is_one_ring-one.ensures) ∙ c.if-not-one.true)) (refuses c.at-then-not-one.ensures))

pub returns-in-Some-first_outer : goal.returns-in-Some-first_outer
returns-in-Some-first_outer c =
    at_nowhere _ _ _ _ c.first_invaded.ensures c.in_default.is
    (when_sound _ (ap not (sym (ring c.mates-mates.ensures.0 c.is_one_ring-one.ensures) ∙ c.if-not-one.false))
    (at_some _ _ _ _ c.first_outer.ensures c.in-Some-first_outer.is (refuses c.at-in-Some-first_outer.ensures)))

pub returns : goal.returns
returns c =
    at_nowhere _ _ _ _ c.first_invaded.ensures c.in_default.is
    (when_sound _ (ap not (sym (ring c.mates-mates.ensures.0 c.is_one_ring-one.ensures) ∙ c.if-not-one.false))
    (at_nowhere _ _ _ _ c.first_outer.ensures c.in_default-first_outer.is (long c.mates-mates.ensures.0 c.rim_length-rim.ensures)))
