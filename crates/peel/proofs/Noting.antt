-- Listing on, step by step: what is left to list gives the whole list. Assumes nothing.
use mathlib.Core.Path.{◌≡◌, refl, sym, ap, ap₂, ◌∙◌}
use mathlib.Core.Bool.{Bool, true, false, cond}
use mathlib.Core.List.{List, [], ◌∷◌, map}
use mathlib.Core.Option.{Option, none, some}
use Prim.Native.Nat.{ℕ, zero, suc, ◌+◌, ◌-◌, ◌/◌, ◌<◌, ◌≤◌}
use native.Mathlib.Omega.{arith}
use lib.Dec.{ltb}
use lib.ListN.{length, set, length-set}
use lib.Seq.{sets}
use borrow.Author.Tests.{lt-ltb, le-ltb}
use Rattle.sheet.specs.Office.{Office, sides, triangles}
use Rattle.sheet.specs.Acceptable.{Acceptable}
use Rattle.rim.specs.Peel.{long, best, peel, turned, peeled}
use Rattle.peel.specs.List.{Entry, outline, listed, entries_from}
use Rattle.rim.specs.Code.{front, State, Stepped, answered, peels_of}
use Rattle.peel.specs.Code.{Noted}
use Rattle.rim.specs.declared.answers.Step.{Step}
use Rattle.rim.specs.declared.answers.Step.TheVariants.{Peeled, Nothing as Stays}
use Rattle.peel.proofs.Long.{long_bound, long_positive}
use Rattle.rim.proofs.Reached.{sound}
use Rattle.rim.proofs.TopSide.{Top, best_top}
use Rattle.peel.proofs.Onward.{not_all}

abbrev entry : Office → ℕ → List ℕ → Entry
entry o m k = record { least = m; outline = outline o k }

module _ {o : Office} (a : Acceptable o) (k : List ℕ) where
  -- where something is peeled: it is the best side, and either shorter than all before, which makes an entry, or not
  module _ (others : ℕ → List ℕ → List Entry) (m : ℕ) where
    shorter : (x : Option ℕ) (t q : ℕ) (k' : List ℕ) → Peeled t q ≡ answered o 0 x → k' ≡ turned o (λ j. j) 0 k x → q < m → listed o others m k x ≡ entry o q k ∷ others q k'
    unfolding listed turned
    shorter none t q k' e w l = absurd (let z : ◌≡◌ {A = ℕ} 0 1 = cc in omega arith)
    shorter (some s) t q k' e w l = step (ltb 0 (long o s)) e w
      where
        step : (b : Bool) → Peeled t q ≡ cond b (Peeled (s / 3) (long o s)) Stays → k' ≡ cond b (peel k s) k → listed o others m k (some s) ≡ entry o q k ∷ others q k'
        step true e w = let z : q ≡ long o s = cc in rw (lt-ltb (long o s) m (omega arith), listed) (ap₂ (λ i j. entry o i k ∷ others i j) (sym z) (sym w))
        step false e w = absurd (let z : ◌≡◌ {A = ℕ} 0 1 = cc in omega arith)

    longer : (x : Option ℕ) (t q : ℕ) (k' : List ℕ) → Peeled t q ≡ answered o 0 x → k' ≡ turned o (λ j. j) 0 k x → m ≤ q → listed o others m k x ≡ others m k'
    unfolding listed turned
    longer none t q k' e w l = absurd (let z : ◌≡◌ {A = ℕ} 0 1 = cc in omega arith)
    longer (some s) t q k' e w l = step (ltb 0 (long o s)) e w
      where
        step : (b : Bool) → Peeled t q ≡ cond b (Peeled (s / 3) (long o s)) Stays → k' ≡ cond b (peel k s) k → listed o others m k (some s) ≡ others m k'
        step true e w = let z : q ≡ long o s = cc in rw (le-ltb (long o s) m (omega arith), listed) (ap (others m) (sym w))
        step false e w = absurd (let z : ◌≡◌ {A = ℕ} 0 1 = cc in omega arith)

    -- where nothing is: nothing is removable, since every side has a length
    final : (x : Option ℕ) → Top a k (sides o) x → Stays ≡ answered o 0 x → listed o others m k x ≡ entry o 0 k ∷ []
    unfolding listed
    final none t e = refl
    final (some s) t e = absurd (let z : ◌≡◌ {A = ℕ} 0 1 = (let b = lt-ltb 0 (long o s) (long_positive a s t.0) in let f : Stays ≡ cond true (Peeled (s / 3) (long o s)) Stays = e ∙ ap (λ b. cond b (Peeled (s / 3) (long o s)) Stays) b in cc) in omega arith)

-- i entries are written; with those from here on they are all, es
pub record Noting (o : Office) (es : List Entry) (kept : List ℕ) (peeled shortest i : ℕ) (least₀ peeled₀ area₀ least peels areas : List ℕ) : Type 0 where
  pub counts : i + length (entries_from o (triangles o - peeled) shortest (front o.corners kept)) ≡ length es
  pub leasts : sets least i (map (λ e. e.least) (entries_from o (triangles o - peeled) shortest (front o.corners kept))) ≡ sets least₀ 0 (map (λ e. e.least) es)
  pub peels_so : sets peels i (map (λ e. e.outline.peels) (entries_from o (triangles o - peeled) shortest (front o.corners kept))) ≡ sets peeled₀ 0 (map (λ e. e.outline.peels) es)
  pub areas_so : sets areas i (map (λ e. e.outline.area) (entries_from o (triangles o - peeled) shortest (front o.corners kept))) ≡ sets area₀ 0 (map (λ e. e.outline.area) es)
  pub rooms : (length es ≤ length least) × (length es ≤ length peels) × (length es ≤ length areas)
  pub longs : (length least ≡ length least₀) × (length peels ≡ length peeled₀) × (length areas ≡ length area₀)

-- every side is shorter than the greatest limit, so a search that begins there lists the same
begins_low : {o : Office} → Acceptable o → (n : ℕ) (k : List ℕ) → entries_from o n 4294967295 k ≡ entries_from o n 4294967296 k
unfolding entries_from listed
begins_low {o} a zero k = refl
begins_low {o} a (suc n) k = step (best o k) (best_top a k)
  where
    step : (x : Option ℕ) → Top a k (sides o) x → listed o (entries_from o n) 4294967295 k x ≡ listed o (entries_from o n) 4294967296 k x
    step none t = refl
    step (some s) t = let b = long_bound a s t.0 in rw (lt-ltb (long o s) 4294967295 (omega arith), lt-ltb (long o s) 4294967296 (omega arith))

pub notes : {o : Office} → Acceptable o → (kept : List ℕ) (begun : ℕ) (least peels areas : List ℕ)
    → (length (entries_from o (triangles o - begun) 4294967296 (front o.corners kept)) ≤ length least) × (length (entries_from o (triangles o - begun) 4294967296 (front o.corners kept)) ≤ length peels) × (length (entries_from o (triangles o - begun) 4294967296 (front o.corners kept)) ≤ length areas)
    → Noting o (entries_from o (triangles o - begun) 4294967296 (front o.corners kept)) kept begun 4294967295 0 least peels areas least peels areas
notes {o} a kept begun least peels areas r =
    let e = begins_low a (triangles o - begun) (front o.corners kept) in
    record {
      counts = let z = ap length e in omega arith;
      leasts = ap (λ es. sets least 0 (map (λ e. e.least) es)) e;
      peels_so = ap (λ es. sets peels 0 (map (λ e. e.outline.peels) es)) e;
      areas_so = ap (λ es. sets areas 0 (map (λ e. e.outline.area) es)) e;
      rooms = r;
      longs = (refl, refl, refl);
    }

module _ {o : Office} {es : List Entry} {mate kept rim kept' rim' : List ℕ} {p area ring p' area' ring' m i : ℕ} {least₀ peeled₀ area₀ least peels areas : List ℕ} {answer : Step}
    (s : State o mate kept rim p area ring) (g : Stepped o 0 mate kept rim kept' rim' p answer p' area' ring') (h : Noting o es kept p m i least₀ peeled₀ area₀ least peels areas) where
  abbrev k : List ℕ
  k = front o.corners kept

  abbrev k' : List ℕ
  k' = front o.corners kept'

  unfolds : (n : ℕ) → triangles o - p ≡ suc n → entries_from o (triangles o - p) m k ≡ listed o (entries_from o n) m k (best o k)
  unfolding entries_from
  unfolds n e = ap (λ n. entries_from o n m k) e

  one_less : (t q : ℕ) → answer ≡ Peeled t q → triangles o - p ≡ suc (triangles o - p')
  one_less t q e = let l = not_all s in let w = g.counts ∙ ap (λ a. peels_of a + p) e in omega arith

  -- an entry is written at i, of which the others follow
  module _ (q : ℕ) (rest : List Entry) (e : entries_from o (triangles o - p) m k ≡ entry o q k ∷ rest) where
    more : suc i + length rest ≡ length es
    more = let z : length (entries_from o (triangles o - p) m k) ≡ suc (length rest) = ap length e in let w = h.counts in omega arith

    places : (i < length least) × (i < length peels) × (i < length areas)
    places = let z = more in (omega (arith, h.rooms.0), omega (arith, h.rooms.1), omega (arith, h.rooms.2))

    count_is : peeled o k ≡ p
    count_is = (sound o s.held.acceptable s.reached).count

    least_on : sets (set least i q) (suc i) (map (λ e. e.least) rest) ≡ sets least₀ 0 (map (λ e. e.least) es)
    least_on = sym (ap (λ x. sets least i (map (λ e. e.least) x)) e) ∙ h.leasts

    peels_on : sets (set peels i p) (suc i) (map (λ e. e.outline.peels) rest) ≡ sets peeled₀ 0 (map (λ e. e.outline.peels) es)
    unfolding outline
    peels_on = sym (ap (λ n. sets (set peels i n) (suc i) (map (λ e. e.outline.peels) rest)) count_is) ∙ sym (ap (λ x. sets peels i (map (λ e. e.outline.peels) x)) e) ∙ h.peels_so

    areas_on : sets (set areas i area) (suc i) (map (λ e. e.outline.area) rest) ≡ sets area₀ 0 (map (λ e. e.outline.area) es)
    unfolding outline
    areas_on = ap (λ n. sets (set areas i n) (suc i) (map (λ e. e.outline.area) rest)) s.areas ∙ sym (ap (λ x. sets areas i (map (λ e. e.outline.area) x)) e) ∙ h.areas_so

  next_place : suc i ≡ i + 1
  next_place = omega arith

  shorter_is : (t q : ℕ) → answer ≡ Peeled t q → q < m → entries_from o (triangles o - p) m k ≡ entry o q k ∷ entries_from o (triangles o - p') q k'
  shorter_is t q e l = unfolds (triangles o - p') (one_less t q e) ∙ shorter s.held.acceptable k (entries_from o (triangles o - p')) m (best o k) t q k' (sym e ∙ g.says) g.marks l

  final_is : answer ≡ Stays → entries_from o (triangles o - p) m k ≡ entry o 0 k ∷ []
  final_is e = unfolds (triangles o - suc p) (let l = not_all s in omega arith) ∙ final s.held.acceptable k (entries_from o (triangles o - suc p)) m (best o k) (best_top s.held.acceptable k) (sym e ∙ g.says)

  -- the entry written has its place in each list
  pub shorter_there : (t q : ℕ) → answer ≡ Peeled t q → q < m → (i < length least) × (i < length peels) × (i < length areas)
  shorter_there t q e l = places q (entries_from o (triangles o - p') q k') (shorter_is t q e l)

  pub final_there : answer ≡ Stays → (i < length least) × (i < length peels) × (i < length areas)
  final_there e = places 0 [] (final_is e)

  pub notes_one : (t q : ℕ) → answer ≡ Peeled t q → q < m → Noting o es kept' p' q (i + 1) least₀ peeled₀ area₀ (set least i q) (set peels i p) (set areas i area)
  notes_one t q e l =
      let rest = entries_from o (triangles o - p') q k' in
      let f = shorter_is t q e l in
      record {
        counts = (let z = more q rest f in omega arith);
        leasts = ap (λ j. sets (set least i q) j (map (λ e. e.least) rest)) (sym next_place) ∙ least_on q rest f;
        peels_so = ap (λ j. sets (set peels i p) j (map (λ e. e.outline.peels) rest)) (sym next_place) ∙ peels_on q rest f;
        areas_so = ap (λ j. sets (set areas i area) j (map (λ e. e.outline.area) rest)) (sym next_place) ∙ areas_on q rest f;
        rooms = (simp length-set h.rooms.0, simp length-set h.rooms.1, simp length-set h.rooms.2);
        longs = (length-set least i q ∙ h.longs.0, length-set peels i p ∙ h.longs.1, length-set areas i area ∙ h.longs.2);
      }

  pub notes_none : (t q : ℕ) → answer ≡ Peeled t q → m ≤ q → Noting o es kept' p' m i least₀ peeled₀ area₀ least peels areas
  notes_none t q e l =
      let f : entries_from o (triangles o - p) m k ≡ entries_from o (triangles o - p') m k' = unfolds (triangles o - p') (one_less t q e) ∙ longer s.held.acceptable k (entries_from o (triangles o - p')) m (best o k) t q k' (sym e ∙ g.says) g.marks l in
      record {
        counts = sym (ap (λ x. i + length x) f) ∙ h.counts;
        leasts = sym (ap (λ x. sets least i (map (λ e. e.least) x)) f) ∙ h.leasts;
        peels_so = sym (ap (λ x. sets peels i (map (λ e. e.outline.peels) x)) f) ∙ h.peels_so;
        areas_so = sym (ap (λ x. sets areas i (map (λ e. e.outline.area) x)) f) ∙ h.areas_so;
        rooms = h.rooms;
        longs = h.longs;
      }

  pub noted : answer ≡ Stays → Noted es least₀ peeled₀ area₀ (set least i 0) (set peels i p) (set areas i area) (i + 1)
  noted e =
      let f = final_is e in
      record {
        counts = (let z = more 0 [] f in let w : length {A = Entry} [] ≡ 0 = refl in omega arith);
        leasts = least_on 0 [] f;
        peels = peels_on 0 [] f;
        areas = areas_on 0 [] f;
      }
