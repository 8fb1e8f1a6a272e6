-- Questions asked in order: what an answer says of them, and how code that asks them one by one comes to it. Assumes nothing.
use Rattle.std.proofs.Common.{◌≡◌, ℕ, ◌-◌, ◌<◌, ◌≤◌, Bool, true, false, cond, not, ◌&&◌, eqb, leb, List, [], ◌∷◌, ◌++◌, length, drop, sym, refl, ap, ap₂, ◌∙◌, subst, append-nil, rules, eq-eqb, ne_eqb, le-leb, leb-true}
use borrow.Author.Tests.{lt-leb, not-true, not-false}
use Rattle.sheet.specs.declared.refusal.Rule.{Rule}
use Rattle.sheet.specs.declared.refusal.Refusal.{Refusal}
use Rattle.sheet.specs.Refusal.{number}
use Rattle.std.specs.Prelude.{Result, Ok, Err}
use Rattle.std.specs.Result.{IsErrAnd, MatchResult}
use Rattle.std.proofs.lemmas.Result.{err_from_is_err_and}
use Rattle.shape.specs.Answers.{Question, must, Answer, gives, refused, asked, over, reply}

-- what a broken rule is refused with
pub refuses : {A : Type 0} {r : Refusal} {rule : Rule} {place : ℕ} → (r.rule ≡ rule) × (r.place ≡ place)
    → ◌≡◌ {A = Answer A} (refused (number r.rule) r.place) (refused (number rule) place)
refuses e = ap₂ (λ k p. refused (number k) p) e.0 e.1

-- what a `?` hands on
pub hands_on : {A : Type 0} (r : Result A Refusal) (e : Refusal) → IsErrAnd r (λ y. y ≡ e) → reply r ≡ refused (number e.rule) e.place
hands_on r e h = let p = err_from_is_err_and r h in rw (p.1, p.2)

-- a rule that breaks at a place, as `map_err` puts it there
abbrev pub at_place : {A : Type 0} → ℕ → Result A Rule → Answer A
at_place place (Ok a) = gives a
at_place place (Err rule) = refused (number rule) place

pub maps : {A : Type 0} {P : Rule → Refusal → Type 0} (r : Result A Rule) (q : Result A Refusal) (place : ℕ) → MatchResult r (λ a. q ≡ Ok a) (λ rule. IsErrAnd q (P rule))
    → ((rule : Rule) (f : Refusal) → P rule f → (f.rule ≡ rule) × (f.place ≡ place)) → reply q ≡ at_place place r
maps (Ok a) q place h k = ap reply h
maps (Err rule) q place h k = let p = err_from_is_err_and q h in ap reply p.1 ∙ refuses (k rule p.0 p.2)

-- ---- one question after another

module _ {A : Type 0} {x : Answer A} (t : Bool) (k p : ℕ) (qs : List Question) (a : A) where
  pub stops : t ≡ false → x ≡ refused k p → x ≡ asked (must t k p ∷ qs) a
  unfolding asked
  stops e h = h ∙ sym (ap (λ (b : Bool). cond b (asked qs a) (refused k p)) e)

  pub passes : t ≡ true → x ≡ asked qs a → x ≡ asked (must t k p ∷ qs) a
  unfolding asked
  passes e h = h ∙ sym (ap (λ (b : Bool). cond b (asked qs a) (refused k p)) e)

pub ends : {A : Type 0} {x : Answer A} (a : A) → x ≡ gives a → x ≡ asked [] a
unfolding asked
ends a h = h

-- a test that a call made: r is its answer
module _ {A : Type 0} {x : Answer A} {r : Bool} (t : Bool) (k p : ℕ) (qs : List Question) (a : A) (is : r ≡ t) where
  pub stops_call : not r ≡ true → x ≡ refused k p → x ≡ asked (must t k p ∷ qs) a
  stops_call e h = stops t k p qs a (sym is ∙ not-true r e) h

  pub passes_call : not r ≡ false → x ≡ asked qs a → x ≡ asked (must t k p ∷ qs) a
  passes_call e h = passes t k p qs a (sym is ∙ not-false r e) h

-- a comparison in the code
module _ {A : Type 0} {x : Answer A} (m n k p : ℕ) (qs : List Question) (a : A) where
  pub stops_above : n < m → x ≡ refused k p → x ≡ asked (must (leb m n) k p ∷ qs) a
  stops_above h e = stops (leb m n) k p qs a (lt-leb m n h) e

  pub passes_below : m ≤ n → x ≡ asked qs a → x ≡ asked (must (leb m n) k p ∷ qs) a
  passes_below h e = passes (leb m n) k p qs a (le-leb m n h) e

-- a number that a call read: r is its answer
module _ {A : Type 0} {x : Answer A} {r : ℕ} (m n k p : ℕ) (qs : List Question) (a : A) (is : r ≡ m) where
  pub stops_other : (r ≡ n → ⊥) → x ≡ refused k p → x ≡ asked (must (eqb m n) k p ∷ qs) a
  stops_other h e = stops (eqb m n) k p qs a (ne_eqb m n (λ q. h (is ∙ q))) e

  pub passes_same : r ≡ n → x ≡ asked qs a → x ≡ asked (must (eqb m n) k p ∷ qs) a
  passes_same h e = passes (eqb m n) k p qs a (eq-eqb m n (sym is ∙ h)) e

-- ... that has to lie between two others, and d less than it
module _ {A : Type 0} {x : Answer A} {r : ℕ} (m lo hi k p : ℕ) (qs : List Question) (a : A) (is : r ≡ m) where
  pub stops_under : r < lo → x ≡ refused k p → x ≡ asked (must (leb lo m && leb m hi) k p ∷ qs) a
  stops_under h e = stops (leb lo m && leb m hi) k p qs a (ap (λ (b : Bool). b && leb m hi) (ap (leb lo) (sym is) ∙ lt-leb lo r h)) e

  pub stops_over : lo ≤ r → hi < r → x ≡ refused k p → x ≡ asked (must (leb lo m && leb m hi) k p ∷ qs) a
  stops_over l h e =
      stops (leb lo m && leb m hi) k p qs a
      (ap (λ (b : Bool). b && leb m hi) (ap (leb lo) (sym is) ∙ le-leb lo r l) ∙ ap (λ (n : ℕ). leb n hi) (sym is) ∙ lt-leb r hi h) e

  pub passes_between : lo ≤ r → r ≤ hi → x ≡ asked qs a → x ≡ asked (must (leb lo m && leb m hi) k p ∷ qs) a
  passes_between l h e =
      passes (leb lo m && leb m hi) k p qs a
      (ap (λ (b : Bool). b && leb m hi) (ap (leb lo) (sym is) ∙ le-leb lo r l) ∙ ap (λ (n : ℕ). leb n hi) (sym is) ∙ le-leb r hi h) e

module _ {A : Type 0} {x : Answer A} {r : ℕ} (m d n k p : ℕ) (qs : List Question) (a : A) (is : r ≡ m) where
  pub stops_less : n < r - d → x ≡ refused k p → x ≡ asked (must (leb (m - d) n) k p ∷ qs) a
  stops_less h e = stops (leb (m - d) n) k p qs a (ap (λ (i : ℕ). leb (i - d) n) (sym is) ∙ lt-leb (r - d) n h) e

  pub passes_less : r - d ≤ n → x ≡ asked qs a → x ≡ asked (must (leb (m - d) n) k p ∷ qs) a
  passes_less h e = passes (leb (m - d) n) k p qs a (ap (λ (i : ℕ). leb (i - d) n) (sym is) ∙ le-leb (r - d) n h) e

-- what a test that passed says
pub is_below : {r : Bool} (m n : ℕ) → r ≡ leb m n → not r ≡ false → m ≤ n
is_below {r} m n is e = leb-true m n (sym is ∙ not-false r e)

pub ruleset asking = (refuses, stops_call, passes_call, stops_above, passes_below, stops_other, passes_same, stops_under, stops_over, passes_between, stops_less, passes_less, ends, is_below, rules)

-- ---- questions in two parts

-- nothing, or the refusal of the first that fails
abbrev pub fault : List Question → Answer (Unit {0})
fault qs = asked qs tt

abbrev pub and_then : {A B : Type 0} → Answer A → Answer B → Answer B
and_then (gives a) y = y
and_then (refused k p) y = refused k p

pub asked_both : {A B : Type 0} (ps qs : List Question) (a : A) (b : B) → asked (ps ++ qs) b ≡ and_then (asked ps a) (asked qs b)
unfolding asked
asked_both [] qs a b = refl
asked_both (q ∷ ps) qs a b = go q.holds (asked_both ps qs a b)
  where
    go : (t : Bool) → asked (ps ++ qs) b ≡ and_then (asked ps a) (asked qs b)
        → cond t (asked (ps ++ qs) b) (refused q.number q.place) ≡ and_then (cond t (asked ps a) (refused q.number q.place)) (asked qs b)
    go true e = e
    go false e = refl

-- all of the first part hold: the second decides; one fails: its refusal stands
module _ {A B : Type 0} {x : Answer B} (ps qs : List Question) (a : A) (b : B) where
  pub passes_all : {c : A} → gives c ≡ asked ps a → x ≡ asked qs b → x ≡ asked (ps ++ qs) b
  passes_all h e = e ∙ ap (λ (y : Answer A). and_then y (asked qs b)) h ∙ sym (asked_both ps qs a b)

  pub stops_first : (k p : ℕ) → refused k p ≡ asked ps a → x ≡ refused k p → x ≡ asked (ps ++ qs) b
  stops_first k p h e = e ∙ ap (λ (y : Answer A). and_then y (asked qs b)) h ∙ sym (asked_both ps qs a b)

-- the same questions before another answer
asked_other : {A B : Type 0} (qs : List Question) (a : A) (b : B) → asked qs b ≡ and_then (asked qs a) (gives b)
unfolding asked
asked_other qs a b = ap (λ (l : List Question). asked l b) (sym (append-nil qs)) ∙ asked_both qs [] a b

module _ {A B : Type 0} {x : Answer B} (qs : List Question) (a : A) (b : B) where
  pub refused_other : (k p : ℕ) → refused k p ≡ asked qs a → x ≡ refused k p → x ≡ asked qs b
  refused_other k p h e = e ∙ ap (λ (y : Answer A). and_then y (gives b)) h ∙ sym (asked_other qs a b)

  pub gives_other : (c : A) → gives c ≡ asked qs a → x ≡ gives b → x ≡ asked qs b
  gives_other c h e = e ∙ ap (λ (y : Answer A). and_then y (gives b)) h ∙ sym (asked_other qs a b)

-- what is given is what was to be given
pub given_is : {A : Type 0} {b : A} (qs : List Question) (a : A) → gives b ≡ asked qs a → b ≡ a
given_is {A} {b} qs a e = let z : gives a ≡ gives b = gives_other qs a a b e refl ∙ sym e in cc

-- what a refusal leaves in lent memory
pub stays : {A : Type 0} {x : Answer A} (k p : ℕ) (new old : List ℕ) → x ≡ refused k p → old ≡ over x new old
stays {A} k p new old e = sym (ap (λ (y : Answer A). over y new old) e)

-- what an answer leaves there: the values that were to stand there, and what stood past them
pub stands : {A : Type 0} {x : Answer A} {a : A} {new want : List ℕ} → x ≡ gives a → new ≡ want → (old : List ℕ) → over x new old ≡ want ++ drop (length want) old
stands {A} {x} {a} {new} {want} e is old = ap (λ (y : Answer A). over y new old) e ∙ ap (λ (l : List ℕ). l ++ drop (length l) old) is

-- ---- what an answer says

-- a refusal is the first question's, or that is passed and it is one of the others'
pub ask_cases : {A : Type 0} {n q : ℕ} (P : ℕ → ℕ → Type 0) (t : Bool) (k p : ℕ) (qs : List Question) (a : A) → refused n q ≡ asked (must t k p ∷ qs) a
    → (t ≡ false → P k p) → (t ≡ true → refused n q ≡ asked qs a → P n q) → P n q
unfolding asked
ask_cases P true k p qs a e f g = g refl e
ask_cases {A} {n} {q} P false k p qs a e f g =
    let i : k ≡ n = cc in
    let j : p ≡ q = cc in
    subst (λ (m : ℕ). P m q) i (subst (P k) j (f refl))

-- ... of two parts
pub part_cases : {A B : Type 0} {n q : ℕ} {P : Type 0} (ps qs : List Question) (a : A) (b : B) → refused n q ≡ asked (ps ++ qs) b
    → (refused n q ≡ asked ps a → P) → (gives a ≡ asked ps a → refused n q ≡ asked qs b → P) → P
unfolding asked
part_cases [] qs a b e f g = g refl e
part_cases {A} {B} {n} {q} {P} (c ∷ ps) qs a b e f g = go c.holds e (λ h. part_cases ps qs a b h) f g
  where
    go : (t : Bool) → refused n q ≡ cond t (asked (ps ++ qs) b) (refused c.number c.place)
        → (refused n q ≡ asked (ps ++ qs) b → (refused n q ≡ asked ps a → P) → (gives a ≡ asked ps a → refused n q ≡ asked qs b → P) → P)
        → (refused n q ≡ cond t (asked ps a) (refused c.number c.place) → P)
        → (gives a ≡ cond t (asked ps a) (refused c.number c.place) → refused n q ≡ asked qs b → P) → P
    go true h r f g = r h f g
    go false h r f g = let i : ◌≡◌ {A = Answer A} (refused n q) (refused c.number c.place) = cc in f i
