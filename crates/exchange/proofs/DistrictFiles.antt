-- A district's file: what it is that the reader takes, and how code that goes part by part comes to the answer. Assumes nothing.
use Prim.Native.Nat.{ℕ, ◌<◌, ◌≤◌}
use mathlib.Core.Path.{◌≡◌, refl, sym, ap, ◌∙◌, subst}
use mathlib.Core.Bool.{Bool, true, false, not, ◌&&◌}
use mathlib.Core.List.{List, [], ◌∷◌}
use native.Mathlib.Omega.{arith}
use borrow.Author.Tests.{leb-true, le-leb}
use lib.Dec.{leb}
use lib.ListN.{length}
use Rattle.laws.proofs.Test.{and_iff}
use Rattle.shape.specs.declared.block.ByteOrder.{ByteOrder}
use Rattle.shape.specs.Bytes.{code, order_of, number_at}
use Rattle.shape.specs.Coordinates.{ended, whole}
use Rattle.shape.specs.Answers.{must, Answer, gives, refused, asked}
use Rattle.shape.specs.Reading.{order_at, type_asks}
use Rattle.shape.proofs.Asking.{fault, passes, passes_all, stops_first, stops_call, passes_call, stops_above, passes_below, ends, given_is, gives_other, refused_other}
use Rattle.shape.proofs.Heads.{passed_one, passed_all, passed_both}
use Rattle.shape.proofs.Shapes.{typed, typed_passes, order_is}
use Rattle.exchange.specs.Districts.{parts_asks, ring_count, district_end, ring_count_asks, district_head_asks, district_asks, district_answer}
use Rattle.exchange.specs.DistrictRefusals.{GoodDistrictHead}
use Rattle.exchange.proofs.Parts.{parted, Fine}

-- ---- the head of a file, after a byte order and a type that are good

pub type_refused : {x : Answer ℕ} {n p : ℕ} (s : List ℕ) (places : ℕ) → refused n p ≡ asked (type_asks s 0 6 22) (order_of (order_at s 0)) → x ≡ refused n p
    → x ≡ asked (district_head_asks s places) (ring_count s)
type_refused {x} {n} {p} s places e h = stops_first (type_asks s 0 6 22) (ring_count_asks s places) (order_of (order_at s 0)) (ring_count s) n p e h

module _ (s : List ℕ) (places : ℕ) {order : ByteOrder} (found : gives order ≡ asked (type_asks s 0 6 22) (order_of (order_at s 0))) where
  then_count : {x : Answer ℕ} → x ≡ asked (ring_count_asks s places) (ring_count s) → x ≡ asked (district_head_asks s places) (ring_count s)
  then_count e = passes_all (type_asks s 0 6 22) (ring_count_asks s places) (order_of (order_at s 0)) (ring_count s) found e

  pub no_count : {x : Answer ℕ} {n p : ℕ} → refused n p ≡ asked (whole 4 s 5 ∷ []) (tt {0}) → x ≡ refused n p → x ≡ asked (district_head_asks s places) (ring_count s)
  no_count {x} {n} {p} e h =
      then_count (stops_first (whole 4 s 5 ∷ []) (must (leb 1 (ring_count s) && leb (ring_count s) 32) 35 5 ∷ must (leb (ring_count s) places) 29 5 ∷ []) (tt {0}) (ring_count s) n p e h)

  -- the count was read as n, and tested
  module _ (n : ℕ) (h : 9 ≤ length s) (read : n ≡ number_at 4 (code order) s 5) {t : Bool} (test : t ≡ (leb 1 n && leb n 32)) where
    is : n ≡ ring_count s
    is = read ∙ ap (λ (o : ℕ). number_at 4 o s 5) (order_is s 0 6 22 found)

    tested : t ≡ (leb 1 (ring_count s) && leb (ring_count s) 32)
    tested = test ∙ ap (λ (k : ℕ). leb 1 k && leb k 32) is

    pub other_count : {x : Answer ℕ} → not t ≡ true → x ≡ refused 35 5 → x ≡ asked (district_head_asks s places) (ring_count s)
    other_count f e = then_count (passes_below 9 (length s) 20 5 _ _ h (stops_call _ _ _ _ _ tested f e))

    then_places : {x : Answer ℕ} → not t ≡ false → x ≡ asked (must (leb (ring_count s) places) 29 5 ∷ []) (ring_count s) → x ≡ asked (district_head_asks s places) (ring_count s)
    then_places f e = then_count (passes_below 9 (length s) 20 5 _ _ h (passes_call _ _ _ _ _ tested f e))

    pub no_places : {x : Answer ℕ} → not t ≡ false → places < n → x ≡ refused 29 5 → x ≡ asked (district_head_asks s places) (ring_count s)
    no_places f l e = then_places f (stops_above (ring_count s) places 29 5 [] (ring_count s) (omega (arith, is)) e)

    pub head_read : not t ≡ false → n ≤ places → gives n ≡ asked (district_head_asks s places) (ring_count s)
    head_read f l = then_places f (passes_below (ring_count s) places 29 5 [] (ring_count s) (omega (arith, is)) (ends (ring_count s) (ap gives is)))

-- a fault of the head is the file's
pub head_refused : (s : List ℕ) (places room number place : ℕ) → refused number place ≡ asked (district_head_asks s places) (ring_count s)
    → refused number place ≡ district_answer s places room
head_refused s places room number place e =
    stops_first (district_asks s places room) _ (district_end s) (ring_count s) number place
    (stops_first (district_head_asks s places) (parts_asks s (ring_count s) 9 room) (ring_count s) (district_end s) number place e refl) refl

-- ---- a head that is good

module _ (s : List ℕ) (places : ℕ) where
  abbrev c : ℕ
  c = ring_count s

  abbrev heads : Answer ℕ
  heads = asked (district_head_asks s places) c

  pub district_head_good : {n : ℕ} → gives n ≡ heads → GoodDistrictHead s places
  district_head_good e =
      let q = passed_both (type_asks s 0 6 22) (ring_count_asks s places) (tt {0}) c e in
      let q1 = passed_one (leb 9 (length s)) 20 5 _ c q.1 in
      let q2 = passed_one (leb 1 c && leb c 32) 35 5 _ c q1.1 in
      let q3 = passed_one (leb c places) 29 5 [] c q2.1 in
      let b = and_iff.0 q2.0 in
      ((typed s 0 6 22 q.0, leb-true 9 (length s) q1.0, leb-true 1 c b.0, leb-true c 32 b.1), leb-true c places q3.0)

  pub district_head_passes : GoodDistrictHead s places → gives c ≡ heads
  district_head_passes h =
      passes_all (type_asks s 0 6 22) (ring_count_asks s places) (tt {0}) c (typed_passes s 0 6 22 h.0.0)
      (passes_below 9 (length s) _ _ _ _ h.0.1
      (passes _ _ _ _ _ (and_iff.1 (le-leb 1 c h.0.2, le-leb c 32 h.0.3))
      (passes_below c places _ _ _ _ h.1 (ends c refl))))

-- ---- a head that was read: its count is m

module _ (s : List ℕ) (places m : ℕ) (answer : gives m ≡ asked (district_head_asks s places) (ring_count s)) where
  count_is : m ≡ ring_count s
  count_is = given_is (district_head_asks s places) (ring_count s) answer

  pub head_there : 9 ≤ length s
  head_there = (district_head_good s places answer).0.1

  module _ (room : ℕ) where
    then_parts : {A : Type 0} {x : Answer A} (a : A) → x ≡ asked (parts_asks s (ring_count s) 9 room) a → x ≡ asked (district_asks s places room) a
    then_parts a e = passes_all (district_head_asks s places) (parts_asks s (ring_count s) 9 room) (ring_count s) a (ap gives (sym count_is) ∙ answer) e

    counted : parted s m 9 room ≡ parted s (ring_count s) 9 room
    counted = ap (λ (k : ℕ). parted s k 9 room) count_is

    -- a fault of a polygon
    pub part_refused : (number place : ℕ) → refused number place ≡ parted s m 9 room → refused number place ≡ district_answer s places room
    part_refused number place e =
        stops_first (district_asks s places room) _ (district_end s) (ring_count s) number place (then_parts (district_end s) (e ∙ counted)) refl

    -- the polygons are taken, and end at `to`
    module _ (to : ℕ) (scan : gives to ≡ parted s m 9 room) where
      to_is : to ≡ district_end s
      to_is = given_is (parts_asks s (ring_count s) 9 room) (district_end s) (scan ∙ counted)

      then_end : {x : Answer ℕ} → x ≡ asked (must (leb (length s) (district_end s)) 28 (district_end s) ∷ []) (ring_count s) → x ≡ district_answer s places room
      then_end e =
          passes_all (district_asks s places room) _ (district_end s) (ring_count s)
          (then_parts (district_end s) (ap gives (sym to_is) ∙ scan ∙ counted)) e

      pub bytes_left : {x : Answer ℕ} {k p : ℕ} → refused k p ≡ asked (ended s to ∷ []) (tt {0}) → x ≡ refused k p → x ≡ district_answer s places room
      bytes_left {x} {k} {p} e h =
          then_end (refused_other (ended s (district_end s) ∷ []) (tt {0}) (ring_count s) k p (e ∙ ap (λ (n : ℕ). asked (ended s n ∷ []) (tt {0})) to_is) h)

      pub all_read : length s ≤ to → gives m ≡ district_answer s places room
      all_read h = then_end (passes_below (length s) (district_end s) 28 (district_end s) [] (ring_count s) (omega (arith, to_is)) (ends (ring_count s) (ap gives count_is)))

-- ---- the whole

-- a file whose n rings are taken
pub record Mapping (s : List ℕ) (places room n : ℕ) : Type 0 where
  pub head : GoodDistrictHead s places
  pub counted : n ≡ ring_count s
  pub fine : gives tt ≡ fault (parts_asks s (ring_count s) 9 room)
  pub all_read : length s ≤ district_end s

module _ (s : List ℕ) (places room n : ℕ) where
  abbrev m : ℕ
  m = ring_count s

  abbrev end : ℕ
  end = district_end s

  pub district_good : district_answer s places room ≡ gives n → Mapping s places room n
  district_good e =
      let q = passed_both (district_asks s places room) (must (leb (length s) end) 28 end ∷ []) m m (sym e) in
      let p = passed_both (district_head_asks s places) (parts_asks s m 9 room) m m q.0 in
      let o = passed_one (leb (length s) end) 28 end [] m q.1 in
      record {
        head = district_head_good s places p.0;
        counted = passed_all m o.1;
        fine = gives_other (parts_asks s m 9 room) m (tt {0}) m p.1 refl;
        all_read = leb-true (length s) end o.0;
      }

  pub district_given : Mapping s places room n → district_answer s places room ≡ gives n
  district_given g =
      let parts = passes_all (district_head_asks s places) (parts_asks s m 9 room) m m (district_head_passes s places g.head)
      (gives_other (parts_asks s m 9 room) (tt {0}) m (tt {0}) g.fine refl) in
      sym (passes_all (district_asks s places room) _ m m parts (passes_below (length s) end 28 end [] m g.all_read (ends m (ap gives g.counted))))

-- ... as the code finds it
module _ (s : List ℕ) (places room n : ℕ) (e : gives n ≡ district_answer s places room) where
  g : Mapping s places room n
  g = district_good s places room n (sym e)

  pub count_is_read : n ≡ ring_count s
  count_is_read = g.counted

  pub few_places : n ≤ places
  few_places = let few = g.head.1 in omega (arith, g.counted)

  pub all_fine : Fine s n 9 room
  all_fine =
      subst (λ (k : ℕ). Fine s k 9 room) (sym g.counted) (gives_other (parts_asks s (ring_count s) 9 room) (tt {0}) (district_end s) (tt {0}) g.fine refl)
