-- A polygon that begins at a place: what it is that the reader takes, and how code that goes part by part comes to the answer. Assumes nothing.
use Rattle.std.proofs.Common.{◌≡◌, ℕ, ◌+◌, ◌-◌, ◌*◌, ◌≤◌, Bool, true, false, ◌&&◌, eqb, leb, List, [], ◌∷◌, length, sym, refl, ap, ◌∙◌, arith, eq-eqb, eqb-true}
use Rattle.laws.proofs.Test.{and_iff}
use Rattle.shape.specs.Answers.{must, Answer, gives, refused, asked}
use Rattle.shape.specs.declared.block.ByteOrder.{ByteOrder}
use Rattle.shape.specs.Bytes.{code, order_of}
use Rattle.shape.specs.Coordinates.{grid_at, ended}
use Rattle.shape.specs.Reading.{coordinates, count, count_asks, order_at, type_asks, length_at, head_asks, closes, polygon_asks, end, read_answer}
use Rattle.shape.proofs.Asking.{passes, stops, passes_below, ends, passes_all, stops_first, refused_other, gives_other, given_is}
use Rattle.shape.proofs.Scanned.{scanned}
use Rattle.shape.proofs.Shapes.{order_is}
use Rattle.shape.proofs.Heads.{Headed, head_good, head_answer, passed_one, passed_all, passed_both, coordinates_there}

-- the first position of a ring of length n and the last have the same grid numbers
abbrev pub closing : List ℕ → ℕ → ℕ → Bool
closing s at n =
    eqb (grid_at (order_at s at) s (at + 13)) (grid_at (order_at s at) s (at + 13 + 16 * n))
    && eqb (grid_at (order_at s at) s (at + 13 + 8)) (grid_at (order_at s at) s (at + 13 + 16 * n + 8))

module _ (s : List ℕ) (at room n : ℕ) (answer : gives n ≡ asked (head_asks s at room) (length_at s at)) where
  h : Headed s at room n
  h = head_good s at room n answer

  is : n ≡ length_at s at
  is = omega (arith, h.counted)

  twice : 2 * (n + 1) ≡ 2 * count (order_at s at) s at
  twice = omega (arith, h.counted)

  head_given : gives (length_at s at) ≡ asked (head_asks s at room) (length_at s at)
  head_given = ap gives (sym is) ∙ answer

  scan_is : scanned (2 * (n + 1)) (order_at s at) s (at + 13) ≡ scanned (2 * count (order_at s at) s at) (order_at s at) s (at + 13)
  scan_is = ap (λ (k : ℕ). scanned k (order_at s at) s (at + 13)) twice

  -- a fault of a position
  pub scan_refused : (k p : ℕ) → refused k p ≡ scanned (2 * (n + 1)) (order_at s at) s (at + 13) → refused k p ≡ asked (polygon_asks s at room) (length_at s at)
  scan_refused k p e =
      passes_all (head_asks s at room) _ (length_at s at) (length_at s at) head_given
      (stops_first (coordinates (2 * count (order_at s at) s at) (order_at s at) s (at + 13)) (closes s at ∷ []) tt (length_at s at) k p (e ∙ scan_is) refl)

  module _ (fine : gives tt ≡ scanned (2 * (n + 1)) (order_at s at) s (at + 13)) {t : Bool} (test : t ≡ closing s at n) where
    then_closes : {x : Answer ℕ} → x ≡ asked (closes s at ∷ []) (length_at s at) → x ≡ asked (polygon_asks s at room) (length_at s at)
    then_closes e =
        passes_all (head_asks s at room) _ (length_at s at) (length_at s at) head_given
        (passes_all (coordinates (2 * count (order_at s at) s at) (order_at s at) s (at + 13)) (closes s at ∷ []) tt (length_at s at) (fine ∙ scan_is) e)

    closes_is : t ≡ closing s at (length_at s at)
    closes_is = test ∙ ap (closing s at) is

    -- the last position is another than the first
    pub left_open : {x : Answer ℕ} → t ≡ false → x ≡ refused 27 (at + 13 + 16 * n) → x ≡ asked (polygon_asks s at room) (length_at s at)
    left_open e r = then_closes (stops _ _ _ _ _ (sym closes_is ∙ e) (r ∙ ap (λ (m : ℕ). refused 27 (at + 13 + 16 * m)) is))

    pub closed : t ≡ true → gives n ≡ asked (polygon_asks s at room) (length_at s at)
    closed e = then_closes (passes _ _ _ _ _ (sym closes_is ∙ e) (ends (length_at s at) (ap gives is)))

-- ---- ... as the code finds it: the byte order, then the count

module _ (s : List ℕ) (at room : ℕ) {order : ByteOrder} (found : gives order ≡ asked (type_asks s at 3 22) (order_of (order_at s at))) where
  counts_are : {A : Type 0} (f : ℕ → A) → f (code order) ≡ f (order_at s at)
  counts_are f = ap f (order_is s at 3 22 found)

  -- a fault of the head
  then_head : {x : Answer ℕ} {n p : ℕ} → refused n p ≡ asked (head_asks s at room) (length_at s at) → x ≡ refused n p → x ≡ asked (polygon_asks s at room) (length_at s at)
  then_head {x} {n} {p} e h = stops_first (head_asks s at room) _ (length_at s at) (length_at s at) n p e h

  pub count_refused : {x : Answer ℕ} {n p : ℕ} → refused n p ≡ asked (count_asks (code order) s at room) (count (code order) s at)
      → x ≡ refused n p → x ≡ asked (polygon_asks s at room) (length_at s at)
  count_refused {x} {n} {p} e h =
      then_head
      (passes_all (type_asks s at 3 22) (count_asks (order_at s at) s at room) (order_of (order_at s at)) (length_at s at) found
      (refused_other (count_asks (order_at s at) s at room) (count (order_at s at) s at) (length_at s at) n p
      (e ∙ counts_are (λ (o : ℕ). asked (count_asks o s at room) (count o s at))) refl)) h

  pub count_found : {m : ℕ} → gives m ≡ asked (count_asks (code order) s at room) (count (code order) s at)
      → gives (m - 1) ≡ asked (head_asks s at room) (length_at s at)
  count_found {m} e =
      let c = e ∙ counts_are (λ (o : ℕ). asked (count_asks o s at room) (count o s at)) in
      passes_all (type_asks s at 3 22) (count_asks (order_at s at) s at room) (order_of (order_at s at)) (length_at s at) found
      (gives_other (count_asks (order_at s at) s at room) (count (order_at s at) s at) (length_at s at) m c
      (ap (λ (k : ℕ). gives (k - 1)) (given_is (count_asks (order_at s at) s at room) (count (order_at s at) s at) c)))

  -- a head that was read: it is good, and positions that were scanned after it are there
  module _ {m : ℕ} (counted : gives m ≡ asked (count_asks (code order) s at room) (count (code order) s at)) where
    pub count_good : Headed s at room (m - 1)
    count_good = head_good s at room (m - 1) (count_found counted)

    pub scanned_there : gives tt ≡ scanned (2 * (m - 1 + 1)) (order_at s at) s (at + 13) → at + 13 + 8 * (2 * (m - 1 + 1)) ≤ length s
    scanned_there e = coordinates_there (2 * (m - 1 + 1)) (order_at s at) s (at + 13) count_good.there e

  -- the first position and the last, as they were read
  pub closing_is_read : {x y u v : ℕ} (n : ℕ) → x ≡ grid_at (code order) s (at + 13) → y ≡ grid_at (code order) s (at + 13 + 8)
      → u ≡ grid_at (code order) s (at + 13 + 16 * n) → v ≡ grid_at (code order) s (at + 13 + 16 * n + 8) → (eqb x u && eqb y v) ≡ closing s at n
  closing_is_read n e f g h =
      rw (e, f, g, h)
      (counts_are (λ (o : ℕ). eqb (grid_at o s (at + 13)) (grid_at o s (at + 13 + 16 * n)) && eqb (grid_at o s (at + 13 + 8)) (grid_at o s (at + 13 + 16 * n + 8))))

-- a fault of the byte order or the type
pub type_refused : {x : Answer ℕ} {n p : ℕ} (s : List ℕ) (at room : ℕ) → refused n p ≡ asked (type_asks s at 3 22) (order_of (order_at s at))
    → x ≡ refused n p → x ≡ asked (polygon_asks s at room) (length_at s at)
type_refused {x} {n} {p} s at room e h =
    stops_first (head_asks s at room) _ (length_at s at) (length_at s at) n p
    (stops_first (type_asks s at 3 22) (count_asks (order_at s at) s at room) (order_of (order_at s at)) (length_at s at) n p e refl) h

-- a polygon that is taken: a good head, positions on the grid, the last the first
pub record Ringed (s : List ℕ) (at room n : ℕ) : Type 0 where
  pub head : Headed s at room n
  pub fine : gives tt ≡ scanned (2 * (n + 1)) (order_at s at) s (at + 13)
  pub same_x : grid_at (order_at s at) s (at + 13) ≡ grid_at (order_at s at) s (at + 13 + 16 * n)
  pub same_y : grid_at (order_at s at) s (at + 13 + 8) ≡ grid_at (order_at s at) s (at + 13 + 16 * n + 8)
  pub whole : at + 13 + 16 * (n + 1) ≤ length s

pub polygon_good : (s : List ℕ) (at room n : ℕ) → gives n ≡ asked (polygon_asks s at room) (length_at s at) → Ringed s at room n
polygon_good s at room n e =
    let o : ℕ = order_at s at in
    let m : ℕ = length_at s at in
    let q1 = passed_both (head_asks s at room) _ m m e in
    let q2 = passed_both (coordinates (2 * count o s at) o s (at + 13)) (closes s at ∷ []) tt m q1.1 in
    let q3 = passed_one (closing s at m) 27 (at + 13 + 16 * m) [] m q2.1 in
    let is : n ≡ m = passed_all m q3.1 in
    let h : Headed s at room n = head_good s at room n (ap gives is ∙ q1.0) in
    let f : gives tt ≡ scanned (2 * (n + 1)) o s (at + 13) = q2.0 ∙ sym (scan_is s at room n (ap gives is ∙ q1.0)) in
    let same = and_iff.0 (ap (closing s at) is ∙ q3.0) in
    record {
      head = h;
      fine = f;
      same_x = eqb-true _ _ same.0;
      same_y = eqb-true _ _ same.1;
      whole = omega (arith, coordinates_there (2 * (n + 1)) o s (at + 13) h.there f);
    }

-- ... and the other way round
pub ringed_answer : (s : List ℕ) (at room n : ℕ) → Ringed s at room n → gives n ≡ asked (polygon_asks s at room) (length_at s at)
ringed_answer s at room n r =
    let same : closing s at n ≡ true = and_iff.1 (eq-eqb _ _ r.same_x, eq-eqb _ _ r.same_y) in
    closed s at room n (head_answer s at room n r.head) r.fine refl same

-- what was asked of one room, and that is another
pub for_room : {x : Answer ℕ} {room other : ℕ} (s : List ℕ) (at : ℕ) → room ≡ other → x ≡ asked (polygon_asks s at room) (length_at s at)
    → x ≡ asked (polygon_asks s at other) (length_at s at)
for_room s at is e = e ∙ ap (λ (k : ℕ). asked (polygon_asks s at k) (length_at s at)) is

-- ---- a block that is one polygon

module _ (s : List ℕ) (room n : ℕ) (answer : gives n ≡ asked (polygon_asks s 0 room) (length_at s 0)) where
  r : Ringed s 0 room n
  r = polygon_good s 0 room n answer

  n_is : n ≡ length_at s 0
  n_is = omega (arith, r.head.counted)

  then_end : {x : Answer ℕ} → x ≡ asked (must (leb (length s) (end s 0)) 28 (end s 0) ∷ []) (length_at s 0) → x ≡ read_answer s room
  then_end e = passes_all (polygon_asks s 0 room) _ (length_at s 0) (length_at s 0) (ap gives (sym n_is) ∙ answer) e

  end_is : 29 + 16 * n ≡ end s 0
  end_is = omega (arith, r.head.counted)

  pub bytes_left : {x : Answer ℕ} {k p : ℕ} → refused k p ≡ asked (ended s (29 + 16 * n) ∷ []) (tt {0}) → x ≡ refused k p → x ≡ read_answer s room
  bytes_left {x} {k} {p} e h =
      then_end (refused_other (ended s (end s 0) ∷ []) (tt {0}) (length_at s 0) k p (e ∙ ap (λ (m : ℕ). asked (ended s m ∷ []) (tt {0})) end_is) h)

  pub all_read : length s ≤ 29 + 16 * n → gives n ≡ read_answer s room
  all_read h = then_end (passes_below (length s) (end s 0) 28 (end s 0) [] (length_at s 0) (omega (arith, end_is)) (ends (length_at s 0) (ap gives n_is)))
