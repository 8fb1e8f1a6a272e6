-- A district's file that the reader takes is, byte for byte, the file of its rings in its byte orders: where all are little-endian what the writer
-- makes. Assumes nothing.
use Prim.Native.Nat.{ℕ, zero, suc, ◌+◌, ◌*◌, ◌-◌, ◌≤◌}
use mathlib.Core.Path.{◌≡◌, refl, sym, ap, ◌∙◌}
use mathlib.Core.Bool.{true}
use mathlib.Core.List.{List, [], ◌∷◌, ◌++◌, append_assoc, append-nil}
use native.Mathlib.Omega.{arith}
use native.Mathlib.Nat.{le_of_suc-le-suc}
use lib.ListN.{length, drop, drop_of_length-le}
use lib.Seq.{drop-cons}
use Rattle.shape.specs.Answers.{gives}
use Rattle.shape.specs.Bytes.{in_order}
use Rattle.shape.specs.Writing.{polygon, low}
use Rattle.shape.specs.Reading.{order_at, length_at, end, polygon_asks, xs_at, ys_at}
use Rattle.shape.proofs.Asking.{fault}
use Rattle.shape.proofs.Heads.{passed_both}
use Rattle.shape.proofs.Polygons.{Ringed, polygon_good}
use Rattle.exchange.specs.Districts.{polygons, district_file, total, rings, parts_asks, parts_end, part_lengths, parts_xs, parts_ys, ring_count, district_end, district_answer, district_lengths, district_xs, district_ys}
use Rattle.exchange.proofs.Words.{Octets, word_of}
use Rattle.exchange.proofs.Lows.{low_none, low_exactly}
use Rattle.exchange.proofs.Parts.{lengths_length, xs_length, ys_length}
use Rattle.exchange.proofs.ReadAfterWrite.{Writable}
use Rattle.exchange.proofs.WriteAfterRead.{x_long, polygon_there, ring_writable}
use Rattle.exchange.proofs.PointsReadBack.{Orders}
use Rattle.exchange.proofs.DistrictLaws.{part_orders, district_orders, low_both, rings_more, rings_none, rings_exactly, polygons_next}
use Rattle.exchange.proofs.DistrictFiles.{district_good}
use Rattle.exchange.proofs.DistrictReadBack.{Mapped}

orders_more : (o : ℕ) (os : List ℕ) → o ≤ 1 → Orders os → Orders (o ∷ os)
orders_more o os h f zero l = h
orders_more o os h f (suc i) l = f i (le_of_suc-le-suc l)

-- ---- polygons one after another

-- the bytes from a place on are those of k polygons and what follows them, and the writer takes their rings
record Standing (s : List ℕ) (k at : ℕ) : Type 0 where
  stands : drop at s ≡ polygons (part_orders s k at) (part_lengths s k at) (parts_xs s k at) (parts_ys s k at) ++ drop (parts_end s k at) s
  ordered : Orders (part_orders s k at)
  order_each : length (part_orders s k at) ≡ length (part_lengths s k at)
  ringed : rings (part_lengths s k at) ≡ true
  low_x : low (parts_xs s k at) ≡ true
  low_y : low (parts_ys s k at) ≡ true

parts_stand : (s : List ℕ) → Octets s → (k at room : ℕ) → gives tt ≡ fault (parts_asks s k at room) → Standing s k at
unfolding polygons total parts_asks parts_end part_lengths parts_xs parts_ys part_orders
parts_stand s oct zero at room e = record {
  stands = refl;
  ordered = (λ i h. absurd (omega arith));
  order_each = refl;
  ringed = rings_none;
  low_x = low_none;
  low_y = low_none;
}
parts_stand s oct (suc k) at room e =
    let n : ℕ = length_at s at in
    let o : ℕ = order_at s at in
    let x : List ℕ = xs_at s at in
    let y : List ℕ = ys_at s at in
    let next : ℕ = end s at in
    let q = passed_both (polygon_asks s at room) (parts_asks s k next (room - n)) n (tt {0}) e in
    let r : Ringed s at room n = polygon_good s at room n q.0 in
    let rest = parts_stand s oct k next (room - n) q.1 in
    let os : List ℕ = part_orders s k next in
    let ns : List ℕ = part_lengths s k next in
    let xr : List ℕ = parts_xs s k next in
    let yr : List ℕ = parts_ys s k next in
    let w : Writable x y = ring_writable s oct at room n r in
    let ex : length x ≡ n = x_long s oct at room n r in
    let ey : length y ≡ n = sym w.same ∙ ex in
    let more : List ℕ = drop (parts_end s k next) s in
    let counted = r.head.counted in
    let after : at + 13 + 16 * (n + 1) ≡ next = omega arith in
    record {
      stands =
          polygon_there s oct at room n r ∙ ap (λ (i : ℕ). polygon o x y ++ drop i s) after ∙ ap (λ (l : List ℕ). polygon o x y ++ l) rest.stands
          ∙ sym (append_assoc (polygon o x y) (polygons os ns xr yr) more)
          ∙ ap (λ (l : List ℕ). l ++ more) (sym (polygons_next o os n ns x y xr yr ex ey));
      ordered = orders_more o os r.head.order rest.ordered;
      order_each = ap suc rest.order_each;
      ringed = rings_more n ns r.head.least r.head.most rest.ringed;
      low_x = (low_both x xr).1 (w.low_x, rest.low_x);
      low_y = (low_both y yr).1 (w.low_y, rest.low_y);
    }

-- ---- the file

-- WHAT READS AS RINGS is the file of those rings in its byte orders, and these are such as a file can hold
pub write_after_read_district : (s : List ℕ) → Octets s → (places room n : ℕ) → district_answer s places room ≡ gives n
    → (s ≡ district_file (order_at s 0) (district_orders s) (district_lengths s) (district_xs s) (district_ys s))
    × Mapped (order_at s 0) (district_orders s) (district_lengths s) (district_xs s) (district_ys s)
write_after_read_district s oct places room n e =
    let g = district_good s places room n e in
    let head = g.head in
    let p = parts_stand s oct (ring_count s) 9 room g.fine in
    let o : ℕ = order_at s 0 in
    let k : ℕ = length (district_lengths s) in
    let nine : 9 ≤ length s = head.0.1 in
    let body : List ℕ = polygons (district_orders s) (district_lengths s) (district_xs s) (district_ys s) in
    let six : List ℕ = in_order o 4 6 in
    let count : List ℕ = in_order o 4 k in
    let few = lengths_length s (ring_count s) 9 in
    let none : drop (district_end s) s ≡ [] = drop_of_length-le s {i = district_end s} g.all_read in
    let w0 : s ≡ o ∷ drop 1 s = drop-cons s 0 0 (omega arith) in
    let w1 : drop 1 s ≡ six ++ drop 5 s = word_of o s 1 4 oct (omega arith) 6 head.0.0.2 in
    let w5 : drop 5 s ≡ count ++ drop 9 s = word_of o s 5 4 oct nine k (sym few) in
    let w9 : drop 9 s ≡ body = p.stands ∙ ap (λ (l : List ℕ). body ++ l) none ∙ append-nil body in
    let lo : 1 ≤ ring_count s = head.0.2 in
    let hi : ring_count s ≤ 32 = head.0.3 in (
      w0 ∙ ap (λ (l : List ℕ). o ∷ l) (w1 ∙ ap (λ (l : List ℕ). six ++ l) (w5 ∙ ap (λ (l : List ℕ). count ++ l) w9) ∙ sym (append_assoc six count body)),
      record {
        head_order = head.0.0.0.1;
        ordered = p.ordered;
        order_each = p.order_each;
        least = omega arith;
        most = omega arith;
        summed = sym (xs_length s (ring_count s) 9);
        same = xs_length s (ring_count s) 9 ∙ sym (ys_length s (ring_count s) 9);
        ringed = (rings_exactly (district_lengths s)).0 p.ringed;
        low_x = (low_exactly (district_xs s)).0 p.low_x;
        low_y = (low_exactly (district_ys s)).0 p.low_y;
      },
    )
