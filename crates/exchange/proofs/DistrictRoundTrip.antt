-- Write a district, then read: the rings come back. Read, then write: the block comes back, where it is little-endian throughout. Assumes nothing.
use Prim.Native.Nat.{ℕ, ◌<◌, ◌≤◌}
use mathlib.Core.Path.{◌≡◌, refl, sym, ap, ◌∙◌}
use mathlib.Core.List.{List, ◌++◌}
use native.Mathlib.Omega.{arith}
use lib.ListN.{length, take, drop, get_or, replicate, length-replicate, get_or-replicate}
use lib.Seq.{take_at}
use Rattle.shape.specs.Answers.{gives, over}
use Rattle.shape.specs.Reading.{order_at}
use Rattle.shape.specs.Refusals.{Low}
use Rattle.shape.proofs.Asking.{stands}
use Rattle.exchange.specs.Districts.{district_file, district_size, district_writing, district, ring_count, district_answer, district_lengths, district_xs, district_ys}
use Rattle.exchange.specs.DistrictRefusals.{Divided, start}
use Rattle.exchange.proofs.Words.{Octets}
use Rattle.exchange.proofs.Parts.{lengths_length}
use Rattle.exchange.proofs.DistrictLaws.{district_orders, all_little, each_order, district_file_length}
use Rattle.exchange.proofs.DistrictExactly.{write_district_taken_exactly}
use Rattle.exchange.proofs.DistrictReadBack.{Mapped, district_file_reads_back}
use Rattle.exchange.proofs.DistrictWriteBack.{write_after_read_district}

-- what the writer takes is such as a little-endian file can hold
mapped_of : (xs ys lengths : List ℕ) → Divided xs ys lengths → Low xs × Low ys → Mapped 1 (replicate (length lengths) 1) lengths xs ys
mapped_of xs ys lengths h l =
    let k : ℕ = length lengths in
    let orders : List ℕ = replicate k 1 in
    let long : length orders ≡ k = length-replicate k 1 in
    record {
      head_order = omega arith;
      ordered = (λ i b. omega (arith, get_or-replicate {A = ℕ} k i 1 0 (omega arith)));
      order_each = long;
      least = h.0.0.0;
      most = h.0.0.1;
      summed = h.0.1;
      same = h.1;
      ringed = h.2;
      low_x = l.0;
      low_y = l.1;
    }

-- the n bytes that `write_district` put into `out` are read, into lists with room for the rings, as the rings; past them the lists stay
pub write_district_then_read : (xs ys lengths out : List ℕ) (n : ℕ) → district_writing xs ys lengths (length out) ≡ gives n
    → (block : List ℕ) → block ≡ take n (over (district_writing xs ys lengths (length out)) (district lengths xs ys) out)
    → (places room : ℕ) → length lengths ≤ places → length xs ≤ room
    → (district_answer block places room ≡ gives (length lengths))
    × ((old : List ℕ) → over (district_answer block places room) (district_lengths block) old ≡ lengths ++ drop (length lengths) old)
    × ((old : List ℕ) → over (district_answer block places room) (district_xs block) old ≡ xs ++ drop (length xs) old)
    × ((old : List ℕ) → over (district_answer block places room) (district_ys block) old ≡ ys ++ drop (length ys) old)
write_district_then_read xs ys lengths out n e block b places room fits roomy =
    let w = (write_district_taken_exactly xs ys lengths (length out) n).0 e in
    let m = mapped_of xs ys lengths w.0 w.1 in
    let f : List ℕ = district lengths xs ys in
    let summed = m.summed in
    let long : length f ≡ n = district_file_length 1 (replicate (length lengths) 1) lengths xs ys m.order_each (omega arith) (omega (arith, m.same)) ∙ sym w.3 in
    let front : block ≡ f = b ∙ ap (take n) (stands e refl out) ∙ take_at f (drop (length f) out) n long in
    let r = district_file_reads_back 1 (replicate (length lengths) 1) lengths xs ys m places room fits roomy in
    let answer : district_answer block places room ≡ gives (length lengths) = ap (λ (s : List ℕ). district_answer s places room) front ∙ r.answer in
    (answer, stands answer (ap district_lengths front ∙ r.lengths_are), stands answer (ap district_xs front ∙ r.xs_are), stands answer (ap district_ys front ∙ r.ys_are))

-- a block that is read as rings, little-endian in its head and in each polygon, is what `write_district` makes of those rings; past it the output stays
pub read_district_then_write : (block : List ℕ) → Octets block → (places room n : ℕ) → district_answer block places room ≡ gives n
    → order_at block 0 ≡ 1 → ((i : ℕ) → i < ring_count block → order_at block (start block i) ≡ 1) → (out : List ℕ) → length block ≤ length out
    → (district_writing (district_xs block) (district_ys block) (district_lengths block) (length out) ≡ gives (length block))
    × (over (district_writing (district_xs block) (district_ys block) (district_lengths block) (length out)) (district (district_lengths block) (district_xs block) (district_ys block)) out
    ≡ block ++ drop (length block) out)
read_district_then_write block oct places room n e first each out fits =
    let lengths : List ℕ = district_lengths block in
    let xs : List ℕ = district_xs block in
    let ys : List ℕ = district_ys block in
    let r = write_after_read_district block oct places room n e in
    let m = r.1 in
    let summed = m.summed in
    let little : district_orders block ≡ replicate (ring_count block) 1 = all_little block (ring_count block) 9 each in
    let count : ring_count block ≡ length lengths = sym (length-replicate (ring_count block) 1) ∙ ap length (sym little) ∙ m.order_each in
    let orders : district_orders block ≡ replicate (length lengths) 1 = little ∙ ap (λ (k : ℕ). replicate k 1) count in
    let is : block ≡ district lengths xs ys =
    r.0 ∙ ap (λ (o : ℕ). district_file o (district_orders block) lengths xs ys) first ∙ ap (λ (os : List ℕ). district_file 1 os lengths xs ys) orders in
    let long : length block ≡ district_size lengths =
    ap length r.0 ∙ district_file_length (order_at block 0) (district_orders block) lengths xs ys m.order_each (omega arith) (omega (arith, m.same)) in
    let answer : district_writing xs ys lengths (length out) ≡ gives (length block) =
    (write_district_taken_exactly xs ys lengths (length out) (length block)).1
    ((((m.least, m.most), m.summed), m.same, m.ringed), (m.low_x, m.low_y), omega arith, long) in
    (answer, stands answer (sym is) out)

-- ... and no other block that is read comes back: what the writer makes is little-endian throughout
pub only_little_comes_back : (block : List ℕ) → Octets block → (places room n : ℕ) → district_answer block places room ≡ gives n
    → block ≡ district (district_lengths block) (district_xs block) (district_ys block)
    → (order_at block 0 ≡ 1) × ((i : ℕ) → i < ring_count block → order_at block (start block i) ≡ 1)
only_little_comes_back block oct places room n e is =
    let lengths : List ℕ = district_lengths block in
    let xs : List ℕ = district_xs block in
    let ys : List ℕ = district_ys block in
    let k : ℕ = length lengths in
    let m = (write_after_read_district block oct places room n e).1 in
    let one = mapped_of xs ys lengths (((m.least, m.most), m.summed), m.same, m.ringed) (m.low_x, m.low_y) in
    let b = district_file_reads_back 1 (replicate k 1) lengths xs ys one k (length xs) (omega arith) (omega arith) in
    let orders : district_orders block ≡ replicate k 1 = ap district_orders is ∙ b.orders_are in
    let count : ring_count block ≡ k = sym (lengths_length block (ring_count block) 9) in (
      ap (λ (s : List ℕ). order_at s 0) is ∙ b.head_order,
      (λ i h.
          sym (each_order block (ring_count block) 9 i h) ∙ ap (λ (l : List ℕ). get_or l i 0) orders
          ∙ get_or-replicate {A = ℕ} k i 1 0 (omega (arith, count))),
    )
