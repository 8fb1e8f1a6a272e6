-- Write, then read: the ring comes back. Read, then write: the block comes back, where it is little-endian. Assumes nothing.
use Prim.Native.Nat.{ℕ, ◌≤◌}
use mathlib.Core.Path.{◌≡◌, refl, sym, ap, ◌∙◌}
use mathlib.Core.List.{List, ◌++◌}
use native.Mathlib.Omega.{arith}
use lib.ListN.{length, take, drop}
use lib.Seq.{take_at}
use Rattle.shape.specs.Answers.{gives, over}
use Rattle.shape.specs.Writing.{polygon, size, writing}
use Rattle.shape.specs.Reading.{order_at, xs_at, ys_at, read_answer}
use Rattle.shape.specs.Refusals.{Ring, Low}
use Rattle.shape.proofs.Asking.{stands}
use Rattle.shape.proofs.Lengths.{polygon_length}
use Rattle.exchange.proofs.Words.{Octets}
use Rattle.exchange.proofs.Lows.{low_exactly}
use Rattle.exchange.proofs.WriteExactly.{write_taken_exactly}
use Rattle.exchange.proofs.ReadAfterWrite.{Writable, read_after_write}
use Rattle.exchange.proofs.WriteAfterRead.{write_after_read}

writable_of : (xs ys : List ℕ) → Ring xs ys → Low xs × Low ys → Writable xs ys
writable_of xs ys h l = record { same = h.0; least = h.1; most = h.2; low_x = (low_exactly xs).1 l.0; low_y = (low_exactly ys).1 l.1 }

-- the n bytes that `write` put into `out` are read, into lists with room for the ring, as the ring; past it the lists stay
pub write_then_read : (xs ys out : List ℕ) (n : ℕ) → writing xs ys (length out) ≡ gives n → (block : List ℕ) → block ≡ take n (over (writing xs ys (length out)) (polygon 1 xs ys) out)
    → (room : ℕ) → length xs ≤ room
    → (read_answer block room ≡ gives (length xs)) × ((old : List ℕ) → over (read_answer block room) (xs_at block 0) old ≡ xs ++ drop (length xs) old)
    × ((old : List ℕ) → over (read_answer block room) (ys_at block 0) old ≡ ys ++ drop (length ys) old)
write_then_read xs ys out n e block b room fits =
    let w = (write_taken_exactly xs ys (length out) n).0 e in
    let p : List ℕ = polygon 1 xs ys in
    let front : block ≡ p = b ∙ ap (take n) (stands e refl out) ∙ take_at p (drop (length p) out) n (polygon_length 1 xs ys w.0.0 ∙ sym w.3) in
    let r = read_after_write 1 (omega arith) xs ys (writable_of xs ys w.0 w.1) room fits in
    let answer : read_answer block room ≡ gives (length xs) = ap (λ (s : List ℕ). read_answer s room) front ∙ r.0 in
    let x_is : xs_at block 0 ≡ xs = ap (λ (s : List ℕ). xs_at s 0) front ∙ r.1 in
    let y_is : ys_at block 0 ≡ ys = ap (λ (s : List ℕ). ys_at s 0) front ∙ r.2 in (
      answer,
      stands answer x_is,
      stands answer y_is,
    )

-- a little-endian block that is read as a ring is what `write` makes of that ring; past it the output stays
pub read_then_write : (block : List ℕ) → Octets block → (room n : ℕ) → read_answer block room ≡ gives n → order_at block 0 ≡ 1 → (out : List ℕ) → length block ≤ length out
    → (writing (xs_at block 0) (ys_at block 0) (length out) ≡ gives (length block))
    × (over (writing (xs_at block 0) (ys_at block 0) (length out)) (polygon 1 (xs_at block 0) (ys_at block 0)) out ≡ block ++ drop (length block) out)
read_then_write block oct room n e low out fits =
    let x : List ℕ = xs_at block 0 in
    let y : List ℕ = ys_at block 0 in
    let r = write_after_read block oct room n e in
    let w = r.1 in
    let same : polygon 1 x y ≡ block = sym (r.0 ∙ ap (λ (o : ℕ). polygon o x y) low) in
    let long : length block ≡ size (length x) = ap length (sym same) ∙ polygon_length 1 x y w.same in
    let answer : writing x y (length out) ≡ gives (length block) =
    (write_taken_exactly x y (length out) (length block)).1 ((w.same, w.least, w.most), ((low_exactly x).0 w.low_x, (low_exactly y).0 w.low_y), omega arith, long) in
    (answer, stands answer same out)
