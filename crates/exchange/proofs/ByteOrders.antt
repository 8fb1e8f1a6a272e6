-- A block and the block of the same numbers in the other byte order read as the same ring. Assumes nothing.
use Prim.Native.Nat.{ℕ, ◌≤◌}
use mathlib.Core.Path.{◌≡◌, ap, ◌∙◌}
use mathlib.Core.List.{List}
use native.Mathlib.Omega.{arith}
use lib.ListN.{length}
use Rattle.shape.specs.Answers.{gives}
use Rattle.shape.specs.Writing.{polygon}
use Rattle.shape.specs.Reading.{read_answer, xs_at, ys_at}
use Rattle.exchange.proofs.Words.{Octets}
use Rattle.exchange.proofs.ReadAfterWrite.{read_after_write}
use Rattle.exchange.proofs.WriteAfterRead.{write_after_read, block_good, x_long}

-- the block of the numbers that were read, in a byte order of one's choice
abbrev pub reordered : ℕ → List ℕ → List ℕ
reordered order s = polygon order (xs_at s 0) (ys_at s 0)

pub same_ring_in_both_orders : (s : List ℕ) → Octets s → (room n : ℕ) → read_answer s room ≡ gives n → (order : ℕ) → order ≤ 1
    → (read_answer (reordered order s) room ≡ gives n) × (xs_at (reordered order s) 0 ≡ xs_at s 0) × (ys_at (reordered order s) 0 ≡ ys_at s 0)
same_ring_in_both_orders s oct room n e order two =
    let w = write_after_read s oct room n e in
    let b = block_good s room n e in
    let long : length (xs_at s 0) ≡ n = x_long s oct 0 room n b.ring in
    let r = read_after_write order two (xs_at s 0) (ys_at s 0) w.1 room (omega (arith, long, b.ring.head.fits)) in
    (r.0 ∙ ap gives long, r.1, r.2)
