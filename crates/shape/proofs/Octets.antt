-- Numbers and their bytes: a run of bytes as a list that is written out, and runs of stores. Assumes nothing.
use Rattle.std.proofs.Common.{◌≡◌, ℕ, zero, suc, ◌+◌, ◌-◌, ◌/◌, ◌%◌, ◌^◌, ◌≤◌, List, ◌∷◌, ◌++◌, length, take, drop, sym, refl, ap, ap₂, ◌∙◌, append_assoc, arith, length-append, w32, w64}
use Rattle.std.specs.Int.{byte_at, bytes_low_first, to_le_bytes}
use Rattle.std.proofs.Math.Nat.{div-div-eq-div-mul, pow-suc}
use borrow.Rule.Slice.PartMut.{put_mid}
use Rattle.std.proofs.lemmas.List.{drop-drop}
use lib.Seq.{sets, sets-eq, length-sets}
use Rattle.laws.proofs.Put.{sets-append}
use Rattle.shape.specs.Bytes.{low_bytes}

-- bytes that were put into a part that was lent, `out[at..at + k]`
pub put_bytes : {new bytes : List ℕ} (out : List ℕ) (at k : ℕ) → new ≡ bytes → length bytes ≡ k → at + k ≤ length out → put_mid at k out new ≡ sets out at bytes
put_bytes {new} {bytes} out at k e len h =
    let there : at + length bytes ≤ length out = omega arith in
    let past : at + k ≡ at + length bytes = omega arith in
    ap (put_mid at k out) e
    ∙ ap (λ (l : List ℕ). take at out ++ (bytes ++ l)) (drop-drop k at out ∙ ap (λ (n : ℕ). drop n out) past)
    ∙ sym (append_assoc (take at out) bytes (drop (at + length bytes) out)) ∙ sym (sets-eq bytes out at there)

-- the library's bytes of a number, from the i-th upward
bytes_from : (i k n m : ℕ) → m ≡ n / 256 ^ i → bytes_low_first i k n ≡ low_bytes k m
unfolding low_bytes
bytes_from i zero n m e = refl
bytes_from i (suc k) n m e = ap₂ ◌∷◌ (first i e) (bytes_from (suc i) k n (m / 256) (ap (λ (q : ℕ). q / 256) e ∙ div-div-eq-div-mul n (256 ^ i) 256 ∙ ap (λ (q : ℕ). n / q) (sym (pow-suc 256 i))))
  where
    first : (i : ℕ) → m ≡ n / 256 ^ i → byte_at i n ≡ m % 256
    first zero e = let one : n / 1 ≡ n = omega arith in ap (λ (q : ℕ). q % 256) (sym (e ∙ one))
    first (suc i) e = ap (λ (q : ℕ). q % 256) (sym e)

pub bytes4 : (n : ℕ) → to_le_bytes w32 n ≡ low_bytes 4 n
bytes4 n = bytes_from 0 4 n n (omega arith)

pub bytes8 : (n : ℕ) → to_le_bytes w64 n ≡ low_bytes 8 n
bytes8 n = bytes_from 0 8 n n (omega arith)

pub low_length : (k n : ℕ) → length (low_bytes k n) ≡ k
unfolding low_bytes
low_length zero n = refl
low_length (suc k) n = ap suc (low_length k (n / 256))

-- a run of k bytes put after another
put_more : {new : List ℕ} (out xs ys : List ℕ) (at m k : ℕ) → length xs ≡ m → new ≡ ys → length ys ≡ k → at + m + k ≤ length out
    → put_mid (at + m) k (sets out at xs) new ≡ sets out at (xs ++ ys)
put_more out xs ys at m k e f g h =
    put_bytes (sets out at xs) (at + m) k f g (omega (arith, length-sets out at xs))
    ∙ ap (λ (n : ℕ). sets (sets out at xs) (at + n) ys) (sym e) ∙ sym (sets-append xs ys out at)

-- a position's two floats
pub put_both : {one two : List ℕ} (out : List ℕ) (at a b : ℕ) → at + 16 ≤ length out → one ≡ to_le_bytes w64 a → two ≡ to_le_bytes w64 b
    → put_mid (at + 8) (at + 16 - (at + 8)) (put_mid at (at + 8 - at) out one) two ≡ sets out at (low_bytes 8 a ++ low_bytes 8 b)
put_both {one} {two} out at a b h e f =
    let k : at + 8 - at ≡ 8 = omega arith in
    let m : at + 16 - (at + 8) ≡ 8 = omega arith in
    rw (k, m)
    (ap (λ (l : List ℕ). put_mid (at + 8) 8 l two) (put_bytes out at 8 (e ∙ bytes8 a) (low_length 8 a) (omega arith))
    ∙ put_more out (low_bytes 8 a) (low_bytes 8 b) at 8 8 (low_length 8 a) (f ∙ bytes8 b) (low_length 8 b) (omega arith))

-- two fields of four bytes
pub put_two_fields : {one two : List ℕ} (out : List ℕ) (a b : ℕ) → 9 ≤ length out → one ≡ to_le_bytes w32 a → two ≡ to_le_bytes w32 b
    → put_mid 5 4 (put_mid 1 4 out one) two ≡ sets out 1 (low_bytes 4 a ++ low_bytes 4 b)
put_two_fields {one} {two} out a b h e f =
    ap (λ (l : List ℕ). put_mid 5 4 l two) (put_bytes out 1 4 (e ∙ bytes4 a) (low_length 4 a) (omega arith))
    ∙ put_more out (low_bytes 4 a) (low_bytes 4 b) 1 4 4 (low_length 4 a) (f ∙ bytes4 b) (low_length 4 b) (omega arith)

-- three fields of four bytes, after a byte order
pub put_fields : {one two three : List ℕ} (out : List ℕ) (a b c : ℕ) → 13 ≤ length out → one ≡ to_le_bytes w32 a → two ≡ to_le_bytes w32 b → three ≡ to_le_bytes w32 c
    → put_mid 9 4 (put_mid 5 4 (put_mid 1 4 out one) two) three ≡ sets out 1 (low_bytes 4 a ++ (low_bytes 4 b ++ low_bytes 4 c))
put_fields {one} {two} {three} out a b c h e f g =
    ap (λ (l : List ℕ). put_mid 9 4 l three) (put_two_fields out a b (omega arith) e f)
    ∙ put_more out (low_bytes 4 a ++ low_bytes 4 b) (low_bytes 4 c) 1 8 4
    (length-append (low_bytes 4 a) (low_bytes 4 b) ∙ ap₂ ◌+◌ (low_length 4 a) (low_length 4 b)) (g ∙ bytes4 c) (low_length 4 c) (omega arith)
    ∙ ap (sets out 1) (append_assoc (low_bytes 4 a) (low_bytes 4 b) (low_bytes 4 c))
