-- A number's bytes at a place of a block: the number read there, and the bytes of a number that was read, in either byte order. Assumes nothing.
use Prim.Native.Nat.{ℕ, zero, suc, ◌+◌, ◌*◌, ◌/◌, ◌%◌, ◌^◌, ◌<◌, ◌≤◌, suc-le-suc, zero-le}
use mathlib.Core.Path.{◌≡◌, refl, sym, ap, ◌∙◌, subst}
use mathlib.Core.Bool.{Bool, true, false}
use mathlib.Core.List.{List, [], ◌∷◌, ◌++◌, reverse_aux, reverse-reverse}
use native.Mathlib.Omega.{arith}
use native.Mathlib.Nat.{div-lt_iff_lt-mul, pow-suc}
use lib.Dec.{eqb, lit<}
use lib.ListN.{length, take, drop, get_or, length-append, length-drop, length-take, take-append-drop}
use lib.Seq.{take_at, drop_at, drop-drop}
use Rattle.shape.specs.Bytes.{low_first, low_bytes, turned, in_order, number_at}
use Rattle.shape.proofs.Lengths.{turned_length, order_length}

first_low : (k n : ℕ) → n < 256 ^ k → low_first (low_bytes k n) ≡ n
unfolding low_bytes
first_low zero n h = omega arith
first_low (suc k) n h =
    let q : n / 256 < 256 ^ k = (div-lt_iff_lt-mul (lit< tt)).1 (rw pow-suc at h) in
    ap (λ (v : ℕ). n % 256 + 256 * v) (first_low k (n / 256) q) ∙ omega arith

turned_twice : (b : Bool) (l : List ℕ) → turned b (turned b l) ≡ l
turned_twice true l = reverse-reverse l
turned_twice false l = refl

-- ---- bytes

-- each is below 256
abbrev pub Octets : List ℕ → Type 0
Octets s = (i : ℕ) → i < length s → get_or s i 0 < 256

abbrev All : List ℕ → Type 0
All [] = Unit {0}
All (b ∷ bs) = (b < 256) × All bs

all_of : (s : List ℕ) → Octets s → All s
all_of [] o = tt
all_of (b ∷ bs) o = (o 0 (suc-le-suc zero-le), all_of bs (λ i h. o (suc i) (suc-le-suc h)))

all_drop : (n : ℕ) (bs : List ℕ) → All bs → All (drop n bs)
all_drop zero bs o = o
all_drop (suc n) [] o = o
all_drop (suc n) (b ∷ bs) o = all_drop n bs o.1

all_take : (n : ℕ) (bs : List ℕ) → All bs → All (take n bs)
all_take zero bs o = tt
all_take (suc n) [] o = o
all_take (suc n) (b ∷ bs) o = (o.0, all_take n bs o.1)

all_aux : (bs cs : List ℕ) → All bs → All cs → All (reverse_aux bs cs)
all_aux [] cs o p = p
all_aux (b ∷ bs) cs o p = all_aux bs (b ∷ cs) o.1 (o.0, p)

all_turned : (t : Bool) (bs : List ℕ) → All bs → All (turned t bs)
all_turned true bs o = all_aux bs [] o tt
all_turned false bs o = o

first_of_low : (bs : List ℕ) → All bs → low_bytes (length bs) (low_first bs) ≡ bs
unfolding low_bytes
first_of_low [] o = refl
first_of_low (b ∷ bs) o =
    let v : ℕ = low_first bs in
    let h : b < 256 = o.0 in
    let m : (b + 256 * v) % 256 ≡ b = omega arith in
    let d : (b + 256 * v) / 256 ≡ v = omega arith in
    ap (λ (x : ℕ). x ∷ low_bytes (length bs) ((b + 256 * v) / 256)) m ∙ ap (λ (x : ℕ). b ∷ low_bytes (length bs) x) d ∙ ap (λ (l : List ℕ). b ∷ l) (first_of_low bs o.1)

first-lt : (bs : List ℕ) → All bs → low_first bs < 256 ^ length bs
first-lt [] o = lit< tt
first-lt (b ∷ bs) o =
    let h : b < 256 = o.0 in
    let r : low_first bs < 256 ^ length bs = first-lt bs o.1 in
    rw pow-suc (omega arith)

-- ---- a number that stands at a place

module _ (order : ℕ) (s : List ℕ) (at k v : ℕ) (more : List ℕ) (e : drop at s ≡ in_order order k v ++ more) where
  pub word_at : v < 256 ^ k → number_at k order s at ≡ v
  word_at h =
      ap (λ (l : List ℕ). low_first (turned (eqb order 0) (take k l))) e
      ∙ ap (λ (l : List ℕ). low_first (turned (eqb order 0) l)) (take_at (in_order order k v) more k (order_length order k v))
      ∙ ap low_first (turned_twice (eqb order 0) (low_bytes k v)) ∙ first_low k v h

  pub word_past : drop (at + k) s ≡ more
  word_past = sym (drop-drop k at s) ∙ ap (drop k) e ∙ drop_at (in_order order k v) more k (order_length order k v)

  pub word_room : 1 ≤ k → at + k ≤ length s
  word_room h = omega (arith, length-drop at s, ap length e, length-append (in_order order k v) more, order_length order k v)

-- ---- the bytes of a number that was read

module _ (order : ℕ) (s : List ℕ) (at k : ℕ) (o : Octets s) (h : at + k ≤ length s) where
  abbrev w : List ℕ
  w = take k (drop at s)

  abbrev t : List ℕ
  t = turned (eqb order 0) w

  all : All t
  all = all_turned (eqb order 0) w (all_take k (drop at s) (all_drop at s (all_of s o)))

  long : length t ≡ k
  long = turned_length (eqb order 0) w ∙ omega (arith, length-take k (drop at s), length-drop at s)

  pub word_lt : number_at k order s at < 256 ^ k
  word_lt = subst (λ (n : ℕ). low_first t < 256 ^ n) long (first-lt t all)

  pub word_of : (v : ℕ) → number_at k order s at ≡ v → drop at s ≡ in_order order k v ++ drop (at + k) s
  word_of v e =
      let bytes : low_bytes k v ≡ t = ap (low_bytes k) (sym e) ∙ ap (λ (n : ℕ). low_bytes n (low_first t)) (sym long) ∙ first_of_low t all in
      let same : in_order order k v ≡ w = ap (turned (eqb order 0)) bytes ∙ turned_twice (eqb order 0) w in
      sym (take-append-drop k (drop at s)) ∙ ap (λ (l : List ℕ). l ++ drop k (drop at s)) (sym same) ∙ ap (λ (l : List ℕ). in_order order k v ++ l) (drop-drop k at s)
