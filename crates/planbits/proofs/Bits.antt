-- Bits of a number and the number of some bits; the runs of bits and of bytes that the loops store, step by step.
-- The arguments go bit by bit: half a number has its bits one place lower. Assumes nothing.
use Prim.Native.Nat.{ℕ, zero, suc, ◌+◌, ◌-◌, ◌*◌, ◌/◌, ◌%◌, ◌^◌, ◌≤◌, ◌<◌}
use mathlib.Core.Path.{◌≡◌, refl, sym, ap, ap₂, ◌∙◌}
use mathlib.Core.List.{List, [], ◌∷◌, ◌++◌}
use mathlib.Core.Bool.{Bool, true, false}
use native.Mathlib.Nat.{pow-succ', two-pow-succ, add-zero, zero-add, mul_assoc}
use native.Mathlib.Numerals.{add-one}
use native.Mathlib.Omega.{arith}
use lib.ListN.{length, get_or, set, get_or-eq_default}
use lib.Seq.{sets}
use Rattle.laws.specs.Sum.{bit}
use Rattle.theory.specs.Greedy.{sends}
use Rattle.laws.proofs.Stores.{sets-append}
use Rattle.laws.proofs.Bits.{half-shift}
use Rattle.records.specs.Bits.{bit_of}
use Rattle.planbits.specs.Bits.{one, bits_from, ones, packed_from}

-- ---- the number of some bits

pub one-two : (x : ℕ) → one x < 2
unfolding one
one-two x = go (sends x)
  where
    go : (b : Bool) → bit b < 2
    go true = omega arith
    go false = omega arith

-- a bit is its own bit
pub one_bit : (x : ℕ) → x < 2 → one x ≡ x
unfolding one
one_bit zero h = refl
one_bit (suc zero) h = refl
one_bit (suc (suc x)) h = absurd (omega arith)

pub ones_lt : (t : List ℕ) (c k : ℕ) → ones t k c < 2 ^ c
unfolding ones
ones_lt t zero k = omega arith
ones_lt t (suc c) k = omega (arith, one-two (get_or t k 0), ones_lt t c (suc k), two-pow-succ c)

-- bit i of the number of the table bytes from k on is that of the byte k + i
pub ones_bit : (t : List ℕ) (c i k : ℕ) → i < c → ones t k c / 2 ^ i % 2 ≡ one (get_or t (k + i) 0)
unfolding ones
ones_bit t zero i k h = absurd (omega arith)
ones_bit t (suc c) zero k h =
    let e : ones t k (suc c) / 2 ^ 0 % 2 ≡ one (get_or t k 0) = omega (arith, one-two (get_or t k 0)) in
    rw (add-zero k) e
ones_bit t (suc c) (suc i) k h =
    let e : (one (get_or t k 0) + 2 * ones t (suc k) c) / 2 ≡ ones t (suc k) c = omega (arith, one-two (get_or t k 0)) in
    let f : k + suc i ≡ suc k + i = omega arith in
    rw (half-shift (one (get_or t k 0) + 2 * ones t (suc k) c) i, e, f) (ones_bit t c i (suc k) (omega arith))

-- the number of the bits of x is x, below 2 to the power c
pub bits-ones : (t : List ℕ) (c k x : ℕ) → x < 2 ^ c → ((i : ℕ) → i < c → one (get_or t (k + i) 0) ≡ x / 2 ^ i % 2) → ones t k c ≡ x
unfolding ones
bits-ones t zero k x h same = omega arith
bits-ones t (suc c) k x h same =
    let first : one (get_or t k 0) ≡ x % 2 = rw (add-zero k) at (same 0 (omega arith)) ∙ omega arith in
    let rest : ones t (suc k) c ≡ x / 2 =
    bits-ones t c (suc k) (x / 2) (omega (arith, two-pow-succ c))
    (λ i l.
    let f : suc k + i ≡ k + suc i = omega arith in
    rw (f, ← half-shift x i) (same (suc i) (omega arith))) in
    omega arith

-- four bytes
pub ones-four : (t : List ℕ) (k : ℕ) → ones t k 4 ≡ one (get_or t k 0) + 2 * one (get_or t (k + 1) 0) + 4 * one (get_or t (k + 2) 0) + 8 * one
    (get_or t (k + 3) 0)
unfolding ones
ones-four t k =
    let a : k + 1 ≡ suc k = omega arith in
    let b : k + 2 ≡ suc (suc k) = omega arith in
    let c : k + 3 ≡ suc (suc (suc k)) = omega arith in
    rw (a, b, c) (omega arith)

-- a bytes, and then b
pub ones-both : (t : List ℕ) (a b k : ℕ) → ones t k (a + b) ≡ ones t k a + 2 ^ a * ones t (k + a) b
unfolding ones
ones-both t zero b k = rw (zero-add b, add-zero k) (omega arith)
ones-both t (suc a) b k =
    let e : suc a + b ≡ suc (a + b) = omega arith in
    let f : k + suc a ≡ suc k + a = omega arith in
    let rest = ones t (suc k + a) b in
    let g : 2 ^ suc a * rest ≡ 2 * (2 ^ a * rest) = ap (λ (n : ℕ). n * rest) (pow-succ' 2 a) ∙ mul_assoc 2 (2 ^ a) rest in
    rw (e, f) (omega (arith, g, ones-both t a b (suc k)))

-- past the table's end the bits are 0
pub ones-past : (t : List ℕ) (c k : ℕ) → length t ≤ k → ones t k c ≡ 0
unfolding ones one
ones-past t zero k h = refl
ones-past t (suc c) k h =
    let e : get_or t k 0 ≡ 0 = get_or-eq_default t 0 h in
    rw (e, ones-past t c (suc k) (omega arith))

-- a turn of `last_of`'s loop
pub ones_step : (t : List ℕ) (k i : ℕ) → k < i → i ≤ k + 8 → ones t (i - 1) (k + 8 - (i - 1)) ≡ one (get_or t (i - 1) 0) + 2 * ones t i (k + 8 - i)
unfolding ones
ones_step t k i h l =
    let e : k + 8 - (i - 1) ≡ suc (k + 8 - i) = omega arith in
    let f : suc (i - 1) ≡ i = omega arith in
    rw (e, f)

-- ---- runs of bits

pub length-bits : (s : List ℕ) (n k : ℕ) → length (bits_from s k n) ≡ n
unfolding bits_from
length-bits s zero k = refl
length-bits s (suc n) k = ap suc (length-bits s n (suc k))

pub bits-split : (s : List ℕ) (a b k : ℕ) → bits_from s k (a + b) ≡ bits_from s k a ++ bits_from s (k + a) b
unfolding bits_from
bits-split s zero b k = rw (zero-add b, add-zero k)
bits-split s (suc a) b k =
    let e : suc a + b ≡ suc (a + b) = omega arith in
    let f : k + suc a ≡ suc k + a = omega arith in
    rw (e, f, ← bits-split s a b (suc k))

pub bits_at : (s : List ℕ) (n k i : ℕ) → i < n → get_or (bits_from s k n) i 0 ≡ bit_of s (k + i)
unfolding bits_from
bits_at s zero k i h = absurd (omega arith)
bits_at s (suc n) k zero h = rw (add-zero k)
bits_at s (suc n) k (suc i) h =
    let e : k + suc i ≡ suc k + i = omega arith in
    rw e (bits_at s n (suc k) i (omega arith))

-- bit i of byte j
pub bit_in-law : (s : List ℕ) (j i : ℕ) → i < 8 → bit_of s (8 * j + i) ≡ get_or s j 0 / 2 ^ i % 2
bit_in-law s j i h =
    let e : (8 * j + i) / 8 ≡ j = omega arith in
    let f : (8 * j + i) % 8 ≡ i = omega arith in
    rw (e, f)

-- the bits of byte j are those of the byte alone
byte-bits : (s : List ℕ) (j c i : ℕ) → i + c ≤ 8 → bits_from s (8 * j + i) c ≡ bits_from (get_or s j 0 ∷ []) i c
unfolding bits_from
byte-bits s j zero i h = refl
byte-bits s j (suc c) i h =
    let e : suc (8 * j + i) ≡ 8 * j + suc i = omega arith in
    let f : i / 8 ≡ 0 = omega arith in
    let g : i % 8 ≡ i = omega arith in
    rw (bit_in-law s j i (omega arith), e, byte-bits s j c (suc i) (omega arith), f, g)

-- a turn of `unpack_whole`'s loop, and its end
pub whole-step :
    (s t : List ℕ) (j m : ℕ) → j < m →
    sets (sets t (8 * j) (bits_from (get_or s j 0 ∷ []) 0 8)) (8 * (j + 1)) (bits_from s (8 * (j + 1)) (8 * (m - (j + 1))))
    ≡ sets t (8 * j) (bits_from s (8 * j) (8 * (m - j)))
whole-step s t j m h =
    let e : 8 * (m - j) ≡ 8 + 8 * (m - (j + 1)) = omega arith in
    let f : 8 * (j + 1) ≡ 8 * j + 8 = omega arith in
    let g : bits_from (get_or s j 0 ∷ []) 0 8 ≡ bits_from s (8 * j) 8 = sym (byte-bits s j 8 0 (omega arith)) ∙ rw (add-zero (8 * j)) in
    rw (
      e,
      f,
      g,
      bits-split s 8 (8 * (m - (j + 1))) (8 * j),
      sets-append t (8 * j) (bits_from s (8 * j) 8) (bits_from s (8 * j + 8) (8 * (m - (j + 1)))),
      length-bits s 8 (8 * j),
    )

pub whole-end : (s t : List ℕ) (j m : ℕ) → m ≤ j → sets t (8 * j) (bits_from s (8 * j) (8 * (m - j))) ≡ t
unfolding bits_from
whole-end s t j m h =
    let e : 8 * (m - j) ≡ 0 = omega arith in
    rw e

-- a turn of `unpack_rest`'s loop, and its end
pub rest-step :
    (s t : List ℕ) (k n : ℕ) → k < n →
    sets (set t k (bit_of s k)) (k + 1) (bits_from s (k + 1) (n - (k + 1))) ≡ sets t k (bits_from s k (n - k))
unfolding bits_from
rest-step s t k n h =
    let e : n - k ≡ suc (n - (k + 1)) = omega arith in
    rw (e, add-one k)

pub rest_end : (s t : List ℕ) (k n : ℕ) → n ≤ k → sets t k (bits_from s k (n - k)) ≡ t
unfolding bits_from
rest_end s t k n h =
    let e : n - k ≡ 0 = omega arith in
    rw e

-- the bits below a place, and those from it on
bits-join : (s t : List ℕ) (a m : ℕ) → a ≤ m → sets (sets t 0 (bits_from s 0 a)) a (bits_from s a (m - a)) ≡ sets t 0 (bits_from s 0 m)
bits-join s t a m h =
    let e : m ≡ a + (m - a) = omega arith in
    sym (ap (λ (k : ℕ). sets t 0 (bits_from s 0 k)) e
    ∙ ap (sets t 0) (bits-split s a (m - a) 0)
    ∙ sets-append t 0 (bits_from s 0 a) (bits_from s (0 + a) (m - a))
    ∙ ap (λ (k : ℕ). sets (sets t 0 (bits_from s 0 a)) k (bits_from s (0 + a) (m - a))) (ap (λ (k : ℕ). 0 + k) (length-bits s a 0) ∙ zero-add a)
    ∙ ap (λ (k : ℕ). sets (sets t 0 (bits_from s 0 a)) a (bits_from s k (m - a))) (zero-add a))

-- the blocks, the whole bytes after them, and the rest
pub bits-parts : (s t t₁ t₂ r : List ℕ) (n : ℕ)
    → t₁ ≡ sets t 0 (bits_from s 0 (256 * (n / 256)))
    → t₂ ≡ sets t₁ (8 * (32 * (n / 256))) (bits_from s (8 * (32 * (n / 256))) (8 * (n / 8 - 32 * (n / 256))))
    → r ≡ sets t₂ (8 * (n / 8)) (bits_from s (8 * (n / 8)) (n - 8 * (n / 8)))
    → r ≡ sets t 0 (bits_from s 0 n)
bits-parts s t t₁ t₂ r n h₁ h₂ h₃ =
    let a : 8 * (32 * (n / 256)) ≡ 256 * (n / 256) = omega arith in
    let d : 8 * (n / 8 - 32 * (n / 256)) ≡ 8 * (n / 8) - 256 * (n / 256) = omega arith in
    let e : t₂ ≡ sets t 0 (bits_from s 0 (8 * (n / 8))) =
    h₂ ∙ ap₂ (λ (k m : ℕ). sets t₁ k (bits_from s k m)) a d
    ∙ ap (λ (z : List ℕ). sets z (256 * (n / 256)) (bits_from s (256 * (n / 256)) (8 * (n / 8) - 256 * (n / 256)))) h₁
    ∙ bits-join s t (256 * (n / 256)) (8 * (n / 8)) (omega arith) in
    h₃ ∙ ap (λ (z : List ℕ). sets z (8 * (n / 8)) (bits_from s (8 * (n / 8)) (n - 8 * (n / 8)))) e ∙ bits-join s t (8 * (n / 8)) n (omega arith)

-- ---- runs of bytes

pub length-packed : (t : List ℕ) (m k : ℕ) → length (packed_from t k m) ≡ m
unfolding packed_from
length-packed t zero k = refl
length-packed t (suc m) k = ap suc (length-packed t m (k + 8))

pub packed-at : (t : List ℕ) (m k j : ℕ) → j < m → get_or (packed_from t k m) j 0 ≡ ones t (k + 8 * j) 8
unfolding packed_from
packed-at t zero k j h = absurd (omega arith)
packed-at t (suc m) k zero h = rw (add-zero k)
packed-at t (suc m) k (suc j) h =
    let e : k + 8 * suc j ≡ k + 8 + 8 * j = omega arith in
    rw e (packed-at t m (k + 8) j (omega arith))

-- one byte more at the end
pub packed-snoc : (t : List ℕ) (m k : ℕ) → packed_from t k (suc m) ≡ packed_from t k m ++ (ones t (k + 8 * m) 8 ∷ [])
unfolding packed_from
packed-snoc t zero k = rw (add-zero k)
packed-snoc t (suc m) k =
    let e : k + 8 * suc m ≡ k + 8 + 8 * m = omega arith in
    rw e (ap (λ (l : List ℕ). ones t k 8 ∷ l) (packed-snoc t m (k + 8)))

-- a turn of `put_rest`'s loop, and its end
pub put_step :
    (t out : List ℕ) (at j m : ℕ) → j < m →
    sets (set out (at + j) (ones t (8 * j) 8)) (at + (j + 1)) (packed_from t (8 * (j + 1)) (m - (j + 1))) ≡ sets out (at + j) (packed_from t (8 * j) (m - j))
unfolding packed_from
put_step t out at j m h =
    let e : m - j ≡ suc (m - (j + 1)) = omega arith in
    let f : at + (j + 1) ≡ suc (at + j) = omega arith in
    let g : 8 * (j + 1) ≡ 8 * j + 8 = omega arith in
    rw (e, f, g)

pub put-end : (t out : List ℕ) (at j m : ℕ) → m ≤ j → sets out (at + j) (packed_from t (8 * j) (m - j)) ≡ out
unfolding packed_from
put-end t out at j m h =
    let e : m - j ≡ 0 = omega arith in
    rw e

-- the whole bytes and the last one
pub put_last :
    (t out : List ℕ) (at m : ℕ) →
    set (sets out at (packed_from t 0 m)) (at + m) (ones t (8 * m) 8) ≡ sets out at (packed_from t 0 (suc m))
put_last t out at m =
    sym (ap (sets out at) (packed-snoc t m 0)
    ∙ sets-append out at (packed_from t 0 m) (ones t (0 + 8 * m) 8 ∷ [])
    ∙ ap (λ (k : ℕ). set (sets out at (packed_from t 0 m)) (at + k) (ones t (0 + 8 * m) 8)) (length-packed t m 0)
    ∙ ap (λ (k : ℕ). set (sets out at (packed_from t 0 m)) (at + m) (ones t k 8)) (zero-add (8 * m)))
