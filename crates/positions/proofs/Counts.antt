-- The bits of a word counted, and the positions of a set, a word at a time. Assumes nothing.
use mathlib.Core.Path.{◌≡◌, refl, sym, ap, ap₂, ◌∙◌}
use mathlib.Core.Bool.{Bool, true, false, not}
use mathlib.Core.List.{List}
use Prim.Native.Nat.{ℕ, zero, suc, ◌+◌, ◌*◌, ◌/◌, ◌%◌, ◌^◌, ◌≤◌, ◌<◌}
use native.Mathlib.Omega.{arith}
use native.Mathlib.Nat.{div-one, mod-lt}
use native.Mathlib.Numerals.{add-one}
use lib.Count.{ones, ones_in, ones_step}
use lib.Dec.{lit<}
use lib.ListN.{get_or}
use lib.Pow.{shr-shr, shr_lt, pow_pos}
use Rattle.laws.specs.Bits.{bit_at}
use Rattle.laws.specs.Sum.{bit, sum, count}
use Rattle.laws.proofs.Bits.{digit}
use Rattle.laws.proofs.Sums.{sum-eq, sum-add, sum-split, sum-front, count-all}
use Rattle.laws.proofs.Words.{word-bit, word_mod}
use Rattle.positions.specs.Blocked.{blocked_at, open_in}

-- the digits of x above the lowest k, of n more
ones_from : (n x k : ℕ) → x / 2 ^ k < 2 ^ n → ones (x / 2 ^ k) ≡ sum (λ b. bit (bit_at x (k + b))) n
unfolding sum ones ones_in
ones_from zero x k h = let z : x / 2 ^ k ≡ 0 = omega arith in ap ones z
ones_from (suc n) x k h =
    let half : x / 2 ^ k / 2 ≡ x / 2 ^ (k + 1) = shr-shr x k 1 in
    let e : k + 0 ≡ k = omega arith in
    let low : x / 2 ^ (k + 1) < 2 ^ n = rw half at (half_lt n h) in
    ones_step (x / 2 ^ k)
    ∙ ap₂ (λ (u v : ℕ). u + v)
    (digit (x / 2 ^ k % 2) (mod-lt _ (lit< tt)) ∙ ap (λ (m : ℕ). bit (bit_at x m)) (sym e))
    (ap ones half ∙ ones_from n x (k + 1) low ∙ sum-eq (λ b. bit (bit_at x (k + 1 + b))) (λ b. bit (bit_at x (k + suc b))) n
    (λ b l. let q : k + 1 + b ≡ k + suc b = omega arith in ap (λ (m : ℕ). bit (bit_at x m)) q))
    ∙ sym (sum-front (λ b. bit (bit_at x (k + b))) n)
  where
    half_lt : {y : ℕ} (n : ℕ) → y < 2 ^ suc n → y / 2 < 2 ^ n
    half_lt {y} n h = shr_lt n 1 (rw (add-one n) h)

-- the kit's count of digits is the count of bits
pub ones-count : (n x : ℕ) → x < 2 ^ n → ones x ≡ count (bit_at x) n
ones-count n x h =
    ap ones (sym (div-one x)) ∙ ones_from n x 0 (rw (div-one x) h)
    ∙ sum-eq (λ b. bit (bit_at x (0 + b))) (λ b. bit (bit_at x b)) n (λ b l. let q : 0 + b ≡ b = omega arith in ap (λ (m : ℕ). bit (bit_at x m)) q)

-- those below m are the digits of the remainder
pub ones_low : (m x : ℕ) → ones (x % 2 ^ m) ≡ count (bit_at x) m
ones_low m x =
    ones-count m (x % 2 ^ m) (mod-lt x (pow_pos m))
    ∙ sum-eq (λ b. bit (bit_at (x % 2 ^ m) b)) (λ b. bit (bit_at x b)) m
    (λ b l. ap (λ (y : ℕ). bit (bit_at y b)) (word_mod x m) ∙ ap bit (word-bit (bit_at x) m b l))

-- position b of word j
pub blocked-at : (set : List ℕ) (j b : ℕ) → b < 64 → blocked_at set (64 * j + b) ≡ bit_at (get_or set j 0) b
blocked-at set j b h =
    let d : (64 * j + b) / 64 ≡ j = omega arith in
    let m : (64 * j + b) % 64 ≡ b = omega arith in
    ap₂ (λ (q r : ℕ). bit_at (get_or set q 0) r) d m

-- the count up to position b of word j
pub count_at : (set : List ℕ) (j b : ℕ) → b ≤ 64 → count (blocked_at set) (64 * j + b) ≡ count (blocked_at set) (64 * j) + count (bit_at (get_or set j 0)) b
count_at set j b h =
    sum-split (λ k. bit (blocked_at set k)) (64 * j) b
    ∙ ap (λ (n : ℕ). count (blocked_at set) (64 * j) + n)
    (sum-eq (λ q. bit (blocked_at set (64 * j + q))) (λ q. bit (bit_at (get_or set j 0) q)) b (λ q l. ap bit (blocked-at set j q (omega arith))))

-- one word more
pub count_word : (set : List ℕ) (j : ℕ) → count (blocked_at set) (64 * (j + 1)) ≡ count (blocked_at set) (64 * j) + count (bit_at (get_or set j 0)) 64
count_word set j = let e : 64 * (j + 1) ≡ 64 * j + 64 = omega arith in ap (count (blocked_at set)) e ∙ count_at set j 64 (omega arith)

one_of_holds : (t : Bool) → bit t + bit (not t) ≡ bit true
one_of_holds true = refl
one_of_holds false = refl

-- each position is in the set or open
pub count-open : (set : List ℕ) (n : ℕ) → count (blocked_at set) n + open_in set n ≡ n
count-open set n =
    sym (sum-add (λ k. bit (blocked_at set k)) (λ k. bit (not (blocked_at set k))) n)
    ∙ sum-eq (λ k. bit (blocked_at set k) + bit (not (blocked_at set k))) (λ k. bit true) n (λ k l. one_of_holds (blocked_at set k))
    ∙ count-all n
