-- The words that the operations of the processor leave, bit by bit. Assumes nothing.
use mathlib.Core.Path.{◌≡◌, sym, ap, ◌∙◌}
use mathlib.Core.Bool.{◌&&◌, ◌||◌, not}
use Prim.Native.Nat.{ℕ, ◌-◌, ◌^◌, ◌≤◌, ◌<◌}
use native.Mathlib.Omega.{arith}
use lib.Bits.{bit_and, bit_or, bit_xor, and_le_l, or_lt}
use lib.Dec.{ltb}
use lib.Pow.{pow_pos, pow_mono}
use borrow.Author.Tests.{lt-ltb}
use Rattle.laws.specs.Bits.{bit_at, word_of}
use Rattle.laws.specs.Choice.{pick}
use Rattle.laws.specs.Sum.{bit, count}
use Rattle.laws.proofs.Bits.{bit-and, bit-either}
use Rattle.laws.proofs.Lowest.{bit_not, bit-all}
use Rattle.laws.proofs.Sums.{sum-eq}
use Rattle.laws.proofs.Words.{bits-eq, word-eq}
use Rattle.blockwords.proofs.Trades.{bit-unlike}

module _ (x y : ℕ) (fits : x < 2 ^ 64) (fits' : y < 2 ^ 64) where
  pub word-shared : bit_and x y ≡ word_of (λ b. bit_at x b && bit_at y b) 64
  word-shared = bits-eq (λ b. bit_at x b && bit_at y b) (bit_and x y) 64 (omega (arith, and_le_l x y)) (λ b l. bit-and x y b)

  pub word-either : bit_or x y ≡ word_of (λ b. bit_at x b || bit_at y b) 64
  word-either = bits-eq (λ b. bit_at x b || bit_at y b) (bit_or x y) 64 (or_lt 64 x y fits fits') (λ b l. bit-either x y b)

  pub word-apart : bit_and x (2 ^ 64 - 1 - y) ≡ word_of (λ b. bit_at x b && not (bit_at y b)) 64
  word-apart =
      bits-eq (λ b. bit_at x b && not (bit_at y b)) (bit_and x (2 ^ 64 - 1 - y)) 64 (omega (arith, and_le_l x (2 ^ 64 - 1 - y)))
      (λ b l. bit-and x (2 ^ 64 - 1 - y) b ∙ ap (λ t. bit_at x b && t) (bit_not 64 y b fits' l))

-- the bits that two words do not share, counted
pub count-unlike : (x y : ℕ) → count (bit_at (bit_xor x y)) 64 ≡ count (λ b. pick (bit_at y b) (not (bit_at x b)) (bit_at x b)) 64
count-unlike x y = sum-eq (λ b. bit (bit_at (bit_xor x y) b)) (λ b. bit (pick (bit_at y b) (not (bit_at x b)) (bit_at x b))) 64
    (λ b l. ap bit (bit-unlike x y b))

-- the first positions
pub low-some : (m : ℕ) → m ≤ 64 → 2 ^ m - 1 ≡ word_of (λ b. ltb b m) 64
low-some m h = bits-eq (λ b. ltb b m) (2 ^ m - 1) 64 (omega (arith, pow_pos m, pow_mono {i = m} {j = 64} h)) (λ b l. bit-all m b)

pub low-all : (m : ℕ) → 64 ≤ m → 2 ^ 64 - 1 ≡ word_of (λ b. ltb b m) 64
low-all m h = low-some 64 (omega arith) ∙ word-eq (λ b. ltb b 64) (λ b. ltb b m) 64 (λ b l. lt-ltb b 64 l ∙ sym (lt-ltb b m (omega arith)))
