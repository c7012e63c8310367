-- A block's words from its columns: a word in two parts, again and again, is its bytes; and a byte of a word is a column. Assumes nothing.
use mathlib.Core.Path.{◌≡◌, sym, ap, ap₂, ◌∙◌}
use mathlib.Core.Bool.{Bool, true, false}
use mathlib.Core.List.{List}
use Prim.Native.Nat.{ℕ, zero, suc, ◌+◌, ◌-◌, ◌*◌, ◌/◌, ◌%◌, ◌^◌, ◌<◌}
use native.Mathlib.Nat.{mod-lt, add-zero, zero-add, add-suc, add_assoc, mul-zero, mul-add}
use native.Mathlib.Omega.{arith}
use lib.Dec.{lit<}
use lib.ListN.{get_or, replicate, length-replicate}
use lib.Seq.{sets}
use borrow.Author.Tests.{lt-ltb, le-ltb}
use Rattle.laws.specs.Bits.{bit_at, word_of}
use Rattle.laws.specs.Choice.{pick}
use Rattle.laws.specs.Part.{list_of}
use Rattle.laws.specs.Sum.{bit, sum}
use Rattle.laws.proofs.Bits.{digit, shr-bit}
use Rattle.laws.proofs.Stores.{sets-at}
use Rattle.laws.proofs.Words.{word-zero, word-suc, word-eq, weight-add}
use Rattle.theory.specs.Greedy.{sends}
use Rattle.blocks.specs.Order.{low_order, high_order, bit_of_two, column_at, word_from_bytes}

-- ---- a column

pub column-is : (l : List ℕ) (at : ℕ)
    → pick (sends (get_or l at 0)) 1 0 + pick (sends (get_or l (at + 16) 0)) 2 0 + pick (sends (get_or l (at + 32) 0)) 4 0 + pick
    (sends (get_or l (at + 48) 0)) 8 0
    + pick (sends (get_or l (at + 64) 0)) 16 0 + pick (sends (get_or l (at + 80) 0)) 32 0 + pick (sends (get_or l (at + 96) 0)) 64 0
    + pick (sends (get_or l (at + 112) 0)) 128 0 ≡ column_at l at
unfolding word_of sum
column-is l at = rw (add-zero at) (omega arith)

-- ---- a word in parts

-- the word of c numbers from a on
abbrev run : (ℕ → Bool) → ℕ → ℕ → ℕ
run p a c = word_of (λ k. p (a + k)) c

run-both : (p : ℕ → Bool) (a c d : ℕ) → run p a (c + d) ≡ run p a c + 2 ^ c * run p (a + c) d
run-both p a c zero =
    ap (run p a) (add-zero c)
    ∙ sym (add-zero (run p a c))
    ∙ sym (ap (λ (x : ℕ). run p a c + x) (ap (λ (x : ℕ). 2 ^ c * x) (word-zero (λ k. p (a + c + k))) ∙ mul-zero (2 ^ c)))
run-both p a c (suc d) =
    ap (run p a) (add-suc c d)
    ∙ word-suc (λ k. p (a + k)) (c + d)
    ∙ ap₂ (λ (x y : ℕ). x + y) (run-both p a c d) (weight-add (p (a + (c + d))) c d ∙ ap (λ (k : ℕ). 2 ^ c * pick (p k) (2 ^ d) 0) (sym (add_assoc a c d)))
    ∙ add_assoc (run p a c) (2 ^ c * run p (a + c) d) (2 ^ c * pick (p (a + c + d)) (2 ^ d) 0)
    ∙ ap (λ (x : ℕ). run p a c + x) (sym (mul-add (2 ^ c) (run p (a + c) d) (pick (p (a + c + d)) (2 ^ d) 0))
    ∙ ap (λ (x : ℕ). 2 ^ c * x) (sym (word-suc (λ k. p (a + c + k)) d)))

-- eight bytes that are eight parts of a word, one after the other
pub bytes_word : (p : ℕ → Bool) (l : List ℕ) (k : ℕ) → ((j : ℕ) → j < 8 → get_or l (k + j) 0 ≡ word_of (λ b. p (8 * j + b)) 8) → word_from_bytes l k
    ≡ word_of p 64
bytes_word p l k at =
    whole (rw (add-zero k) at (at 0 (omega arith))) (at 1 (omega arith)) (at 2 (omega arith)) (at 3 (omega arith))
    (at 4 (omega arith)) (at 5 (omega arith)) (at 6 (omega arith)) (at 7 (omega arith))
    (run-both p 0 8 8) (run-both p 16 8 8) (run-both p 32 8 8) (run-both p 48 8 8)
    (run-both p 0 16 16) (run-both p 32 16 16) (run-both p 0 32 32)
    ∙ word-eq (λ b. p (0 + b)) p 64 (λ b h. ap p (zero-add b))
  where
    whole : {b₀ b₁ b₂ b₃ b₄ b₅ b₆ b₇ r₀ r₁ r₂ r₃ r₄ r₅ r₆ r₇ s₀ s₁ s₂ s₃ t₀ t₁ x : ℕ}
        → b₀ ≡ r₀ → b₁ ≡ r₁ → b₂ ≡ r₂ → b₃ ≡ r₃ → b₄ ≡ r₄ → b₅ ≡ r₅ → b₆ ≡ r₆ → b₇ ≡ r₇
        → s₀ ≡ r₀ + 256 * r₁ → s₁ ≡ r₂ + 256 * r₃ → s₂ ≡ r₄ + 256 * r₅ → s₃ ≡ r₆ + 256 * r₇
        → t₀ ≡ s₀ + 65536 * s₁ → t₁ ≡ s₂ + 65536 * s₃ → x ≡ t₀ + 4294967296 * t₁
        → b₀ + 256 * b₁ + 65536 * (b₂ + 256 * b₃) + 4294967296 * (b₄ + 256 * b₅ + 65536 * (b₆ + 256 * b₇)) ≡ x
    whole e₀ e₁ e₂ e₃ e₄ e₅ e₆ e₇ d₀ d₁ d₂ d₃ f₀ f₁ g = omega arith

-- ---- the words of a block, where its columns are stored

module _ (test : ℕ → Bool) (w : List ℕ) (stored : (b : ℕ) → b < 16 → get_or w b 0 ≡ word_of (λ k. test (b + 16 * k)) 8) where
  pub low_word : word_from_bytes w 0 ≡ word_of (low_order test) 64
  low_word = bytes_word (low_order test) w 0 (λ j h.
      ap (λ (b : ℕ). get_or w b 0) (zero-add j) ∙ stored j (omega arith)
      ∙ word-eq (λ k. test (j + 16 * k)) (λ b. low_order test (8 * j + b)) 8 (λ b g.
      let e : j + 16 * b ≡ 16 * ((8 * j + b) % 8) + (8 * j + b) / 8 = omega arith in
      ap test e))

  pub high_word : word_from_bytes w 8 ≡ word_of (high_order test) 64
  high_word = bytes_word (high_order test) w 8 (λ j h.
      stored (8 + j) (omega arith)
      ∙ word-eq (λ k. test (8 + j + 16 * k)) (λ b. high_order test (8 * j + b)) 8 (λ b g.
      let e : 8 + j + 16 * b ≡ 16 * ((8 * j + b) % 8) + (8 * j + b) / 8 + 8 = omega arith in
      ap test e))

-- w is what is left of 16 zeros
module _ (w : List ℕ) (column : ℕ → ℕ) (columns : w ≡ sets (replicate 16 0) 0 (list_of column 16)) where
  pub column-stored : (b : ℕ) → b < 16 → get_or w b 0 ≡ column b
  column-stored b h =
      ap (λ (v : List ℕ). get_or v b 0) columns ∙ sets-at column 16 (replicate 16 0) b h (omega (arith, length-replicate {A = ℕ} 16 0))

-- a column of bytes, counted from the block's start
pub column-from : (l : List ℕ) (from b : ℕ) → column_at l (from + b) ≡ word_of (λ k. sends (get_or l (from + (b + 16 * k)) 0)) 8
column-from l from b =
    word-eq (λ k. sends (get_or l (from + b + 16 * k) 0)) (λ k. sends (get_or l (from + (b + 16 * k)) 0)) 8
    (λ k _. ap (λ (i : ℕ). sends (get_or l i 0)) (add_assoc from b (16 * k)))

-- ---- a column of bits

weigh : (t : Bool) (w : ℕ) → pick t w 0 ≡ w * bit t
weigh true w = omega arith
weigh false w = omega arith

-- four bits of a word, each 16 after the one before it
pub four_is : (x at : ℕ)
    → x / 2 ^ at % 2 + 2 * (x / 2 ^ at / 2 ^ 16 % 2) + 4 * (x / 2 ^ at / 2 ^ 32 % 2) + 8 * (x / 2 ^ at / 2 ^ 48 % 2) ≡ word_of (λ k. bit_at x (at + 16 * k)) 4
unfolding word_of sum
four_is x at =
    omega (
      arith,
      weigh (bit_at x (at + 0)) 1,
      weigh (bit_at x (at + 16)) 2,
      weigh (bit_at x (at + 32)) 4,
      weigh (bit_at x (at + 48)) 8,
      digit (x / 2 ^ at % 2) (mod-lt _ (lit< tt)),
      ap (λ (k : ℕ). bit (bit_at x k)) (add-zero at),
      later 16,
      later 32,
      later 48,
    )
  where
    later : (m : ℕ) → x / 2 ^ at / 2 ^ m % 2 ≡ bit (bit_at x (at + m))
    later m = shr-bit x at m ∙ digit (x / 2 ^ (at + m) % 2) (mod-lt _ (lit< tt))

-- a column of two words is four bits of each
pub bit-column : (x y b v w : ℕ) → b < 16 → v ≡ word_of (λ k. bit_at x (b + 16 * k)) 4 → w ≡ word_of (λ k. bit_at y (b + 16 * k)) 4
    → v + 16 * w ≡ word_of (λ k. bit_of_two x y (b + 16 * k)) 8
bit-column x y b v w h e g =
    let p : ℕ → Bool = λ k. bit_of_two x y (b + 16 * k) in
    let all : word_of p 8 ≡ run p 0 8 = word-eq p (λ k. p (0 + k)) 8 (λ k _. ap p (sym (zero-add k))) in
    let low : run p 0 4 ≡ v = word-eq (λ k. p (0 + k)) (λ k. bit_at x (b + 16 * k)) 4 (λ k l.
    ap p (zero-add k) ∙ ap (λ t. pick t (bit_at x (b + 16 * k)) (bit_at y (b + 16 * k - 64))) (lt-ltb (b + 16 * k) 64 (omega arith))) ∙ sym e in
    let high : run p (0 + 4) 4 ≡ w = word-eq (λ k. p (0 + 4 + k)) (λ k. bit_at y (b + 16 * k)) 4 (λ k l.
    let d : b + 16 * (0 + 4 + k) - 64 ≡ b + 16 * k = omega arith in
    ap (λ t. pick t (bit_at x (b + 16 * (0 + 4 + k))) (bit_at y (b + 16 * (0 + 4 + k) - 64))) (le-ltb (b + 16 * (0 + 4 + k)) 64 (omega arith))
    ∙ ap (bit_at y) d) ∙ sym g in
    omega (arith, all, low, high, run-both p 0 4 4)
