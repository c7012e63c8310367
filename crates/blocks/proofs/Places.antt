-- Which bit of a block a position is: the words of a block have each of its positions, and blocks are joined and held against one another bit by bit.
-- Assumes nothing.
use mathlib.Core.Path.{◌≡◌, refl, sym, ap, ap₂, ◌∙◌}
use mathlib.Core.Bool.{Bool, true, false, ◌&&◌, ◌||◌, not, true≢false}
use mathlib.Core.Logic.{⊎_elim}
use Prim.Native.Nat.{ℕ, ◌+◌, ◌-◌, ◌*◌, ◌/◌, ◌%◌, ◌^◌, ◌≤◌, ◌<◌}
use native.Mathlib.Omega.{arith}
use lib.Bits.{bit_and, bit_or}
use lib.Dec.{ltb, eqb}
use borrow.Author.Tests.{lt-ltb, le-ltb, ltb-true, ltb-false, eqb-true, not-false}
use Rattle.laws.specs.Bits.{bit_at, word_of}
use Rattle.laws.specs.Choice.{pick}
use Rattle.laws.specs.Search.{first}
use Rattle.laws.proofs.Bits.{bit-and, bit-either, none_in, or-none}
use Rattle.laws.proofs.Choice.{cases}
use Rattle.laws.proofs.Search.{first-none}
use Rattle.laws.proofs.Words.{word-bit, bits-eq}
use Rattle.blocks.specs.Order.{low_order, high_order, placed, meeting}

module _ (test : ℕ → Bool) (k : ℕ) (inside : k < 128) where
  -- position k of a block, by its column
  pub low-place : k % 16 < 8 → bit_at (word_of (low_order test) 64) (8 * (k % 16) + k / 16) ≡ test k
  low-place h =
      let e : 16 * ((8 * (k % 16) + k / 16) % 8) + (8 * (k % 16) + k / 16) / 8 ≡ k = omega arith in
      word-bit (low_order test) 64 (8 * (k % 16) + k / 16) (omega arith) ∙ ap test e

  pub high-place : 8 ≤ k % 16 → bit_at (word_of (high_order test) 64) (8 * (k % 16 - 8) + k / 16) ≡ test k
  high-place h =
      let e : 16 * ((8 * (k % 16 - 8) + k / 16) % 8) + (8 * (k % 16 - 8) + k / 16) / 8 + 8 ≡ k = omega arith in
      word-bit (high_order test) 64 (8 * (k % 16 - 8) + k / 16) (omega arith) ∙ ap test e

-- a block has the positions that pass its test
pub placed-is : (test : ℕ → Bool) (k : ℕ) → k < 128 → placed (word_of (low_order test) 64) (word_of (high_order test) 64) k ≡ test k
placed-is test k h =
    ⊎_elim
    (λ (c : ltb (k % 16) 8 ≡ true). which c ∙ low-place test k h (ltb-true (k % 16) 8 c))
    (λ (c : ltb (k % 16) 8 ≡ false). which c ∙ high-place test k h (ltb-false (k % 16) 8 c))
    (cases (ltb (k % 16) 8))
  where
    which : {b : Bool} → ltb (k % 16) 8 ≡ b → placed (word_of (low_order test) 64) (word_of (high_order test) 64) k
        ≡ pick b (bit_at (word_of (low_order test) 64) (8 * (k % 16) + k / 16)) (bit_at (word_of (high_order test) 64) (8 * (k % 16 - 8) + k / 16))
    which {b} c =
        ap (λ t. pick t (bit_at (word_of (low_order test) 64) (8 * (k % 16) + k / 16)) (bit_at (word_of (high_order test) 64) (8 * (k % 16 - 8) + k / 16))) c

pub placed-none : (k : ℕ) → placed 0 0 k ≡ false
placed-none k = go (ltb (k % 16) 8)
  where
    go : (t : Bool) → pick t (bit_at 0 (8 * (k % 16) + k / 16)) (bit_at 0 (8 * (k % 16 - 8) + k / 16)) ≡ false
    go true = none_in (8 * (k % 16) + k / 16)
    go false = none_in (8 * (k % 16 - 8) + k / 16)

module _ (low high x y k : ℕ) where
  -- two blocks joined, and what they share
  pub placed-either : placed (bit_or low x) (bit_or high y) k ≡ (placed low high k || placed x y k)
  placed-either = go (ltb (k % 16) 8)
    where
      go : (t : Bool) → pick t (bit_at (bit_or low x) (8 * (k % 16) + k / 16)) (bit_at (bit_or high y) (8 * (k % 16 - 8) + k / 16))
          ≡ (pick t (bit_at low (8 * (k % 16) + k / 16)) (bit_at high (8 * (k % 16 - 8) + k / 16))
          || pick t (bit_at x (8 * (k % 16) + k / 16)) (bit_at y (8 * (k % 16 - 8) + k / 16)))
      go true = bit-either low x (8 * (k % 16) + k / 16)
      go false = bit-either high y (8 * (k % 16 - 8) + k / 16)

  pub placed-both : placed (bit_and low x) (bit_and high y) k ≡ (placed low high k && placed x y k)
  placed-both = go (ltb (k % 16) 8)
    where
      go : (t : Bool) → pick t (bit_at (bit_and low x) (8 * (k % 16) + k / 16)) (bit_at (bit_and high y) (8 * (k % 16 - 8) + k / 16))
          ≡ (pick t (bit_at low (8 * (k % 16) + k / 16)) (bit_at high (8 * (k % 16 - 8) + k / 16))
          && pick t (bit_at x (8 * (k % 16) + k / 16)) (bit_at y (8 * (k % 16 - 8) + k / 16)))
      go true = bit-and low x (8 * (k % 16) + k / 16)
      go false = bit-and high y (8 * (k % 16 - 8) + k / 16)

  -- blocks that do not meet share no position
  pub meet-not : meeting low high x y ≡ false → (placed low high k && placed x y k) ≡ false
  unfolding meeting
  meet-not e =
      let n = neither (not (eqb (bit_and low x) 0)) (not (eqb (bit_and high y) 0)) e in
      sym placed-both
      ∙ ap₂ (λ (a b : ℕ). placed a b k) (empty (bit_and low x) n.0) (empty (bit_and high y) n.1)
      ∙ placed-none k
    where
      neither : (a b : Bool) → (a || b) ≡ false → (a ≡ false) × (b ≡ false)
      neither false b h = (refl, h)
      neither true b h = absurd (true≢false h)

      empty : (z : ℕ) → not (eqb z 0) ≡ false → z ≡ 0
      empty z h = eqb-true z 0 (not-false (eqb z 0) h)

-- a block with no bit has no position
pub none-placed : (low high : ℕ) → bit_or low high ≡ 0 → 128 ≡ first (placed low high) 0 128
none-placed low high e =
    let z = or-none low high e in
    sym (first-none (placed low high) 0 128 (omega arith) (λ k _ _. ap₂ (λ (x y : ℕ). placed x y k) z.0 z.1 ∙ placed-none k))

-- the words of a block, by the positions that it has
pub placed-words : (test : ℕ → Bool) (low high : ℕ) → low < 2 ^ 64 → high < 2 ^ 64 → ((k : ℕ) → k < 128 → placed low high k ≡ test k)
    → (low ≡ word_of (low_order test) 64) × (high ≡ word_of (high_order test) 64)
placed-words test low high h g is = (bits-eq (low_order test) low 64 h lows, bits-eq (high_order test) high 64 g highs)
  where
    lows : (q : ℕ) → q < 64 → bit_at low q ≡ low_order test q
    lows q l =
        let k : ℕ = 16 * (q % 8) + q / 8 in
        let e : 8 * ((16 * (q % 8) + q / 8) % 16) + (16 * (q % 8) + q / 8) / 16 ≡ q = omega arith in
        sym (ap (λ t. pick t (bit_at low (8 * (k % 16) + k / 16)) (bit_at high (8 * (k % 16 - 8) + k / 16))) (lt-ltb (k % 16) 8 (omega arith))
        ∙ ap (bit_at low) e)
        ∙ is k (omega arith)

    highs : (q : ℕ) → q < 64 → bit_at high q ≡ high_order test q
    highs q l =
        let k : ℕ = 16 * (q % 8) + q / 8 + 8 in
        let d : (16 * (q % 8) + q / 8 + 8) % 16 ≡ q / 8 + 8 = omega arith in
        let f : (16 * (q % 8) + q / 8 + 8) / 16 ≡ q % 8 = omega arith in
        let e : 8 * ((16 * (q % 8) + q / 8 + 8) % 16 - 8) + (16 * (q % 8) + q / 8 + 8) / 16 ≡ q = rw (d, f) (omega arith) in
        sym (ap (λ t. pick t (bit_at low (8 * (k % 16) + k / 16)) (bit_at high (8 * (k % 16 - 8) + k / 16))) (le-ltb (k % 16) 8 (omega (arith, d)))
        ∙ ap (bit_at high) e)
        ∙ is k (omega arith)
