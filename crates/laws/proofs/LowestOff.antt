-- The lowest number of a word, found by counting zeros, and the word without it, `x & (x - 1)`: below the lowest bit x has zeros and x - 1 has ones,
-- and above it they are the same. Assumes nothing.
use Prim.Native.Nat.{ℕ, zero, suc, ◌+◌, ◌-◌, ◌*◌, ◌/◌, ◌%◌, ◌^◌, ◌≤◌, ◌<◌, zero-le}
use mathlib.Core.Bool.{Bool, true, false, ◌&&◌, true≢false}
use mathlib.Core.Logic.{⊎_elim}
use mathlib.Core.Path.{◌≡◌, refl, sym, ap, ap₂, ◌∙◌}
use native.Mathlib.Nat.{eq-or-lt_of_le, add-zero, div-one, suc-mul}
use native.Mathlib.Numerals.{add-one}
use native.Mathlib.Omega.{arith}
use borrow.Author.Tests.{lt-leb, le-leb, ltb-true, ltb-false, eqb-true}
use lib.Bits.{bit_and, and_step, and_self, and_zero_l, and_block}
use lib.Count.{count_trailing_zeros}
use lib.Dec.{ltb, leb}
use lib.Pow.{pow_pos, split, ones_lt}
use Rattle.laws.specs.Search.{first, first_of}
use Rattle.laws.specs.Bits.{bit_at, word_of}
use Rattle.laws.proofs.Choice.{cases}
use Rattle.laws.proofs.Lowest.{zeros-first}
use Rattle.laws.proofs.Search.{first-most, first_passes, first-before}
use Rattle.laws.proofs.Words.{word-suc, word-bit, word-past, word_mod, none-word}

-- i is the lowest of the numbers below n that pass
pub record Lowest (p : ℕ → Bool) (n i : ℕ) : Type 0 where
  pub inside : i < n
  pub passes : p i ≡ true
  pub below : (j : ℕ) → j < i → p j ≡ false

module _ (p : ℕ → Bool) (n d : ℕ) (fits : n ≤ d) (some : word_of p n ≡ 0 → ⊥) where
  abbrev at : ℕ
  at = first (bit_at (word_of p n)) 0 d

  counted : count_trailing_zeros d (word_of p n) ≡ at
  counted =
      let e : d ≡ d - 0 = omega arith in
      omega (
        arith,
        ap (count_trailing_zeros d) (sym (div-one (word_of p n))),
        zeros-first (word_of p n) d 0,
        ap
            (λ (m : ℕ). first_of (bit_at (word_of p n)) m 0) e,
      )

  before : (j : ℕ) → j < at → bit_at (word_of p n) j ≡ false
  before j l = first-before (bit_at (word_of p n)) 0 d j zero-le l

  low : at < d
  low =
      ⊎_elim
      (λ e. absurd (some (none-word p n (λ j l. sym (word-bit p n j l) ∙ before j (omega arith)))))
      (λ l. l)
      (eq-or-lt_of_le (first-most (bit_at (word_of p n)) 0 d zero-le))

  hit : bit_at (word_of p n) at ≡ true
  hit = first_passes (bit_at (word_of p n)) 0 d zero-le low

  within : at < n
  within = ⊎_elim (λ e. ltb-true at n e) (λ e. absurd (true≢false (sym hit ∙ word-past p n at (ltb-false at n e)))) (cases (ltb at n))

  -- the zeros of a word count up to its lowest number
  pub zeros-lowest : Lowest p n (count_trailing_zeros d (word_of p n))
  zeros-lowest =
      rw counted
      (record { inside = within; passes = sym (word-bit p n at within) ∙ hit; below = λ j l. sym (word-bit p n j (omega (arith, within))) ∙ before j l })

module _ (p : ℕ → Bool) (i : ℕ) (passes : p i ≡ true) (below : (j : ℕ) → j < i → p j ≡ false) where
  -- a word is its numbers above i, and i
  apart : (d : ℕ) → word_of p (suc (i + d)) ≡ word_of (λ j. leb (i + 1) j && p j) (suc (i + d)) + 2 ^ i
  apart zero =
      let e : i + 0 ≡ i = omega arith in
      rw (
        e,
        word-suc p i,
        none-word p i below,
        passes,
        none-word (λ j. leb (i + 1) j && p j) (suc i) (λ j l. ap (λ b. b && p j) (lt-leb (i + 1) j (omega arith))),
      ) refl
  apart (suc d) =
      let e : i + suc d ≡ suc (i + d) = omega arith in
      rw (e, word-suc p (suc (i + d)), word-suc (λ j. leb (i + 1) j && p j) (suc (i + d)), le-leb (i + 1) (suc (i + d)) (omega arith))
      (omega (arith, apart d))

-- an odd number and the one before it
odd-off : (y : ℕ) → y % 2 ≡ 1 → bit_and y (y - 1) ≡ y - 1
odd-off y e =
    let h : (y - 1) / 2 ≡ y / 2 = omega arith in
    let z : (y - 1) % 2 ≡ 0 = omega arith in
    and_step y (y - 1) ∙ rw (h, z, and_self (y / 2)) (omega arith)

-- a number with nothing below its bit i, and the one before it
number-off : (x i : ℕ) → x % 2 ^ i ≡ 0 → x / 2 ^ i % 2 ≡ 1 → bit_and x (x - 1) + 2 ^ i ≡ x
number-off x i low bit =
    let y : ℕ = x / 2 ^ i in
    let whole : (x / 2 ^ i) * 2 ^ i + 0 ≡ x = ap (λ (r : ℕ). (x / 2 ^ i) * 2 ^ i + r) (sym low) ∙ split x i in
    let some : x / 2 ^ i ≡ (x / 2 ^ i - 1) + 1 = omega arith in
    let again : (x / 2 ^ i) * 2 ^ i ≡ (x / 2 ^ i - 1) * 2 ^ i + 2 ^ i = ap (λ (m : ℕ). m * 2 ^ i) some ∙ suc-mul-one (x / 2 ^ i - 1) (2 ^ i) in
    let less : (x / 2 ^ i - 1) * 2 ^ i + (2 ^ i - 1) ≡ x - 1 = omega (arith, whole, again, pow_pos i) in
    let off : bit_and x (x - 1) ≡ (x / 2 ^ i - 1) * 2 ^ i =
    ap₂ bit_and (sym whole) (sym less)
    ∙ and_block i (x / 2 ^ i) (x / 2 ^ i - 1) 0 (2 ^ i - 1) (pow_pos i) (ones_lt i)
    ∙ ap₂ (λ (a b : ℕ). a * 2 ^ i + b) (odd-off (x / 2 ^ i) bit) (and_zero_l (2 ^ i - 1))
    ∙ add-zero _ in
    omega (arith, off, again, whole)
  where
    suc-mul-one : (a b : ℕ) → (a + 1) * b ≡ a * b + b
    suc-mul-one a b = ap (λ (m : ℕ). m * b) (add-one a) ∙ suc-mul a b

-- the word without its lowest number
pub word-off : (p : ℕ → Bool) (n i : ℕ) → Lowest p n i → bit_and (word_of p n) (word_of p n - 1) ≡ word_of (λ j. leb (i + 1) j && p j) n
word-off p n i l =
    let size : suc (i + (n - suc i)) ≡ n = omega (arith, l.inside) in
    let two : word_of p n ≡ word_of (λ j. leb (i + 1) j && p j) n + 2 ^ i = rw size at (apart p i l.passes l.below (n - suc i)) in
    let none : word_of p n % 2 ^ i ≡ 0 =
    word_mod (word_of p n) i ∙ none-word (bit_at (word_of p n)) i (λ j h. word-bit p n j (omega (arith, l.inside)) ∙ l.below j h) in
    let one : word_of p n / 2 ^ i % 2 ≡ 1 = eqb-true _ 1 (word-bit p n i l.inside ∙ l.passes) in
    omega (arith, number-off (word_of p n) i none one, two)
