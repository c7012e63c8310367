-- The marks of a row, from a word. Four bits times 1 + 2^7 + 2^14 + 2^21 stand once at the lowest bits of four bytes, each at its own (`spread-four`, by
-- all sixteen), and the number of four bytes has each of them as a digit (`four-digits`). Assumes nothing.
use mathlib.Core.Path.{◌≡◌, sym, ap, ◌∙◌}
use mathlib.Core.Bool.{Bool, false, not}
use mathlib.Core.List.{[], ◌∷◌}
use Prim.Native.Nat.{ℕ, ◌+◌, ◌*◌, ◌/◌, ◌%◌, ◌^◌, ◌≤◌, ◌<◌}
use native.Mathlib.Nat.{add-zero, mod-lt}
use native.Mathlib.Omega.{arith}
use lib.Bits.{bit_and}
use lib.Dec.{eqb, lit<}
use borrow.Author.Tests.{eqb-true, not-false}
use Rattle.laws.specs.Bits.{bit_at}
use Rattle.laws.specs.Part.{list_of}
use Rattle.laws.specs.Sum.{bit, any}
use Rattle.laws.proofs.Any.{any_none}
use Rattle.laws.proofs.Bits.{digit, shr-bit, mod-bit}
use Rattle.laws.proofs.Sums.{bit-most}
use Rattle.shortrows.specs.Short.{mark_in}

-- four bits, each a byte of its own
abbrev pub four_apart : ℕ → ℕ
four_apart x = bit (bit_at x 0) + 256 * bit (bit_at x 1) + 65536 * bit (bit_at x 2) + 16777216 * bit (bit_at x 3)

-- whether a product and a mask do not bring the four bits of x there
abbrev pub wrong_four : ℕ → ℕ → ℕ → Bool
wrong_four by mask x = not (eqb (bit_and (x * by) mask) (four_apart x))

pub spread-four : (by mask : ℕ) → any (wrong_four by mask) 16 ≡ false → (x : ℕ) → x < 16 → bit_and (x * by) mask ≡ four_apart x
spread-four by mask none x h = eqb-true _ _ (not-false (eqb (bit_and (x * by) mask) (four_apart x)) (any_none (wrong_four by mask) 16 none x h))

-- ---- four bits of a word

module _ (x p : ℕ) where
  abbrev four : ℕ
  four = x / 2 ^ p % 16

  bit-first : bit_at four 0 ≡ bit_at x p
  bit-first = ap (λ (d : ℕ). eqb d 1) (mod-bit (x / 2 ^ p) 0 3 ∙ shr-bit x p 0 ∙ ap (λ (k : ℕ). x / 2 ^ k % 2) (add-zero p))

  bit-second : bit_at four 1 ≡ bit_at x (p + 1)
  bit-second = ap (λ (d : ℕ). eqb d 1) (mod-bit (x / 2 ^ p) 1 2 ∙ shr-bit x p 1)

  bit-third : bit_at four 2 ≡ bit_at x (p + 2)
  bit-third = ap (λ (d : ℕ). eqb d 1) (mod-bit (x / 2 ^ p) 2 1 ∙ shr-bit x p 2)

  bit-fourth : bit_at four 3 ≡ bit_at x (p + 3)
  bit-fourth = ap (λ (d : ℕ). eqb d 1) (mod-bit (x / 2 ^ p) 3 0 ∙ shr-bit x p 3)

  pub four-of : four_apart (x / 2 ^ p % 16)
      ≡ bit (bit_at x p) + 256 * bit (bit_at x (p + 1)) + 65536 * bit (bit_at x (p + 2)) + 16777216 * bit (bit_at x (p + 3))
  four-of =
      (λ i. bit (bit-first i) + 256 * bit (bit-second i) + 65536 * bit (bit-third i) + 16777216 * bit (bit-fourth i))

pub four-most : (x : ℕ) → four_apart x ≤ 16843009
four-most x = omega (arith, bit-most (bit_at x 0), bit-most (bit_at x 1), bit-most (bit_at x 2), bit-most (bit_at x 3))

-- ---- the mark of a position

mark-most : (taken p : ℕ) → mark_in taken p < 4
mark-most taken p = omega (arith, bit-most (bit_at taken p))

pub one_bit : (x p : ℕ) → x / 2 ^ p % 2 ≡ bit (bit_at x p)
one_bit x p = digit (x / 2 ^ p % 2) (mod-lt _ (lit< tt))

pub byte-sum : (taken p : ℕ) → taken / 2 ^ p % 2 * 2 ≡ mark_in taken p
byte-sum taken p = omega (arith, one_bit taken p)

-- the marks of four positions as one number, and its digits
abbrev pub four_bytes : ℕ → ℕ → ℕ
four_bytes taken p = mark_in taken p + 256 * mark_in taken (p + 1) + 65536 * mark_in taken (p + 2) + 16777216 * mark_in taken (p + 3)

pub four-twice : (taken p y : ℕ) → y ≡ four_apart (taken / 2 ^ p % 16) → 2 * y ≡ four_bytes taken p
four-twice taken p y e = omega (arith, e, four-of taken p)

digits : (a b c d x : ℕ) → a < 4 → b < 4 → c < 4 → d < 4 → x ≡ a + 256 * b + 65536 * c + 16777216 * d
    → (x % 256 ≡ a) × (x / 256 % 256 ≡ b) × (x / 65536 % 256 ≡ c) × (x / 16777216 % 256 ≡ d)
digits a b c d x p q r s e = (omega arith, omega arith, omega arith, omega arith)

pub four-digits : (taken p x : ℕ) → x ≡ four_bytes taken p
    → x % 256 ∷ x / 256 % 256 ∷ x / 65536 % 256 ∷ x / 16777216 % 256 ∷ [] ≡ list_of (λ k. mark_in taken (p + k)) 4
unfolding list_of
four-digits taken p x e =
    let d = digits (mark_in taken p) (mark_in taken (p + 1)) (mark_in taken (p + 2)) (mark_in taken (p + 3)) x
    (mark-most taken p) (mark-most taken (p + 1)) (mark-most taken (p + 2)) (mark-most taken (p + 3)) e in
    let first : x % 256 ≡ mark_in taken (p + 0) = d.0 ∙ ap (mark_in taken) (sym (add-zero p)) in
    (λ i. first i ∷ d.1 i ∷ d.2 i ∷ d.3 i ∷ [])
