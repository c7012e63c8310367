-- Eight cells at a time: the byte that a word has of eight cells, its bits, and a word with the byte joined to it, also where some of the eight
-- are in it already. By bits: a shifted byte has its bits that much higher, and none below. Assumes nothing.
use mathlib.Core.Path.{◌≡◌, refl, sym, ap, ap₂, ◌∙◌}
use mathlib.Core.Bool.{Bool, true, false, ◌||◌, or-false}
use mathlib.Core.List.{List}
use mathlib.Core.Logic.{⊎_elim}
use Prim.Native.Nat.{ℕ, suc, ◌+◌, ◌-◌, ◌*◌, ◌/◌, ◌%◌, ◌^◌, ◌≤◌, ◌<◌}
use native.Mathlib.Nat.{add-mul, lt_of_lt_of_le}
use native.Mathlib.Omega.{arith}
use lib.Bits.{bit_or, or_lt}
use lib.Dec.{ltb, eqb}
use lib.ListN.{get_or}
use lib.Pow.{shl_lt, pow_mono}
use borrow.Author.Tests.{ltb-true, ltb-false}
use Rattle.laws.specs.Bits.{bit_at, word_of}
use Rattle.laws.specs.Choice.{pick}
use Rattle.laws.specs.Sum.{sum}
use Rattle.laws.proofs.Bits.{bit-either, shl-bit, shl-bit-below, mod-bit, shr-bit}
use Rattle.laws.proofs.Choice.{cases, pick-most}
use Rattle.laws.proofs.Words.{word_lt, word-bit, word-past, word-eq, bits-eq}
use Rattle.theory.specs.Greedy.{sends, reserved}
use Rattle.wordforms.specs.Eights.{eight_of}

-- ---- the byte of eight cells

pub four-sum : (p : ℕ → Bool) → word_of p 4 ≡ pick (p 0) 1 0 + pick (p 1) 2 0 + pick (p 2) 4 0 + pick (p 3) 8 0
unfolding word_of sum
four-sum p = omega arith

sixteenth : (t : Bool) (x : ℕ) → pick t (16 * x) 0 ≡ 16 * pick t x 0
sixteenth true x = refl
sixteenth false x = refl

pub eight-sum : (p : ℕ → Bool) → word_of p 8 ≡ word_of p 4 + 16 * word_of (λ b. p (4 + b)) 4
unfolding word_of sum
eight-sum p = omega (arith, sixteenth (p 4) 1, sixteenth (p 5) 2, sixteenth (p 6) 4, sixteenth (p 7) 8)

-- the weights of four rows at a position
module _ (t : List ℕ) (k n a b c d : ℕ) (e₀ : a ≡ pick (sends (get_or t k 0)) 1 0) (e₁ : b ≡ pick (sends (get_or t (k + n) 0)) 2 0)
    (e₂ : c ≡ pick (sends (get_or t (k + 2 * n) 0)) 4 0) (e₃ : d ≡ pick (sends (get_or t (k + 3 * n) 0)) 8 0) where
  pub four-most : a + b + c + d ≤ 15
  four-most = omega (
    arith,
    pick-most (sends (get_or t k 0)) 1,
    pick-most (sends (get_or t (k + n) 0)) 2,
    pick-most (sends (get_or t (k + 2 * n) 0)) 4,
    pick-most (sends (get_or t (k + 3 * n) 0)) 8,
  )

  pub four-rows : a + b + c + d ≡ word_of (λ b. sends (get_or t (k + b * n) 0)) 4
  four-rows =
      let at₀ : k + 0 * n ≡ k = omega arith in
      let at₁ : k + 1 * n ≡ k + n = omega arith in
      let w₀ : pick (sends (get_or t (k + 0 * n) 0)) 1 0 ≡ a = ap (λ (j : ℕ). pick {A = ℕ} (sends (get_or t j 0)) 1 0) at₀ ∙ sym e₀ in
      let w₁ : pick (sends (get_or t (k + 1 * n) 0)) 2 0 ≡ b = ap (λ (j : ℕ). pick {A = ℕ} (sends (get_or t j 0)) 2 0) at₁ ∙ sym e₁ in
      omega (arith, four-sum (λ b. sends (get_or t (k + b * n) 0)))

-- eight rows, of the cells from i on
pub eight-four : (n : ℕ) (t : List ℕ) (i k low high : ℕ) → low ≡ word_of (λ b. sends (get_or t (i * n + k + b * n) 0)) 4
    → high ≡ word_of (λ b. sends (get_or t (i * n + k + 4 * n + b * n) 0)) 4 → low + 16 * high ≡ eight_of n t i k
eight-four n t i k low high e g =
    sym (eight-sum (λ b. reserved n t (i + b) k)
    ∙ ap₂ (λ (x y : ℕ). x + 16 * y)
    (word-eq (λ b. reserved n t (i + b) k) (λ b. sends (get_or t (i * n + k + b * n) 0)) 4 (λ b _. ap (λ (j : ℕ). sends (get_or t j 0)) (place b)) ∙ sym e)
    (word-eq (λ b. reserved n t (i + (4 + b)) k) (λ b. sends (get_or t (i * n + k + 4 * n + b * n) 0)) 4 (λ b _.
    ap (λ (j : ℕ). sends (get_or t j 0)) (place (4 + b) ∙ omega (arith, add-mul 4 b n))) ∙ sym g))
  where
    place : (b : ℕ) → (i + b) * n + k ≡ i * n + k + b * n
    place b = omega (arith, add-mul i b n)

-- ---- bits of a byte

pub byte-bit : (x i b : ℕ) → b < 8 → bit_at (x / 2 ^ i % 256) b ≡ bit_at x (i + b)
byte-bit x i b h =
    let e : 8 ≡ suc (7 - b) + b = omega arith in
    ap (λ (m : ℕ). eqb m 1) (ap (λ (w : ℕ). x / 2 ^ i % 2 ^ w / 2 ^ b % 2) e ∙ mod-bit (x / 2 ^ i) b (7 - b) ∙ shr-bit x i b)

-- ---- eight cells joined

or_same : (t : Bool) → (t || t) ≡ t
or_same true = refl
or_same false = refl

module _ (p : ℕ → Bool) (i s : ℕ) (lo : s ≤ i) (hi : i ≤ s + 8) where
  abbrev pub up : ℕ
  up = word_of (λ b. p (s + b)) 8

  small : bit_or (word_of p i) (up * 2 ^ s) < 2 ^ (s + 8)
  small =
      let e : 8 + s ≡ s + 8 = omega arith in
      or_lt (s + 8) (word_of p i) (up * 2 ^ s) (lt_of_lt_of_le (word_lt p i) (pow_mono hi)) (rw e at (shl_lt 8 s (word_lt (λ b. p (s + b)) 8)))

  -- below the eight, and among them
  low : (j : ℕ) → j < s → (bit_at (word_of p i) j || bit_at (up * 2 ^ s) j) ≡ p j
  low j h =
      let e : s ≡ suc (s - j - 1) + j = omega arith in
      ap₂ ◌||◌ (word-bit p i j (omega arith))
      (ap (λ (m : ℕ). eqb m 1) (ap (λ (w : ℕ). up * 2 ^ w / 2 ^ j % 2) e ∙ shl-bit-below up j (s - j - 1)))
      ∙ or-false (p j)

  high : (d : ℕ) → d < 8 → (bit_at (word_of p i) (s + d) || bit_at (up * 2 ^ s) (s + d)) ≡ p (s + d)
  high d h =
      let e : bit_at (up * 2 ^ s) (s + d) ≡ p (s + d) = ap (λ (m : ℕ). eqb m 1) (shl-bit up s d) ∙ word-bit (λ b. p (s + b)) 8 d h in
      ⊎_elim (λ c. ap₂ ◌||◌ (word-bit p i (s + d) (ltb-true (s + d) i c)) e ∙ or_same (p (s + d)))
      (λ c. ap₂ ◌||◌ (word-past p i (s + d) (ltb-false (s + d) i c)) e) (cases (ltb (s + d) i))

  -- the word of the cells below i, and the eight from s on, of which some may be below i
  pub word-eight : bit_or (word_of p i) (up * 2 ^ s) ≡ word_of p (s + 8)
  word-eight =
      bits-eq p (bit_or (word_of p i) (up * 2 ^ s)) (s + 8) small (λ j h.
      bit-either (word_of p i) (up * 2 ^ s) j
      ∙ ⊎_elim (λ c. low j (ltb-true j s c))
      (λ c.
      let l : s ≤ j = ltb-false j s c in
      let e : j ≡ s + (j - s) = omega arith in
      ap (λ (m : ℕ). bit_at (word_of p i) m || bit_at (up * 2 ^ s) m) e ∙ high (j - s) (omega arith) ∙ ap p (sym e))
      (cases (ltb j s)))
