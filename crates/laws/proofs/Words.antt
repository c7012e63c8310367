-- The laws of words: their bits, their size, one number more, their parts, what two words share, the empty word, and a number as the word of its bits.
-- By how many numbers are asked.
-- Assumes nothing.
use mathlib.Core.Path.{◌≡◌, refl, sym, ap, ap₂, ◌∙◌}
use mathlib.Core.Bool.{Bool, true, false, ◌&&◌, ◌||◌, not, and-true, and-false, or-true, or-false, not-not}
use mathlib.Core.Logic.{⊎_elim}
use Prim.Native.Nat.{ℕ, zero, suc, ◌+◌, ◌*◌, ◌/◌, ◌%◌, ◌^◌, ◌≤◌, ◌<◌}
use native.Mathlib.Nat.{mod-one, mod-lt, mod-eq_of_lt, add_comm, add_assoc, add-zero, add-suc, mul-add, mul-zero, one-mul, zero-mul, pow-suc}
use native.Mathlib.Nat.{eq-or-lt_of_le, le_of_suc-le-suc}
use native.Mathlib.Numerals.{add-one}
use native.Mathlib.Omega.{arith}
use lib.Bits.{bit_and, bit_or, or_shifted_r, or_zero_r, and_block, and_le_l}
use lib.Dec.{ltb, eqb, lit<}
use lib.Pow.{pow-add, pow_pos, mod-pow-add}
use borrow.Author.Tests.{lt-ltb, le-ltb, eq-eqb, ne_eqb, eqb-true}
use Rattle.laws.specs.Choice.{pick}
use Rattle.laws.specs.Sum.{sum, any, bit}
use Rattle.laws.specs.Bits.{bit_at, set_bit, word_of}
use Rattle.laws.proofs.Any.{none_any}
use Rattle.laws.proofs.Choice.{pick-most}
use Rattle.laws.proofs.Bits.{bit-set, bit-and, bit_past, digit}
use Rattle.laws.proofs.Sums.{sum-eq}

module _ (p : ℕ → Bool) where
  pub word-zero : word_of p 0 ≡ 0
  unfolding word_of sum
  word-zero = refl

  pub word-suc : (n : ℕ) → word_of p (suc n) ≡ word_of p n + pick (p n) (2 ^ n) 0
  unfolding word_of sum
  word-suc n = refl

pub word_lt : (p : ℕ → Bool) (n : ℕ) → word_of p n < 2 ^ n
word_lt p zero = rw word-zero (lit< tt)
word_lt p (suc n) = rw (word-suc p n, pow-suc) (omega (arith, word_lt p n, pick-most (p n) (2 ^ n)))

weight-digit : (t : Bool) (n : ℕ) → pick t (2 ^ n) 0 ≡ bit t * 2 ^ n
weight-digit true n = sym (one-mul (2 ^ n))
weight-digit false n = sym (zero-mul (2 ^ n))

digit-suc : (p : ℕ → Bool) (n : ℕ) → word_of p (suc n) ≡ bit (p n) * 2 ^ n + word_of p n
digit-suc p n = word-suc p n ∙ ap (λ x. word_of p n + x) (weight-digit (p n) n) ∙ add_comm (word_of p n) (bit (p n) * 2 ^ n)

-- one number more, as a program joins it
pub word_more : (p : ℕ → Bool) (n : ℕ) → bit_or (word_of p n) (pick (p n) (2 ^ n) 0) ≡ word_of p (n + 1)
word_more p n =
    ap (bit_or (word_of p n)) (weight-digit (p n) n)
    ∙ or_shifted_r (bit (p n)) n (word_of p n) (word_lt p n)
    ∙ sym (digit-suc p n)
    ∙ ap (word_of p) (sym (add-one n))

-- the bits of a word joined with one number, where it is to be
pub set-one : (t : Bool) (x n j : ℕ) → bit_at (bit_or x (pick t (2 ^ n) 0)) j ≡ ((eqb j n && t) || bit_at x j)
unfolding set_bit
set-one true x n j = bit-set x n j ∙ ap (λ b. b || bit_at x j) (sym (and-true (eqb j n)))
set-one false x n j = ap (λ y. bit_at y j) (or_zero_r x) ∙ ap (λ b. b || bit_at x j) (sym (and-false (eqb j n)))

-- a word in two parts
pub weight-add : (t : Bool) (m n : ℕ) → pick t (2 ^ (m + n)) 0 ≡ 2 ^ m * pick t (2 ^ n) 0
weight-add true m n = pow-add 2 m n
weight-add false m n = sym (mul-zero (2 ^ m))

pub word_split : (p : ℕ → Bool) (m n : ℕ) → word_of p (m + n) ≡ word_of p m + 2 ^ m * word_of (λ b. p (m + b)) n
word_split p m zero =
    ap (word_of p) (add-zero m)
    ∙ sym (add-zero (word_of p m))
    ∙ sym (ap (λ (x : ℕ). word_of p m + x) (ap (λ (x : ℕ). 2 ^ m * x) (word-zero (λ b. p (m + b))) ∙ mul-zero (2 ^ m)))
word_split p m (suc n) =
    ap (word_of p) (add-suc m n)
    ∙ word-suc p (m + n)
    ∙ ap₂ (λ (x y : ℕ). x + y) (word_split p m n) (weight-add (p (m + n)) m n)
    ∙ add_assoc (word_of p m) (2 ^ m * word_of (λ b. p (m + b)) n) (2 ^ m * pick (p (m + n)) (2 ^ n) 0)
    ∙ ap (λ (x : ℕ). word_of p m + x) (sym (mul-add (2 ^ m) (word_of (λ b. p (m + b)) n) (pick (p (m + n)) (2 ^ n) 0))
    ∙ ap (λ (x : ℕ). 2 ^ m * x) (sym (word-suc (λ b. p (m + b)) n)))

-- its bits: the test, and at n or above nothing
pub word-past : (p : ℕ → Bool) (n j : ℕ) → n ≤ j → bit_at (word_of p n) j ≡ false
word-past p n j h = bit_past (word_of p n) j n (word_lt p n) h

pub word-bit : (p : ℕ → Bool) (n j : ℕ) → j < n → bit_at (word_of p n) j ≡ p j
word-bit p zero j h = absurd (omega arith)
word-bit p (suc n) j h =
    ap (λ x. bit_at x j) (ap (word_of p) (sym (add-one n)) ∙ sym (word_more p n))
    ∙ set-one (p n) (word_of p n) n j
    ∙ ⊎_elim here (λ m. there m (word-bit p n j m)) (eq-or-lt_of_le (le_of_suc-le-suc h))
  where
    here : j ≡ n → ((eqb j n && p n) || bit_at (word_of p n) j) ≡ p j
    here e = rw (eq-eqb j n e, word-past p n j (omega arith), or-false (p n), e)

    there : j < n → bit_at (word_of p n) j ≡ p j → ((eqb j n && p n) || bit_at (word_of p n) j) ≡ p j
    there m i = rw (ne_eqb j n (λ e. omega arith)) i

digits-and : (s t : Bool) → bit_and (bit s) (bit t) ≡ bit (s && t)
digits-and true true = refl
digits-and true false = refl
digits-and false t = refl

-- what two words share
pub word_and : (p q : ℕ → Bool) (n : ℕ) → bit_and (word_of p n) (word_of q n) ≡ word_of (λ i. p i && q i) n
word_and p q zero = rw (word-zero p) (sym (word-zero (λ i. p i && q i)))
word_and p q (suc n) =
    ap₂ bit_and (digit-suc p n) (digit-suc q n)
    ∙ and_block n (bit (p n)) (bit (q n)) (word_of p n) (word_of q n) (word_lt p n) (word_lt q n)
    ∙ ap₂ (λ x y. x * 2 ^ n + y) (digits-and (p n) (q n)) (word_and p q n)
    ∙ sym (digit-suc (λ i. p i && q i) n)

empty-more : (t a : Bool) (w n : ℕ) → eqb w 0 ≡ not a → eqb (w + pick t (2 ^ n) 0) 0 ≡ not (a || t)
empty-more true a w n h = ne_eqb (w + 2 ^ n) 0 (λ e. omega (arith, pow_pos n)) ∙ ap not (sym (or-true a))
empty-more false a w n h = ap (λ x. eqb x 0) (add-zero w) ∙ h ∙ ap not (sym (or-false a))

-- a word is 0 where no number passes
pub word-empty : (p : ℕ → Bool) (n : ℕ) → eqb (word_of p n) 0 ≡ not (any p n)
unfolding any
word-empty p zero = rw word-zero
word-empty p (suc n) = rw (word-suc p n) (empty-more (p n) (any p n) (word_of p n) n (word-empty p n))

pub none-word : (p : ℕ → Bool) (n : ℕ) → ((k : ℕ) → k < n → p k ≡ false) → word_of p n ≡ 0
none-word p n h = eqb-true (word_of p n) 0 (word-empty p n ∙ ap not (none_any p n h))

join : (t : Bool) (x n : ℕ) → pick t (set_bit x n) x ≡ bit_or x (pick t (2 ^ n) 0)
unfolding set_bit
join true x n = refl
join false x n = sym (or_zero_r x)

-- one number more, set where it passes
pub word-join : (p : ℕ → Bool) (n x : ℕ) → x ≡ word_of p n → pick (p n) (set_bit x n) x ≡ word_of p (n + 1)
word-join p n x e = join (p n) x n ∙ ap (λ y. bit_or y (pick (p n) (2 ^ n) 0)) e ∙ word_more p n

-- tests that agree below n have one word
pub word-eq : (p q : ℕ → Bool) (n : ℕ) → ((k : ℕ) → k < n → p k ≡ q k) → word_of p n ≡ word_of q n
unfolding word_of
word-eq p q n h = sum-eq (λ i. pick (p i) (2 ^ i) 0) (λ i. pick (q i) (2 ^ i) 0) n (λ k l. ap (λ t. pick t (2 ^ k) 0) (h k l))

-- a test that passes nothing from n on asks no more than n numbers
pub word-within : (p : ℕ → Bool) (n d : ℕ) → word_of (λ i. ltb i n && p i) (n + d) ≡ word_of p n
word-within p n zero = ap (word_of (λ i. ltb i n && p i)) (add-zero n) ∙ word-eq (λ i. ltb i n && p i) p n (λ k h. ap (λ b. b && p k) (lt-ltb k n h))
word-within p n (suc d) =
    ap (word_of (λ i. ltb i n && p i)) (add-suc n d)
    ∙ word-suc (λ i. ltb i n && p i) (n + d)
    ∙ ap (λ t. word_of (λ i. ltb i n && p i) (n + d) + pick (t && p (n + d)) (2 ^ (n + d)) 0) (le-ltb (n + d) n (omega arith))
    ∙ add-zero (word_of (λ i. ltb i n && p i) (n + d))
    ∙ word-within p n d

-- the low digits of a number, as the word of its bits
pub word_mod : (x n : ℕ) → x % 2 ^ n ≡ word_of (bit_at x) n
word_mod x zero = mod-one x ∙ sym (word-zero (bit_at x))
word_mod x (suc n) =
    let e : suc n ≡ 1 + n = omega arith in
    ap (λ k. x % 2 ^ k) e
    ∙ mod-pow-add x 1 n
    ∙ ap₂ (λ u v. u * 2 ^ n + v) (digit (x / 2 ^ n % 2) (mod-lt _ (lit< tt))) (word_mod x n)
    ∙ sym (digit-suc (bit_at x) n)

-- a number is the word of its bits
pub word-bits : (x n : ℕ) → x < 2 ^ n → x ≡ word_of (bit_at x) n
word-bits x n h = sym (mod-eq_of_lt h) ∙ word_mod x n

-- a number with the bits of a word is that word
pub bits-eq : (p : ℕ → Bool) (x n : ℕ) → x < 2 ^ n → ((j : ℕ) → j < n → bit_at x j ≡ p j) → x ≡ word_of p n
bits-eq p x n h e = word-bits x n h ∙ word-eq (bit_at x) p n e

-- a word shares something with a row exactly where the row has one of its numbers. Bits of the row at n and beyond do no harm.
pub shares-any : (p : ℕ → Bool) (n row : ℕ) → not (eqb (bit_and (word_of p n) row) 0) ≡ any (λ c. p c && bit_at row c) n
shares-any p n row =
    ap (λ (x : ℕ). not (eqb x 0)) (bits-eq (λ c. p c && bit_at row c) (bit_and (word_of p n) row) n (omega (arith, and_le_l (word_of p n) row, word_lt p n))
    (λ j h.
    bit-and (word_of p n) row j ∙ ap (λ b. b && bit_at row j) (word-bit p n j h)))
    ∙ ap not (word-empty (λ c. p c && bit_at row c) n)
    ∙ not-not (any (λ c. p c && bit_at row c) n)

-- the word of a test that is asked only where t holds
pub word-gate : (t : Bool) (p : ℕ → Bool) (n : ℕ) → word_of (λ i. t && p i) n ≡ pick t (word_of p n) 0
word-gate true p n = refl
word-gate false p n = none-word (λ _. false) n (λ _ _. refl)
