-- The lowest bit of a word from a place on, as a program finds it by counting zeros, is the first number from there on that the word has:
-- both go digit by digit.
-- And the bits of a word that a program cuts, turns or fills. Assumes nothing.
use Prim.Native.Nat.{ℕ, zero, suc, ◌+◌, ◌-◌, ◌*◌, ◌/◌, ◌%◌, ◌^◌, ◌≤◌, ◌<◌}
use mathlib.Core.Bool.{Bool, true, false, not, ◌||◌, true≢false}
use mathlib.Core.Logic.{⊎_elim}
use mathlib.Core.Path.{◌≡◌, refl, sym, ap, ◌∙◌}
use native.Mathlib.Nat.{eq-or-lt_of_le, mod-lt, mod-eq_of_lt, pow-suc}
use native.Mathlib.Numerals.{add-one}
use native.Mathlib.Omega.{arith}
use borrow.Author.Tests.{lt-ltb, ltb-true, ltb-false, eq-eqb, ne_eqb}
use lib.Bits.{bit_and, bit_xor, and_mask, xor_shr, xor_mod, xor_add_and}
use lib.Count.{count_trailing_zeros, under}
use lib.Dec.{ltb, eqb, lit<}
use lib.Pow.{pow_pos, shr-shr}
use Rattle.laws.specs.Choice.{pick}
use Rattle.laws.specs.Search.{first, first_of}
use Rattle.laws.specs.Sum.{sum}
use Rattle.laws.specs.Bits.{bit_at, set_bit, word_of}
use Rattle.laws.proofs.Bits.{bit-set}
use Rattle.laws.proofs.Choice.{cases}
use Rattle.laws.proofs.Search.{first-least, first-most, first_passes, first-before, first-is, first-same}
use Rattle.laws.proofs.Words.{word-zero, word-suc, word-bit, word-past}

-- ---- the lowest bit

under_at : (u k t x : ℕ) → u < 2 → suc k + t ≡ x → k + under u t ≡ pick (eqb u 1) k x
under_at zero k t x h e = omega arith
under_at (suc zero) k t x h e = omega arith
under_at (suc (suc u)) k t x h e = absurd (omega arith)

pub zeros-first : (x d k : ℕ) → k + count_trailing_zeros d (x / 2 ^ k) ≡ first_of (bit_at x) d k
unfolding count_trailing_zeros first_of
zeros-first x zero k = omega arith
zeros-first x (suc d) k =
    under_at (x / 2 ^ k % 2) k (count_trailing_zeros d (x / 2 ^ k / 2)) (first_of (bit_at x) d (suc k)) (mod-lt _ (lit< tt))
    (ap (λ (n : ℕ). suc k + count_trailing_zeros d n) (shr-shr x k 1 ∙ ap (λ (n : ℕ). x / 2 ^ n) (add-one k)) ∙ zeros-first x d (suc k))

-- where m passes, a search past it is a search up to it
pub first-stop : (p : ℕ → Bool) (k m e : ℕ) → k ≤ m → m < e → p m ≡ true → first p k e ≡ first p k m
first-stop p k m e l h t =
    let low = first-least p k m in
    ⊎_elim
    (λ q. first-is p k m e l h t (λ j g i. first-before p k m j g (omega arith)) ∙ sym q)
    (λ i. first-is p k (first p k m) e low (omega arith) (first_passes p k m l i) (λ j g n. first-before p k m j g n))
    (eq-or-lt_of_le (first-most p k m l))

-- a bit set at e ends the search there, and so counts the zeros of d digits up to it
pub lowest-bit : (x d k e : ℕ) → k ≤ e → e < k + d → k + count_trailing_zeros d (set_bit x e / 2 ^ k) ≡ first (bit_at x) k e
lowest-bit x d k e l h =
    let n : d ≡ (k + d) - k = omega arith in
    zeros-first (set_bit x e) d k
    ∙ ap (λ (n : ℕ). first_of (bit_at (set_bit x e)) n k) n
    ∙ first-stop (bit_at (set_bit x e)) k e (k + d) l h (bit-set x e e ∙ ap (λ t. t || bit_at x e) (eq-eqb e e refl))
    ∙ first-same (bit_at (set_bit x e)) (bit_at x) k e l (λ j g m. bit-set x e j ∙ ap (λ t. t || bit_at x j) (ne_eqb j e (λ q. omega arith)))

-- a sum leaves out what a search does, where that adds nothing
nothing-more : (f : ℕ → ℕ) (k n : ℕ) → ((j : ℕ) → k ≤ j → j < k + n → f j ≡ 0) → sum f (k + n) ≡ sum f k
unfolding sum
nothing-more f k zero h = let e : k + 0 ≡ k = omega arith in ap (sum f) e
nothing-more f k (suc n) h =
    let e : k + suc n ≡ suc (k + n) = omega arith in
    ap (sum f) e ∙ omega (arith, nothing-more f k n (λ j g m. h j g (omega arith)), h (k + n) (omega arith) (omega arith))

pub sum_first : (f : ℕ → ℕ) (p : ℕ → Bool) (k e : ℕ) → ((j : ℕ) → p j ≡ false → f j ≡ 0) → sum f (first p k e) ≡ sum f k
sum_first f p k e h =
    let low = first-least p k e in
    let q : k + (first p k e - k) ≡ first p k e = omega arith in
    ap (sum f) (sym q) ∙ nothing-more f k (first p k e - k) (λ j g m. h j (first-before p k e j g (omega arith)))

-- ---- the bits of a word that is cut by another, turned, or full

-- the word of all the numbers below n
pub word-all : (n : ℕ) → word_of (λ _. true) n ≡ 2 ^ n - 1
word-all zero = word-zero (λ _. true)
word-all (suc n) =
    let e : 2 ^ suc n ≡ 2 ^ n * 2 = pow-suc 2 n in
    word-suc (λ _. true) n ∙ omega (arith, word-all n, pow_pos n)

pub bit-all : (n j : ℕ) → bit_at (2 ^ n - 1) j ≡ ltb j n
bit-all n j =
    ap (λ (x : ℕ). bit_at x j) (sym (word-all n))
    ∙ ⊎_elim (λ h. word-bit (λ _. true) n j (ltb-true j n h) ∙ sym h) (λ h. word-past (λ _. true) n j (ltb-false j n h) ∙ sym h) (cases (ltb j n))

digit-turned : (u v : ℕ) → u < 2 → v < 2 → eqb v 1 ≡ true → eqb (bit_xor u v) 1 ≡ not (eqb u 1)
digit-turned u zero h g e = absurd (true≢false (sym e))
digit-turned zero (suc zero) h g e = refl
digit-turned (suc zero) (suc zero) h g e = refl
digit-turned u (suc (suc v)) h g e = absurd (omega arith)
digit-turned (suc (suc u)) (suc zero) h g e = absurd (omega arith)

-- a word of n bits turned: those that it has not
pub bit_not : (n x j : ℕ) → x < 2 ^ n → j < n → bit_at ((2 ^ n - 1) - x) j ≡ not (bit_at x j)
bit_not n x j h l =
    let same : bit_and x (2 ^ n - 1) ≡ x = and_mask x n ∙ mod-eq_of_lt h in
    let turned : (2 ^ n - 1) - x ≡ bit_xor x (2 ^ n - 1) = omega (arith, xor_add_and x (2 ^ n - 1), same) in
    ap (λ (y : ℕ). bit_at y j) turned
    ∙ ap (λ (y : ℕ). eqb y 1) (ap (λ (y : ℕ). y % 2) (xor_shr x (2 ^ n - 1) j) ∙ xor_mod (x / 2 ^ j) ((2 ^ n - 1) / 2 ^ j) 1)
    ∙ digit-turned (x / 2 ^ j % 2) ((2 ^ n - 1) / 2 ^ j % 2) (mod-lt _ (lit< tt)) (mod-lt _ (lit< tt)) (bit-all n j ∙ lt-ltb j n l)
