-- Words joined: the whole is 0 only where each of them is. So one pass that joins what is at fault tells that there is nothing to search for. Assumes nothing.
use Prim.Native.Nat.{ℕ, ◌+◌, ◌-◌, ◌/◌, ◌^◌, ◌≤◌, ◌<◌}
use mathlib.Core.Bool.{Bool, true, false, ◌&&◌, ◌||◌, true≢false}
use mathlib.Core.Logic.{⊎_elim}
use mathlib.Core.Path.{◌≡◌, refl, sym, ap, ◌∙◌}
use native.Mathlib.Nat.{div-eq_of_lt, one-mul}
use native.Mathlib.Omega.{arith}
use borrow.Author.Tests.{ltb-true, ltb-false, lt-ltb}
use lib.Bits.{bit_or, bit_and, and_comm, and_shifted}
use lib.Dec.{ltb}
use lib.Pow.{pow_pos, pow_mono}
use Rattle.laws.specs.Bits.{bit_at}
use Rattle.laws.specs.Choice.{pick}
use Rattle.laws.proofs.Choice.{cases}
use Rattle.laws.proofs.Bits.{bit-and, none_in, or-none, bit-own}
use Rattle.reachrows.specs.Rows.{row_bad}

-- what 0 tells of the numbers below k, it tells of k too once what tells of k is joined
pub one_more : (P : ℕ → Type 0) (from k all x : ℕ) → (all ≡ 0 → (j : ℕ) → from ≤ j → j < k → P j) → (x ≡ 0 → P k) → bit_or all x ≡ 0
    → (j : ℕ) → from ≤ j → j < k + 1 → P j
one_more P from k all x before here e j l m =
    ⊎_elim (λ t. before (or-none all x e).0 j l (ltb-true j k t))
    (λ t.
    let past : k ≤ j = ltb-false j k t in
    let q : j ≡ k = omega arith in
    rw q (here (or-none all x e).1))
    (cases (ltb j k))

-- ---- a row

first_of : (t u : Bool) → (t && u) ≡ false → u ≡ true → t ≡ false
first_of true u e q = absurd (true≢false (sym q ∙ e))
first_of false u e q = refl

own : (x k : ℕ) → bit_and x (2 ^ k) ≡ 0 → bit_at x k ≡ false
own x k e = first_of (bit_at x k) (bit_at (2 ^ k) k) (sym (bit-and x (2 ^ k) k) ∙ ap (λ (z : ℕ). bit_at z k) e ∙ none_in k) (bit-own k)

-- the cells' word has no bit past them
pub cells-bit : (n k : ℕ) → (bit_and (2 ^ n - 1) (2 ^ k) ≡ 0 → ⊥) → k < n
cells-bit n k some =
    ⊎_elim (λ t. ltb-true k n t)
    (λ t.
    let past : n ≤ k = ltb-false k n t in
    let few : 2 ^ n - 1 < 2 ^ k = omega (arith, pow_mono {i = n} {j = k} past, pow_pos n) in
    absurd (some (and_comm (2 ^ n - 1) (2 ^ k) ∙ ap (λ (z : ℕ). bit_and z (2 ^ n - 1)) (sym (one-mul (2 ^ k))) ∙ and_shifted 1 k (2 ^ n - 1) few)))
    (cases (ltb k n))

-- an empty row is not at fault
pub row-none : (n x k : ℕ) → x ≡ 0 → row_bad n x k ≡ false
unfolding row_bad
row-none n x k e = rw e (none (ltb k n))
  where
    none : (t : Bool) → pick t (ltb 0 (0 / 2 ^ n) || bit_at 0 k) (ltb 0 0) ≡ false
    none true = simp (div-eq_of_lt (pow_pos n), none_in k)
    none false = refl

-- a row of a cell of the site, with no bit beyond I and not its own, is not at fault
pub row_fine : (n x k : ℕ) → k < n → x < 2 ^ n → bit_and x (2 ^ k) ≡ 0 → row_bad n x k ≡ false
unfolding row_bad
row_fine n x k l h e = simp (lt-ltb k n l, div-eq_of_lt h, own x k e)
