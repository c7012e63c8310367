-- The lowest position that passes a test, some positions at a time: where none of them does they are passed, and else the lowest of them is the answer.
-- Assumes nothing.
use mathlib.Core.Path.{◌≡◌, sym, ap, ◌∙◌}
use mathlib.Core.Bool.{Bool, true, false}
use mathlib.Core.Logic.{⊎_elim}
use Prim.Native.Nat.{ℕ, ◌+◌, ◌-◌, ◌≤◌, ◌<◌, zero-le}
use native.Mathlib.Omega.{arith}
use lib.Dec.{ltb}
use borrow.Author.Tests.{ltb-true, ltb-false}
use Rattle.laws.specs.Search.{first}
use Rattle.laws.proofs.Search.{first_passes, first-before, first-skip, first-is}
use Rattle.laws.proofs.Choice.{cases}

module _ (p : ℕ → Bool) (from m n : ℕ) (fits : from + m ≤ n) where
  -- nothing below the answer passes
  none : (r : ℕ) → r ≡ first (λ k. p (from + k)) 0 m → (j : ℕ) → from ≤ j → j < from + r → p j ≡ false
  none r e j l h =
      let q : from + (j - from) ≡ j = omega arith in
      rw q at (first-before (λ k. p (from + k)) 0 m (j - from) zero-le (omega arith))

  pub part-found : {x r : ℕ} → x ≡ first p from n → r ≡ first (λ k. p (from + k)) 0 m → r < m → from + r ≡ x
  part-found {x} {r} i e h =
      sym (i ∙ first-is p from (from + r) n (omega arith) (omega arith)
      (ap (λ (k : ℕ). p (from + k)) e ∙ first_passes (λ k. p (from + k)) 0 m zero-le (omega arith)) (none r e))

  pub part-missed : {x r : ℕ} → x ≡ first p from n → r ≡ first (λ k. p (from + k)) 0 m → m ≤ r → x ≡ first p (from + m) n
  part-missed {x} {r} i e h = i ∙ first-skip p from (from + m) n (omega arith) fits (λ j l b. none r e j l (omega arith))

-- the lowest of all, where nothing before a block passes
module _ (p : ℕ → Bool) (at m n : ℕ) (fits : at + m ≤ n) (quiet : (j : ℕ) → j < at → p j ≡ false) where
  before : (r : ℕ) → r ≡ first (λ k. p (at + k)) 0 m → (j : ℕ) → j < at + r → p j ≡ false
  before r e j h =
      ⊎_elim
      (λ (c : ltb j at ≡ true). quiet j (ltb-true j at c))
      (λ (c : ltb j at ≡ false). none p at m n fits r e j (ltb-false j at c) h)
      (cases (ltb j at))

  pub block-found : {r : ℕ} → r ≡ first (λ k. p (at + k)) 0 m → r < m → at + r ≡ first p 0 n
  block-found {r} e h =
      sym (first-is p 0 (at + r) n zero-le (omega arith)
      (ap (λ (k : ℕ). p (at + k)) e ∙ first_passes (λ k. p (at + k)) 0 m zero-le (omega arith)) (λ j _ l. before r e j l))

  pub block-missed : {r : ℕ} → r ≡ first (λ k. p (at + k)) 0 m → m ≤ r → (j : ℕ) → j < at + m → p j ≡ false
  block-missed {r} e h j l = before r e j (omega arith)
