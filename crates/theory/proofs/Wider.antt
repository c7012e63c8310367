-- More positions never hurt the planner: what a cell has left before a position does not depend on how many positions there are, and never grows, so
-- that where nothing is left after n positions nothing is left after more.
--     plans-met      where the run plans, nothing is left of any load
--     plans-wider    a problem that is planned is planned with more positions
-- Assumes nothing.
use mathlib.Core.Path.{◌≡◌, refl, sym, ap, ◌∙◌}
use mathlib.Core.Bool.{◌&&◌}
use mathlib.Core.Logic.{⊎_elim}
use Prim.Native.Nat.{ℕ, zero, suc, ◌+◌, ◌-◌, ◌≤◌, ◌<◌, zero-le}
use native.Mathlib.Omega.{arith}
use lib.Dec.{ltb}
use borrow.Author.Tests.{ltb-true, ltb-false}
use Rattle.laws.specs.Sum.{bit}
use Rattle.laws.proofs.Choice.{cases}
use Rattle.laws.proofs.Search.{first-before}
use Rattle.theory.specs.Net.{Net}
use Rattle.theory.specs.Greedy.{Plans}
use Rattle.theory.specs.Positions.{chosen, left_at, need_at, short_cell}
use Rattle.theory.proofs.Positions.{left-next, greedy-short, run-plans}

-- the same problem with n positions
abbrev pub resized : Net → ℕ → Net
resized s n = record { cells = s.cells; width = n; load = s.load; clash = s.clash; usable = s.usable }

module _ (s : Net) where
  pub plans-met : Plans s → (i : ℕ) → i < s.cells → left_at s s.width i ≡ 0
  plans-met p i l =
      ⊎_elim
      (λ h. let e = sym (greedy-short s (ltb-true _ _ h)) ∙ p.1 in let z : ◌≡◌ {A = ℕ} 0 1 = cc in absurd (omega arith))
      (λ h.
      let all : s.cells ≤ short_cell s s.cells = ltb-false _ _ h in
      omega (arith, ltb-false 0 (left_at s s.width i) (first-before (need_at s s.width) 0 s.cells i zero-le (omega arith))))
      (cases (ltb (short_cell s s.cells) s.cells))

  left-falls : (d k i : ℕ) → left_at s (d + k) i ≤ left_at s k i
  left-falls zero k i = let e : 0 + k ≡ k = omega arith in rw e (omega arith)
  left-falls (suc d) k i = let e : suc d + k ≡ suc (d + k) = omega arith in rw e (omega (arith, left-next s (d + k) i, left-falls d k i))

  module _ (n : ℕ) where
    left-resized : (k : ℕ) → left_at (resized s n) k ≡ left_at s k
    unfolding left_at
    left-resized zero = refl
    left-resized (suc k) = ap {B = ℕ → ℕ} (λ (f : ℕ → ℕ) i. f i - bit (s.usable k && chosen s.clash (λ j. ltb 0 (f j)) i)) (left-resized k)

    pub plans-wider : Plans s → s.width ≤ n → Plans (resized s n)
    plans-wider p h =
        let t = run-plans (resized s n) s.cells (λ i l.
        let same : left_at (resized s n) n i ≡ left_at s n i = ap (λ (f : ℕ → ℕ). f i) (left-resized n) in
        let e : n ≡ (n - s.width) + s.width = omega arith in
        let low : left_at s n i ≤ left_at s s.width i = rw e (left-falls (n - s.width) s.width i) in
        omega (arith, same, low, plans-met p i l)) in
        (t.0, t.1)
