-- `heaviest::highest` meets its contract: the zeros above the highest cell, the cell and those below it make 32. Assumes nothing.
use mathlib.Core.Path.{◌≡◌}
use Prim.Native.Nat.{ℕ, suc, ◌-◌, ◌^◌, ◌≤◌, ◌<◌}
use native.Mathlib.Omega.{arith}
use lib.Count.{count_leading_zeros, leading_le, leading_top}
use Rattle.heaviest.proofs.highest.Goals as goal

top : (a : ℕ) → 0 < a → a < 2 ^ 32 → (count_leading_zeros 32 a < 32) × (2 ^ (31 - count_leading_zeros 32 a) ≤ a) × (a < 2 ^ suc (31 - count_leading_zeros 32 a))
top a p h =
    let t = leading_top 32 a p h in
    let e : 31 - count_leading_zeros 32 a ≡ t.0 = omega (arith, t.1) in
    rw e (omega (arith, t.1), t.2, t.3)

pub overflow_cast-result : goal.overflow_cast-result
overflow_cast-result c = omega (arith, leading_le 32 c.args.word)

pub overflow_sub-result : goal.overflow_sub-result
overflow_sub-result c = omega (arith, (top c.args.word (omega arith) (omega arith)).0)

pub returns : goal.returns
returns c = let t = top c.args.word (omega arith) (omega arith) in (omega (arith, t.0), t.1, t.2)
