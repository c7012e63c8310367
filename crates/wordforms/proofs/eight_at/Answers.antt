-- `wordforms::eight_at` meets its contract: eight cells are four, and sixteen times four. Assumes nothing.
use Prim.Native.Nat.{◌<◌}
use native.Mathlib.Omega.{arith}
use Rattle.laws.proofs.Words.{word_lt}
use Rattle.wordforms.proofs.Eights.{eight-four}
use Rattle.wordforms.proofs.eight_at.Goals as goal

pub overflow_mul-result : goal.overflow_mul-result
overflow_mul-result c =
    let small : (c.four_at-low.result < 16) × (c.four_at-high.result < 16) =
    (rw c.four_at-low.ensures (word_lt _ 4), rw c.four_at-high.ensures (word_lt _ 4)) in
    omega (arith, small)

pub overflow_add-result : goal.overflow_add-result
overflow_add-result c =
    let small : (c.four_at-low.result < 16) × (c.four_at-high.result < 16) =
    (rw c.four_at-low.ensures (word_lt _ 4), rw c.four_at-high.ensures (word_lt _ 4)) in
    omega (arith, small)

pub returns : goal.returns
returns c = let a = c.args in
    eight-four a.n a.table.now a.i a.k _ _ c.four_at-low.ensures c.four_at-high.ensures
