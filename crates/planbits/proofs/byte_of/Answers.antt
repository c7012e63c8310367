-- `planbits::byte_of` meets its contract: eight bits are four, and sixteen times four. Assumes nothing.
use Prim.Native.Nat.{◌<◌}
use native.Mathlib.Omega.{arith}
use Rattle.planbits.proofs.Bits.{ones_lt, ones-both}
use Rattle.planbits.proofs.byte_of.Goals as goal

pub overflow_mul-result : goal.overflow_mul-result
overflow_mul-result c =
    let small : (c.four_of-low.result < 16) × (c.four_of-high.result < 16) =
    (rw c.four_of-low.ensures (ones_lt _ 4 _), rw c.four_of-high.ensures (ones_lt _ 4 _)) in
    omega (arith, small)

pub overflow_add-result : goal.overflow_add-result
overflow_add-result c =
    let small : (c.four_of-low.result < 16) × (c.four_of-high.result < 16) =
    (rw c.four_of-low.ensures (ones_lt _ 4 _), rw c.four_of-high.ensures (ones_lt _ 4 _)) in
    omega (arith, small)

pub returns : goal.returns
returns c = let a = c.args in
    omega (arith, ones-both a.table.now 4 4 a.k, c.four_of-low.ensures, c.four_of-high.ensures)
