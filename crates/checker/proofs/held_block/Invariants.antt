-- `checker::held_block` meets its contract: before cell i, the words have what the cells below it reserve. Assumes nothing.
use mathlib.Core.Path.{◌≡◌}
use Prim.Native.Nat.{◌+◌, ◌-◌, ◌≤◌}
use Rattle.laws.specs.Bits.{word_of}
use Rattle.blocks.specs.Order.{low_order, high_order}
use Rattle.checker.specs.Marks.{held_in}
use Rattle.checker.proofs.held_block.Given as goal

abbrev pub invariant-loop-i : goal.invariant-loop-i
invariant-loop-i l = (l.i ≤ l.cells)
    × (l.low ≡ word_of (low_order (λ k. held_in l.i l.n l.table (l.from + k))) 64)
    × (l.high ≡ word_of (high_order (λ k. held_in l.i l.n l.table (l.from + k))) 64)

abbrev pub decreases-loop-i : goal.decreases-loop-i
decreases-loop-i l = l.cells - l.i
