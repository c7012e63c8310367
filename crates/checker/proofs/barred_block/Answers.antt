-- `checker::barred_block` meets its contract: the lowest position that the block of the words and the block of the cells share. Assumes nothing.
use mathlib.Core.Path.{◌∙◌}
use Prim.Native.Nat.{◌+◌}
use Rattle.blocks.specs.Order.{bit_of_two}
use Rattle.checker.specs.Marks.{held_in}
use Rattle.checker.proofs.Barred.{two_none, two-shared}
use Rattle.checker.proofs.barred_block.Goals as goal

pub returns-then-x-y-eq0 : goal.returns-then-x-y-eq0
returns-then-x-y-eq0 c = let a = c.args in
    two_none a.x a.y (λ k. held_in a.cells a.n a.table.now (a.from + k)) c.if-x-y-eq0.true

pub returns : goal.returns
returns c = let a = c.args in
    c.lowest_place.ensures
    ∙ two-shared (bit_of_two a.x a.y) (λ k. held_in a.cells a.n a.table.now (a.from + k)) c.block_of_bits-shut.result.low
    c.block_of_bits-shut.result.high c.held_block-held.result.low c.held_block-held.result.high c.block_of_bits-shut.ensures.low
    c.block_of_bits-shut.ensures.high
    c.held_block-held.ensures.low c.held_block-held.ensures.high
