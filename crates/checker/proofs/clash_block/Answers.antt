-- `checker::clash_block` meets its contract: the block that is searched has the positions with a clash. Assumes nothing.
use mathlib.Core.Path.{ap₂, ◌∙◌}
use Prim.Native.Nat.{ℕ, ◌+◌, zero-le}
use Rattle.laws.proofs.Search.{first-same}
use Rattle.blocks.specs.Order.{placed}
use Rattle.blocks.proofs.Places.{placed-is}
use Rattle.checker.specs.Marks.{clashing_in}
use Rattle.checker.proofs.clash_block.Goals as goal

pub returns : goal.returns
returns c = let a = c.args in
    c.lowest_place.ensures
    ∙ first-same (placed c.block_clash-met.result.low c.block_clash-met.result.high)
    (λ k. clashing_in a.cells a.n a.clash.now a.table.now (a.at + k)) 0 128 zero-le
    (λ k _ l. ap₂ (λ (x y : ℕ). placed x y k) c.block_clash-met.ensures.low c.block_clash-met.ensures.high
    ∙ placed-is (λ j. clashing_in a.cells a.n a.clash.now a.table.now (a.at + j)) k l)
