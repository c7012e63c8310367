-- `checker::held_block` meets its contract: before cell i, the words have what the cells below it reserve. Assumes nothing.
use mathlib.Core.Path.{◌≡◌}
use Prim.Native.Nat.{◌<◌}
use native.Mathlib.Omega.{arith}
use Rattle.laws.proofs.Grid.{row_before}
use Rattle.checker.proofs.Barred.{no_cells, low-more, high-more}
use Rattle.checker.proofs.held_block.Goals as goal

pub loop-i-init : goal.loop-i-init
loop-i-init c = let a = c.args in
    let none = no_cells a.n a.table.now a.from in
    (omega arith, none.0, none.1)

pub overflow_mul-i : goal.overflow_mul-i
overflow_mul-i c =
    let inside : c.loop-i.i < c.args.cells = omega arith in
    omega (arith, row_before c.args.n inside)

pub overflow_add-i : goal.overflow_add-i
overflow_add-i c =
    let inside : c.loop-i.i < c.args.cells = omega arith in
    omega (arith, row_before c.args.n inside)

pub block_of-b-requires : goal.block_of-b-requires
block_of-b-requires c =
    let inside : c.loop-i.i < c.args.cells = omega arith in
    omega (arith, row_before c.args.n inside)

pub loop-i-preserved : goal.loop-i-preserved
loop-i-preserved c = let l = c.loop-i in
    let a = c.args in (
      omega arith,
      low-more a.n a.table.now a.from l.i l.low l.high c.block_of-b.result.low c.block_of-b.result.high l.invariant.1 c.block_of-b.ensures.low,
      high-more a.n a.table.now a.from l.i l.low l.high c.block_of-b.result.low c.block_of-b.result.high l.invariant.2 c.block_of-b.ensures.high,
    )

pub returns : goal.returns
returns c = let e : c.loop-i.i ≡ c.args.cells = omega arith in record { low = rw e at c.loop-i.invariant.1; high = rw e at c.loop-i.invariant.2 }
