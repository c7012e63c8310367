-- `checker::mark_held` meets its contract: before cell i, the positions that a cell below i reserves are marked. Assumes nothing.
use mathlib.Core.Path.{◌≡◌, refl, ◌∙◌}
use native.Mathlib.Omega.{arith}
use Rattle.laws.proofs.Grid.{row_before}
use Rattle.laws.proofs.Stores.{sets-long}
use Rattle.checker.proofs.Barred.{held_none, held_more}
use Rattle.checker.proofs.mark_held.Goals as goal

pub loop-i-init : goal.loop-i-init
loop-i-init c = let a = c.args in
    (omega arith, refl, held_none a.n a.table.now a.from a.m a.marks.now c.requires.zeros)

pub overflow_mul-i : goal.overflow_mul-i
overflow_mul-i c = omega (arith, row_before c.args.n c.loop-i-test.true)

pub overflow_add-i : goal.overflow_add-i
overflow_add-i c = omega (arith, row_before c.args.n c.loop-i-test.true)

pub hold_row-requires : goal.hold_row-requires
hold_row-requires c = omega (arith, row_before c.args.n c.loop-i-test.true)

pub loop-i-preserved : goal.loop-i-preserved
loop-i-preserved c = let l = c.loop-i in
    let a = c.args in (
      omega arith,
      sets-long _ a.m l.marks _ c.hold_row.ensures ∙ l.invariant.1,
      held_more a.n a.table.now a.from a.m l.i l.marks c.hold_row.new.marks (omega arith) l.invariant.2 c.hold_row.ensures,
    )

pub returns : goal.returns
returns c = let e : c.loop-i.i ≡ c.args.cells = omega arith in
    rw e at c.loop-i.invariant.2
