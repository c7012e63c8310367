-- `changelist::list_all` meets its contract: at the head of the loop the changes of the cells below i are stored and listed. Assumes nothing.
use mathlib.Core.Path.{◌≡◌, refl, ◌∙◌}
use Prim.Native.Nat.{◌-◌, ◌<◌}
use native.Mathlib.Omega.{arith}
use Rattle.laws.specs.Sum.{sum}
use Rattle.laws.proofs.Grid.{row_before}
use Rattle.mending.specs.Changes.{changes, follow}
use Rattle.changelist.proofs.Lists.{table-cell, list-cell, next-cell, room-cell}
use Rattle.changelist.proofs.list_all.Goals as goal

pub loop-i-init : goal.loop-i-init
unfolding changes follow sum
loop-i-init c = (omega arith, refl, refl, refl, refl, refl)

pub list_cell-at-requires : goal.list_cell-at-requires
list_cell-at-requires c = let l = c.loop-i in
    let a = c.args in
    let inside : l.i < a.cells = c.loop-i-test.true in
    let word = row_before a.w inside in record {
      i_bound = (
        omega (arith, inside, c.requires.cells_bound.0),
        c.requires.cells_bound.1,
        c.requires.cells_bound.2,
        omega (arith, row_before a.n inside, c.requires.cells_bound.3, l.invariant.1),
        omega (arith, word, c.requires.cells_bound.4),
        omega (arith, word, c.requires.cells_bound.5),
      );
      row_within = (
        c.requires.all_within.0 l.i inside,
        room-cell a.w l.i a.stands.now a.old.now l.at a.list.now l.list l.invariant.4 l.invariant.5 a.cells inside c.requires.all_within.1,
      );
    }

pub loop-i-preserved : goal.loop-i-preserved
loop-i-preserved c = let l = c.loop-i in
    let a = c.args in (
      omega (arith, c.loop-i-test.true),
      c.list_cell-at.auto.table ∙ l.invariant.1,
      c.list_cell-at.auto.list ∙ l.invariant.2,
      table-cell a.w l.i a.stands.now a.old.now a.n a.table.now l.table l.invariant.3 c.list_cell-at.ensures.table,
      list-cell a.w l.i a.stands.now a.old.now l.at a.list.now l.list l.invariant.4 l.invariant.5 c.list_cell-at.ensures.list,
      next-cell a.w l.i a.stands.now a.old.now l.at a.list.now l.list l.invariant.4 l.invariant.5 c.list_cell-at.ensures.next,
    )

pub returns : goal.returns
returns c = let l = c.loop-i in
    let e : l.i ≡ c.args.cells = omega arith in record { table = rw e at l.invariant.3; list = rw e at l.invariant.4 }
