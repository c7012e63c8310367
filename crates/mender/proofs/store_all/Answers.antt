-- `mender::store_all` meets its contract: at the head of the loop the changes of the cells below j are stored. A row's changes fit the list, since a cell has
-- at most as many as its words have positions. Assumes nothing.
use mathlib.Core.Path.{◌≡◌, refl, ◌∙◌}
use Prim.Native.Nat.{◌*◌, ◌<◌}
use native.Mathlib.Omega.{arith}
use Rattle.laws.proofs.Grid.{row_before}
use Rattle.laws.proofs.Sums.{count_most}
use Rattle.mending.specs.Changes.{changed, changes, follow}
use Rattle.standing.specs.Sets.{stands_in}
use Rattle.changelist.proofs.Lists.{table-cell}
use Rattle.mender.proofs.store_all.Goals as goal

pub loop-j-init : goal.loop-j-init
unfolding changes follow
loop-j-init c = (refl, refl, refl, omega arith)

pub list_cell-requires : goal.list_cell-requires
list_cell-requires c = let l = c.loop-j in
    let a = c.args in
    let inside : l.j < a.cells = c.loop-j-test.true in
    let word = row_before a.w inside in
    let few = count_most (changed (stands_in a.w a.stands.now) (stands_in a.w a.old.now) l.j) (64 * a.w) in record {
      i_bound = (
        omega (arith, inside, c.requires.cells_bound.0),
        c.requires.cells_bound.1,
        c.requires.cells_bound.2,
        omega (arith, row_before a.n inside, c.requires.cells_bound.3, l.invariant.1),
        omega (arith, word, c.requires.cells_bound.4),
        omega (arith, word, c.requires.cells_bound.5),
      );
      row_within = (c.requires.all_within.0 l.j inside, omega (arith, few, c.requires.all_within.1, l.invariant.2));
    }

pub loop-j-preserved : goal.loop-j-preserved
loop-j-preserved c = let l = c.loop-j in
    let a = c.args in (
      table-cell a.w l.j a.stands.now a.old.now a.n a.table.now l.table l.invariant.0 c.list_cell.ensures.table,
      c.list_cell.auto.table ∙ l.invariant.1,
      c.list_cell.auto.list ∙ l.invariant.2,
      omega (arith, c.loop-j-test.true),
    )

pub returns : goal.returns
returns c = let l = c.loop-j in
    let e : l.j ≡ c.args.cells = omega arith in
    rw e at l.invariant.0
