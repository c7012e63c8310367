-- `reachrows::some_rows` meets its contract: before cell a, the rows of the cells below a are stored, each by the rule and its column. Assumes nothing.
use mathlib.Core.Path.{refl, ◌∙◌}
use native.Mathlib.Omega.{arith}
use lib.ListN.{length-set}
use Rattle.laws.proofs.Stores.{sets-none, sets_more}
use Rattle.reachrows.proofs.Rule.{row_one, four-column}
use Rattle.reachrows.proofs.some_rows.Invariants.{row_in}
use Rattle.reachrows.proofs.some_rows.Goals as goal

pub loop-a-init : goal.loop-a-init
loop-a-init c = (omega arith, refl, sets-none _ _)

pub loop-a-preserved : goal.loop-a-preserved
loop-a-preserved c = let args = c.args in
    let reach = args.reach.now in
    let fours = c.turned_fours-fours in
    let column = c.row_in in (
      omega arith,
      length-set c.loop-a.rows c.loop-a.a _ ∙ c.loop-a.invariant.1,
      sets_more (row_in reach args.cells) c.loop-a.a _ c.loop-a.rows _
          (c.clash_row.ensures
          ∙ row_one reach column.result args.cells c.loop-a.a (λ b l.
          four-column reach fours.result column.result c.loop-a.a b (omega arith) (omega arith) fours.ensures column.ensures))
          c.loop-a.invariant.2,
    )
