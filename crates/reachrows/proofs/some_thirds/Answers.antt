-- `reachrows::some_thirds` meets its contract: before cell a, the rows of the cells below a are stored, each by rule 2, its column and the cells that reach a
-- third cell with it. Assumes nothing.
use mathlib.Core.Path.{refl, ◌∙◌}
use native.Mathlib.Omega.{arith}
use lib.Bits.{bit_or}
use lib.ListN.{length-set}
use Rattle.laws.proofs.Stores.{sets-none, sets_more}
use Rattle.reachrows.proofs.Rule.{row-rule, with-thirds, four-column}
use Rattle.reachrows.proofs.some_thirds.Invariants.{row_in}
use Rattle.reachrows.proofs.some_thirds.Goals as goal

pub loop-a-init : goal.loop-a-init
loop-a-init c = (omega arith, refl, sets-none _ _)

pub loop-a-preserved : goal.loop-a-preserved
loop-a-preserved c = let args = c.args in
    let reach = args.reach.now in
    let fours = c.turned_fours-fours in
    let thirds = c.with_third in
    let column = c.row_in in (
      omega arith,
      length-set c.loop-a.rows c.loop-a.a _ ∙ c.loop-a.invariant.1,
      sets_more (row_in reach args.cells) c.loop-a.a _ c.loop-a.rows _
          (c.clash_row.ensures
          ∙ row-rule 2 reach (bit_or column.result thirds.result) args.cells c.loop-a.a (λ b l.
          with-thirds reach column.result thirds.result args.cells c.loop-a.a b l
          (four-column reach fours.result column.result c.loop-a.a b (omega arith) (omega arith) fours.ensures column.ensures)
          thirds.ensures))
          c.loop-a.invariant.2,
    )
