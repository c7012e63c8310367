-- `reachrows::all_rows` meets its contract: before cell a, the rows of the cells below a are stored, each by the rule and its turned row. Assumes nothing.
use mathlib.Core.Path.{refl, ap, ◌∙◌}
use mathlib.Core.List.{List}
use Prim.Native.Nat.{ℕ}
use native.Mathlib.Omega.{arith}
use lib.ListN.{get_or, length-set}
use Rattle.laws.specs.Bits.{bit_in}
use Rattle.laws.proofs.Stores.{sets-none, sets_more}
use Rattle.square.proofs.Square.{turned_bit}
use Rattle.reachrows.proofs.Rule.{row_one}
use Rattle.reachrows.proofs.all_rows.Invariants.{row_in}
use Rattle.reachrows.proofs.all_rows.Goals as goal

pub loop-a-init : goal.loop-a-init
loop-a-init c = (omega arith, refl, sets-none _ _)

pub loop-a-preserved : goal.loop-a-preserved
loop-a-preserved c = let args = c.args in
    let reach = args.reach in
    let columns = c.turned-columns in (
      omega arith,
      length-set c.loop-a.rows c.loop-a.a _ ∙ c.loop-a.invariant.1,
      sets_more (row_in reach args.cells) c.loop-a.a _ c.loop-a.rows _
          (c.clash_row.ensures
          ∙ row_one reach (get_or columns.result c.loop-a.a 0) args.cells c.loop-a.a (λ b l.
          ap (λ (z : List ℕ). bit_in z c.loop-a.a b) columns.ensures ∙ turned_bit reach c.loop-a.a b (omega arith) (omega arith)))
          c.loop-a.invariant.2,
    )
