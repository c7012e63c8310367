-- `reachrows::few_rows` meets its contract: before cell a, the rows of the cells below a are stored, each by the rule and its column. Assumes nothing.
use mathlib.Core.Path.{refl, ap, ◌∙◌}
use Prim.Native.Nat.{ℕ}
use native.Mathlib.Omega.{arith}
use lib.ListN.{length-set}
use Rattle.laws.specs.Bits.{bit_at, bit_in}
use Rattle.laws.proofs.Stores.{sets-none, sets_more}
use Rattle.laws.proofs.Words.{word-bit}
use Rattle.reachrows.proofs.Rule.{row_one}
use Rattle.reachrows.proofs.few_rows.Invariants.{row_in}
use Rattle.reachrows.proofs.few_rows.Goals as goal

pub loop-a-init : goal.loop-a-init
loop-a-init c = (omega arith, refl, sets-none _ _)

pub loop-a-preserved : goal.loop-a-preserved
loop-a-preserved c = let args = c.args in
    let reach = args.reach.now in
    let column = c.column in (
      omega arith,
      length-set c.loop-a.rows c.loop-a.a _ ∙ c.loop-a.invariant.1,
      sets_more (row_in reach args.cells) c.loop-a.a _ c.loop-a.rows _
          (c.clash_row.ensures
          ∙ row_one reach column.result args.cells c.loop-a.a (λ b l.
          ap (λ (x : ℕ). bit_at x b) column.ensures ∙ word-bit (λ k. bit_in reach k c.loop-a.a) args.cells b l))
          c.loop-a.invariant.2,
    )
