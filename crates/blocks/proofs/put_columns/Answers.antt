-- `blocks::put_columns` meets its contract: before column b, that many columns are stored. Assumes nothing.
use mathlib.Core.Path.{◌≡◌, refl, ◌∙◌}
use Prim.Native.Nat.{◌+◌}
use native.Mathlib.Omega.{arith}
use lib.ListN.{length-set}
use Rattle.laws.proofs.Stores.{sets-none, sets_more}
use Rattle.blocks.specs.Order.{column_at}
use Rattle.blocks.proofs.put_columns.Goals as goal

pub loop-b-init : goal.loop-b-init
loop-b-init c = (omega arith, refl, sets-none _ _)

pub loop-b-preserved : goal.loop-b-preserved
loop-b-preserved c = let l = c.loop-b in
    let a = c.args in (
      omega arith,
      length-set l.bits l.b _ ∙ l.invariant.1,
      sets_more (λ k. column_at a.bytes.now (a.from + k)) l.b _ l.bits a.bits.now c.column.ensures l.invariant.2,
    )

pub returns : goal.returns
returns c = let e : c.loop-b.b ≡ 16 = omega arith in
    rw e at c.loop-b.invariant.2
