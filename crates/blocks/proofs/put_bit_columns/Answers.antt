-- `blocks::put_bit_columns` meets its contract: before column at, that many columns are stored. Assumes nothing.
use mathlib.Core.Path.{◌≡◌, refl, ◌∙◌}
use Prim.Native.Nat.{◌+◌, ◌*◌}
use native.Mathlib.Omega.{arith}
use lib.ListN.{length-set}
use Rattle.laws.specs.Bits.{word_of}
use Rattle.laws.proofs.Stores.{sets-none, sets_more}
use Rattle.blocks.specs.Order.{bit_of_two}
use Rattle.blocks.proofs.Columns.{bit-column}
use Rattle.blocks.proofs.put_bit_columns.Goals as goal

pub loop-at-init : goal.loop-at-init
loop-at-init c = (omega arith, refl, sets-none _ _)

pub loop-at-preserved : goal.loop-at-preserved
loop-at-preserved c = let l = c.loop-at in
    let a = c.args in (
      omega arith,
      length-set l.bits l.at _ ∙ l.invariant.1,
      sets_more (λ j. word_of (λ k. bit_of_two a.x a.y (j + 16 * k)) 8) l.at _ l.bits a.bits.now
          (bit-column a.x a.y l.at c.four_bits.result c.four_bits-in-loop-at.result (omega arith) c.four_bits.ensures.0 c.four_bits-in-loop-at.ensures.0)
          l.invariant.2,
    )

pub returns : goal.returns
returns c = let e : c.loop-at.at ≡ 16 = omega arith in
    rw e at c.loop-at.invariant.2
