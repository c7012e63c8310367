-- `loads::loads_of_many` meets its contract: before cell j, the loads of the cells below j, each at most 65,535. Assumes nothing.
use Prim.Native.Nat.{ℕ, ◌+◌}
use mathlib.Core.Path.{refl, ap₂}
use native.Mathlib.Omega.{arith}
use lib.ListN.{get_or}
use Rattle.laws.specs.Bits.{bit_at}
use Rattle.laws.specs.Choice.{pick}
use Rattle.laws.specs.Sum.{sum}
use Rattle.laws.proofs.Sums.{sum_more}
use Rattle.loads.proofs.loads_of_many.Goals as goal

pub loop-j-init : goal.loop-j-init
unfolding sum
loop-j-init c = (refl, omega arith, omega arith)

pub loop-j-preserved : goal.loop-j-preserved
loop-j-preserved c = let args = c.args in
    let step = sum_more (λ j. pick (bit_at args.word j) (get_or args.loads.now j 0) 0) c.loop-j.j in
    (rw step (ap₂ (λ (m n : ℕ). m + n) c.loop-j.invariant.0 c.part-sum.ensures.0), omega arith, omega arith)
