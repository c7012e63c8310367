-- `reachrows::faults_in` meets its contract: before row k, what is joined is 0 only where no row below k is at fault. Assumes nothing.
use mathlib.Core.Path.{◌≡◌}
use mathlib.Core.Bool.{false}
use lib.ListN.{get_or}
use Rattle.reachrows.specs.Rows.{row_bad}
use Rattle.reachrows.proofs.Pass.{one_more}
use Rattle.reachrows.proofs.faults_in.Goals as goal

pub loop-k-preserved : goal.loop-k-preserved
loop-k-preserved c = let a = c.args in
    one_more (λ j. row_bad a.cells (get_or a.reach.now j 0) j ≡ false) 0 c.loop-k.k c.loop-k.all _ c.loop-k.invariant c.fault_bits-all.ensures
