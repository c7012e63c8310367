-- `reachrows::loads_past` meets its contract: before load k, what is joined is 0 only where the loads below k are. Assumes nothing.
use mathlib.Core.Path.{◌≡◌}
use lib.ListN.{get_or}
use Rattle.reachrows.proofs.Pass.{one_more}
use Rattle.reachrows.proofs.loads_past.Goals as goal

pub loop-k-preserved : goal.loop-k-preserved
loop-k-preserved c = let a = c.args in
    one_more (λ j. get_or a.loads.now j 0 ≡ 0) a.cells c.loop-k.k c.loop-k.all _ c.loop-k.invariant (λ e. e)
