-- `reachrows::loads_past` meets its contract: before load k, what is joined is 0 only where the loads below k are. Assumes nothing.
use mathlib.Core.Path.{◌≡◌}
use Prim.Native.Nat.{ℕ, ◌-◌, ◌≤◌, ◌<◌}
use lib.ListN.{get_or}
use Rattle.reachrows.proofs.loads_past.Given as goal

abbrev pub invariant-loop-k : goal.invariant-loop-k
invariant-loop-k l = l.all ≡ 0 → (j : ℕ) → l.cells ≤ j → j < l.k → get_or l.loads j 0 ≡ 0

abbrev pub decreases-loop-k : goal.decreases-loop-k
decreases-loop-k l = 32 - l.k
