-- `reachrows::faults_in` meets its contract: before row k, what is joined is 0 only where no row below k is at fault. Assumes nothing.
use mathlib.Core.Path.{◌≡◌}
use mathlib.Core.Bool.{false}
use Prim.Native.Nat.{ℕ, ◌-◌, ◌≤◌, ◌<◌}
use lib.ListN.{get_or}
use Rattle.reachrows.specs.Rows.{row_bad}
use Rattle.reachrows.proofs.faults_in.Given as goal

abbrev pub invariant-loop-k : goal.invariant-loop-k
invariant-loop-k l = l.all ≡ 0 → (j : ℕ) → 0 ≤ j → j < l.k → row_bad l.cells (get_or l.reach j 0) j ≡ false

abbrev pub decreases-loop-k : goal.decreases-loop-k
decreases-loop-k l = 32 - l.k
