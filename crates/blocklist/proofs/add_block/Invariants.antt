-- `blocklist::add_block` meets its contract: before word j, the words below it are joined. Assumes nothing.
use mathlib.Core.Path.{◌≡◌}
use Prim.Native.Nat.{◌-◌, ◌≤◌}
use Rattle.blocklist.proofs.Steps.{joined_to}
use Rattle.blocklist.proofs.add_block.Given as goal

abbrev pub invariant-loop-j : goal.invariant-loop-j
invariant-loop-j l = (l.j ≤ 32) × (l.set ≡ joined_to l.channels l.block l.initial.set l.j)

abbrev pub decreases-loop-j : goal.decreases-loop-j
decreases-loop-j l = 32 - l.j
