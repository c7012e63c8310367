-- `loads::loads_of_many` meets its contract: before cell j, the loads of the cells below j, each at most 65,535. Assumes nothing.
use Prim.Native.Nat.{◌-◌, ◌*◌, ◌≤◌}
use mathlib.Core.Path.{◌≡◌}
use Rattle.loads.specs.Loads.{loads_below}
use Rattle.loads.proofs.loads_of_many.Given as goal

abbrev pub invariant-loop-j : goal.invariant-loop-j
invariant-loop-j l = (l.sum ≡ loads_below l.loads l.word l.j) × (l.sum ≤ 65535 * l.j) × (l.j ≤ 32)

abbrev pub decreases-loop-j : goal.decreases-loop-j
decreases-loop-j l = 32 - l.j
