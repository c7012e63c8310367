-- `positions::blocked_count` meets its contract: before word j, the positions of the words below it are counted. Assumes nothing.
use mathlib.Core.Path.{◌≡◌}
use Prim.Native.Nat.{◌*◌, ◌-◌, ◌≤◌}
use Rattle.laws.specs.Sum.{count}
use Rattle.positions.specs.Blocked.{blocked_at}
use Rattle.positions.proofs.blocked_count.Given as goal

abbrev pub invariant-loop-j : goal.invariant-loop-j
invariant-loop-j l = (l.j ≤ l.whole) × (l.c ≡ count (blocked_at l.set) (64 * l.j))

abbrev pub decreases-loop-j : goal.decreases-loop-j
decreases-loop-j l = l.whole - l.j
