-- `positions::joined` meets its contract: before word j, those below it are joined. Assumes nothing.
use mathlib.Core.Path.{◌≡◌}
use mathlib.Core.Bool.{not}
use Prim.Native.Nat.{◌*◌, ◌-◌, ◌≤◌}
use lib.Dec.{eqb}
use Rattle.laws.specs.Sum.{any}
use Rattle.positions.specs.Blocked.{blocked_at}
use Rattle.positions.proofs.joined.Given as goal

abbrev pub invariant-loop-j : goal.invariant-loop-j
invariant-loop-j l = (l.j ≤ 32) × (eqb l.all 0 ≡ not (any (blocked_at l.set) (64 * l.j)))

abbrev pub decreases-loop-j : goal.decreases-loop-j
decreases-loop-j l = 32 - l.j
