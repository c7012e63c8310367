-- `sets::set_size` meets its contract: before word j, the positions of the words below it are counted. Assumes nothing.
use mathlib.Core.Path.{◌≡◌}
use Prim.Native.Nat.{◌*◌, ◌-◌, ◌≤◌}
use Rattle.laws.specs.Sum.{count}
use Rattle.sets.specs.Sets.{in_set}
use Rattle.sets.proofs.set_size.Given as goal

abbrev pub invariant-loop-j : goal.invariant-loop-j
invariant-loop-j l = (l.j ≤ l.w) × (l.n ≡ count (in_set l.set) (64 * l.j))

abbrev pub decreases-loop-j : goal.decreases-loop-j
decreases-loop-j l = l.w - l.j
