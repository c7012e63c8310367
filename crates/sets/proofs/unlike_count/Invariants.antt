-- `sets::unlike_count` meets its contract: before word j, what the words below it do not share is counted. Assumes nothing.
use mathlib.Core.Path.{◌≡◌}
use mathlib.Core.Bool.{not}
use Prim.Native.Nat.{◌*◌, ◌-◌, ◌≤◌}
use Rattle.laws.specs.Choice.{pick}
use Rattle.laws.specs.Sum.{count}
use Rattle.sets.specs.Sets.{in_set}
use Rattle.sets.proofs.unlike_count.Given as goal

abbrev pub invariant-loop-j : goal.invariant-loop-j
invariant-loop-j l = (l.j ≤ l.w) × (l.n ≡ count (λ k. pick (in_set l.b k) (not (in_set l.a k)) (in_set l.a k)) (64 * l.j))

abbrev pub decreases-loop-j : goal.decreases-loop-j
decreases-loop-j l = l.w - l.j
