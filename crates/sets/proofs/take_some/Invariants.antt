-- `sets::take_some` meets its contract: before word j, the words below it have the first m positions, and what is left of m is known. Assumes nothing.
use mathlib.Core.Path.{◌≡◌}
use Prim.Native.Nat.{◌*◌, ◌-◌, ◌≤◌}
use lib.ListN.{length}
use lib.Seq.{sets}
use Rattle.laws.specs.Few.{first_few}
use Rattle.laws.specs.Sum.{count}
use Rattle.sets.specs.Sets.{in_set, set_in}
use Rattle.sets.proofs.take_some.Given as goal

abbrev pub invariant-loop-j : goal.invariant-loop-j
invariant-loop-j l = (l.j ≤ l.w) × (length l.set ≡ length l.initial.set) × (l.set ≡ sets l.initial.set 0 (set_in (first_few (in_set l.initial.set) l.m) l.j)) ×
    (l.left ≡ l.m - count (in_set l.initial.set) (64 * l.j))

abbrev pub decreases-loop-j : goal.decreases-loop-j
decreases-loop-j l = l.w - l.j
