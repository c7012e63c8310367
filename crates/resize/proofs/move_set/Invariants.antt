-- `resize::move_set` meets its contract: before word j, the words below it are there. Assumes nothing.
use Prim.Native.Nat.{◌-◌, ◌≤◌}
use mathlib.Core.Path.{◌≡◌}
use lib.Seq.{sets}
use Rattle.laws.specs.Part.{list_of}
use Rattle.positions.specs.Blocked.{word_in}
use Rattle.resize.specs.Sizes.{moved_at}
use Rattle.resize.proofs.move_set.Given as goal

abbrev pub invariant-loop-j : goal.invariant-loop-j
invariant-loop-j l = (l.j ≤ 32) × (l.out ≡ sets l.initial.out 0 (list_of (word_in (moved_at l.set l.slots l.channels l.to)) l.j))

abbrev pub decreases-loop-j : goal.decreases-loop-j
decreases-loop-j l = 32 - l.j
