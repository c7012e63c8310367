-- The room for text keeps its length.
use Rattle.std.proofs.Common.{length, ◌-◌, ◌≤◌, ◌≡◌}
use Rattle.showdesk.proofs.show.put_grid.Given as goal

abbrev pub invariant-loop-from : goal.invariant-loop-from
invariant-loop-from l = (l.from ≤ l.slots) × (length l.text ≡ length l.initial.text)

abbrev pub decreases-loop-from : goal.decreases-loop-from
decreases-loop-from l = l.slots - l.from
