-- `say_slots::put_marks` meets its contract: before a slot, the runs that begin below it are put, and one begins there if it has the mark. Assumes nothing.
use mathlib.Core.Path.{◌≡◌}
use Prim.Native.Nat.{◌-◌, ◌*◌, ◌≤◌, ◌<◌}
use Rattle.phrases.specs.Put.{Put}
use Rattle.drawing.specs.Slots.{marked_in, run_begins, marks_of_kind}
use Rattle.say_slots.proofs.put_marks.Given as goal

abbrev pub invariant-loop-slot : goal.invariant-loop-slot
invariant-loop-slot l = (l.slot ≤ l.slots)
    × Put l.initial.out l.at (marks_of_kind l.site l.table l.mark l.i l.channel l.slot) (480 * l.slot) l.out l.next
    × (l.slot < l.slots → run_begins l.site l.table l.mark l.i l.channel l.slot ≡ marked_in l.site l.table l.mark l.i l.channel l.slot)

abbrev pub decreases-loop-slot : goal.decreases-loop-slot
decreases-loop-slot l = l.slots - l.slot
