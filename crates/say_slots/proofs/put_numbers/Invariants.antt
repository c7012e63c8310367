-- `say_slots::put_numbers` meets its contract: before a slot, the numbers of the slots below it are put. Assumes nothing.
use Prim.Native.Nat.{◌*◌}
use Rattle.phrases.specs.Put.{Put}
use Rattle.drawing.specs.Slots.{slot_numbers}
use Rattle.say_slots.proofs.put_numbers.Given as goal

abbrev pub invariant-loop-slot : goal.invariant-loop-slot
invariant-loop-slot l = Put l.initial.out l.at (slot_numbers l.site l.slot) (490 * l.slot) l.out l.next
