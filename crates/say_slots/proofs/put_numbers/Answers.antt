-- `say_slots::put_numbers` meets its contract: before a slot, the numbers of the slots below it are put. Assumes nothing.
use Prim.Native.Nat.{◌+◌, ◌*◌}
use native.Mathlib.Omega.{arith}
use Rattle.faults.specs.Faults.{in_turn}
use Rattle.faults.proofs.InTurn.{turn_more}
use Rattle.phrases.specs.Phrases.{phrase}
use Rattle.phrases.proofs.Put.{put_both, put-wide, put-none}
use Rattle.drawing.specs.Lines.{band_lines}
use Rattle.drawing.specs.Slots.{slot_phrase, slot_numbers}
use Rattle.say_slots.proofs.put_numbers.Goals as goal

pub loop-slot-init : goal.loop-slot-init
unfolding in_turn
loop-slot-init c = put-none _ _ _

pub loop-slot-preserved : goal.loop-slot-preserved
loop-slot-preserved c = let a = c.args in
    let k = c.loop-slot.slot in
    rw (turn_more (λ slot. phrase band_lines (slot_phrase a.site slot)) k)
    (put-wide (490 * (k + 1)) (omega arith)
    (put_both (slot_numbers a.site k) _ c.loop-slot.invariant (rw c.slot_phrase.ensures at c.put_frame-next.ensures)))
