-- `say_slots::slot_wide` meets its contract: it is a minimum, as it is said. Assumes nothing.
use native.Mathlib.Omega.{arith}
use Rattle.drawing.specs.Places.{slot_wide}
use Rattle.say_slots.proofs.slot_wide.Goals as goal

pub returns : goal.returns
unfolding slot_wide
returns c = omega (arith, c.min.ensures)
