-- `say_room::put_slots` meets its contract: the two parts of the line. Assumes nothing.
use Rattle.say_room.proofs.put_slots.Goals as goal

pub returns : goal.returns
returns c = rw (c.slots_first-first.ensures, c.slots_second-second.ensures) at c.put_two.ensures
