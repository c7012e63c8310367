-- `say_room::put_open` meets its contract: the two parts of the line. Assumes nothing.
use Rattle.say_room.proofs.put_open.Goals as goal

pub returns : goal.returns
returns c = rw (c.beside_phrase-first.ensures, c.fewer_phrase-second.ensures) at c.put_two.ensures
