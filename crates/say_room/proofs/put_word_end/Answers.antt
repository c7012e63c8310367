-- `say_room::put_word_end` meets its contract: what is put is the phrase. Assumes nothing.
use Rattle.say_room.proofs.put_word_end.Goals as goal

pub returns : goal.returns
returns c = rw c.word_end.ensures at c.put.ensures
