-- `say_clashes::put_clash_count` meets its contract: the number that is put is that of the clashes. Assumes nothing.
use Rattle.say_clashes.proofs.put_clash_count.Goals as goal

pub returns : goal.returns
returns c = rw (c.count_phrase.ensures, c.clash_count-number.ensures) at c.put.ensures
