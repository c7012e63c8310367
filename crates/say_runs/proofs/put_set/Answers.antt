-- `say_runs::put_set` meets its contract: the numbers are put of the word's bits. Assumes nothing.
use Rattle.say_runs.proofs.put_set.Goals as goal

pub returns : goal.returns
returns c = rw c.lay_bits.ensures at c.put_numbers.ensures
