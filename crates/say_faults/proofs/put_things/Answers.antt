-- `say_faults::put_things` meets its contract: the number that is put is that of the faults. Assumes nothing.
use Rattle.say_faults.proofs.put_things.Goals as goal

pub returns : goal.returns
returns c = rw c.fault_count-number.ensures at c.put_number.ensures
