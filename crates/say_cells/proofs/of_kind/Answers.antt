-- `say_cells::of_kind` meets its contract: an arm for each kind. Assumes nothing.
use Rattle.say_cells.proofs.of_kind.Goals as goal

pub returns-in-Sends : goal.returns-in-Sends
returns-in-Sends c = rw c.in-Sends.is

pub returns-in-Clashing : goal.returns-in-Clashing
returns-in-Clashing c = rw c.in-Clashing.is

pub returns-in-Barred : goal.returns-in-Barred
returns-in-Barred c = rw c.in-Barred.is
