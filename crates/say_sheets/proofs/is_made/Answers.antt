-- `say_sheets::is_made` meets its contract: the number of times. Assumes nothing.
use Rattle.say_sheets.proofs.is_made.Goals as goal

pub returns : goal.returns
returns c = rw c.changes_made-c.ensures
