-- `flowsheet::bad_at` meets its contract: the definition. Assumes nothing.
use Rattle.flowsheet.proofs.bad_at.Goals as goal

pub returns : goal.returns
returns c = rw c.empty.ensures
