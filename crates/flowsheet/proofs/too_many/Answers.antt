-- `flowsheet::too_many-law` meets its contract: the definition. Assumes nothing.
use Rattle.flowsheet.proofs.too_many.Goals as goal

pub returns : goal.returns
returns c = rw c.empty.ensures
