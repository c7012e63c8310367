-- `sheet::bad_at` meets its contract: the definition. Assumes nothing.
use Rattle.sheet.specs.Read.{bad_sheet}
use Rattle.sheet.proofs.bad_at.Goals as goal

pub returns : goal.returns
unfolding bad_sheet
returns c = rw c.zeros.ensures
