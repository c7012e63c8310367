-- `rowcounts::one` meets its contract: the test is the definition's. Assumes nothing.
use mathlib.Core.Path.{refl}
use Rattle.rowcounts.proofs.one.Goals as goal

pub returns : goal.returns
returns c = refl
