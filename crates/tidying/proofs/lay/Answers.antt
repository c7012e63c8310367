-- `tidying::lay` meets its contract: room for all of it, or none is laid. Assumes nothing.
use mathlib.Core.Path.{◌∙◌}
use Rattle.records.proofs.Write.{laid_done, laid-short}
use Rattle.tidying.proofs.Read.{laid_out, not-laid-out}
use Rattle.tidying.proofs.lay.Goals as goal

pub returns-then-out-need : goal.returns-then-out-need
returns-then-out-need c = record { answer = not-laid-out _ _ c.if-out-need.true; out = laid-short _ _ c.if-out-need.true }

pub returns : goal.returns
returns c = let room = c.if-out-need.false in record { answer = laid_out _ _ room; out = c.put_text.ensures.stored ∙ laid_done _ _ room }
