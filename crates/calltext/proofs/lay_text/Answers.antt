-- `calltext::lay_text` meets its contract: room for all of it, or none is laid. Assumes nothing.
use mathlib.Core.Path.{refl, ◌∙◌}
use Rattle.records.proofs.Write.{written-done, written-short, laid_done, laid-short}
use Rattle.calltext.proofs.lay_text.Goals as goal

pub returns-then-out-need : goal.returns-then-out-need
returns-then-out-need c = record { answer = written-short _ _ _ refl c.if-out-need.true; out = laid-short _ _ c.if-out-need.true }

pub returns : goal.returns
returns c = let room = c.if-out-need.false in record { answer = written-done _ _ _ refl room; out = c.put_text.ensures.stored ∙ laid_done _ _ room }
