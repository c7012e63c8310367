-- `say_answers::short_row` meets its contract: a case for each way out. Assumes nothing.
use borrow.Author.Tests.{eq-eqb, ne_eqb}
use Rattle.say_answers.proofs.short_row.Goals as goal

pub returns-then-call-eq-MEND_CALL : goal.returns-then-call-eq-MEND_CALL
returns-then-call-eq-MEND_CALL c = rw (eq-eqb _ _ c.if-call-eq-MEND_CALL.true)

pub returns : goal.returns
returns c = rw (ne_eqb _ _ c.if-call-eq-MEND_CALL.false)
