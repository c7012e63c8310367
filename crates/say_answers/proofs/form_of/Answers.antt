-- `say_answers::form_of` meets its contract: a case for each way out. Assumes nothing.
use borrow.Author.Tests.{eq-eqb, ne_eqb}
use Rattle.say_answers.proofs.form_of.Goals as goal

pub returns-then-call-eq-LEAST_CALL : goal.returns-then-call-eq-LEAST_CALL
returns-then-call-eq-LEAST_CALL c = rw (eq-eqb _ _ c.if-call-eq-LEAST_CALL.true)

pub returns : goal.returns
returns c = rw (ne_eqb _ _ c.if-call-eq-LEAST_CALL.false)
