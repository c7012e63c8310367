-- `say_answers::found_row` meets its contract: a case for each way out. Assumes nothing.
use borrow.Author.Tests.{eq-eqb, ne_eqb}
use Rattle.say_answers.proofs.found_row.Goals as goal

pub returns-then-b-eq2 : goal.returns-then-b-eq2
returns-then-b-eq2 c = rw (eq-eqb _ _ c.if-b-eq2.true)

pub returns-then-b-eq3 : goal.returns-then-b-eq3
returns-then-b-eq3 c = rw (ne_eqb _ _ c.if-b-eq2.false, eq-eqb _ _ c.if-b-eq3.true)

pub returns : goal.returns
returns c = rw (ne_eqb _ _ c.if-b-eq2.false, ne_eqb _ _ c.if-b-eq3.false)
