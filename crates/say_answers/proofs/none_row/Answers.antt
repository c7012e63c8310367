-- `say_answers::none_row` meets its contract: a case for each way out. Assumes nothing.
use borrow.Author.Tests.{eq-eqb, ne_eqb}
use Rattle.say_answers.proofs.none_row.Goals as goal

pub returns-then-b-eq1 : goal.returns-then-b-eq1
returns-then-b-eq1 c = rw (eq-eqb _ _ c.if-b-eq1.true)

pub returns-then-b-eq2 : goal.returns-then-b-eq2
returns-then-b-eq2 c = rw (ne_eqb _ _ c.if-b-eq1.false, eq-eqb _ _ c.if-b-eq2.true)

pub returns : goal.returns
returns c = rw (ne_eqb _ _ c.if-b-eq1.false, ne_eqb _ _ c.if-b-eq2.false)
