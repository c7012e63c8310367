-- `say_answers::search_row` meets its contract: a case for each way out. Assumes nothing.
use borrow.Author.Tests.{eq-eqb, ne_eqb}
use Rattle.say_answers.proofs.search_row.Goals as goal

pub returns-then-a-eq1 : goal.returns-then-a-eq1
returns-then-a-eq1 c = rw (eq-eqb _ _ c.if-a-eq1.true)

pub returns : goal.returns
returns c = rw (ne_eqb _ _ c.if-a-eq1.false)
