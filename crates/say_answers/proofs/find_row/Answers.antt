-- `say_answers::find_row` meets its contract: a case for each way out. Assumes nothing.
use borrow.Author.Tests.{eq-eqb, ne_eqb}
use Rattle.say_answers.proofs.find_row.Goals as goal

pub returns-then-a-eq0 : goal.returns-then-a-eq0
returns-then-a-eq0 c = rw (eq-eqb _ _ c.if-a-eq0.true, c.found_row.ensures)

pub returns-then-a-eq1 : goal.returns-then-a-eq1
returns-then-a-eq1 c = rw (ne_eqb _ _ c.if-a-eq0.false, eq-eqb _ _ c.if-a-eq1.true, c.none_row.ensures)

pub returns : goal.returns
returns c = rw (ne_eqb _ _ c.if-a-eq0.false, ne_eqb _ _ c.if-a-eq1.false)
