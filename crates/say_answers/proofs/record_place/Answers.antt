-- `say_answers::record_place` meets its contract: a case for each way out. Assumes nothing.
use borrow.Author.Tests.{eq-eqb, ne_eqb}
use Rattle.say_answers.proofs.record_place.Goals as goal

pub returns-then-number-eq2 : goal.returns-then-number-eq2
returns-then-number-eq2 c = rw (eq-eqb _ _ c.if-number-eq2.true)

pub returns-then-number-eq3 : goal.returns-then-number-eq3
returns-then-number-eq3 c = rw (ne_eqb _ _ c.if-number-eq2.false, eq-eqb _ _ c.if-number-eq3.true)

pub returns-then-number-eq20 : goal.returns-then-number-eq20
returns-then-number-eq20 c = rw (ne_eqb _ _ c.if-number-eq2.false, ne_eqb _ _ c.if-number-eq3.false, eq-eqb _ _ c.if-number-eq20.true)

pub returns : goal.returns
returns c = rw (ne_eqb _ _ c.if-number-eq2.false, ne_eqb _ _ c.if-number-eq3.false, ne_eqb _ _ c.if-number-eq20.false)
