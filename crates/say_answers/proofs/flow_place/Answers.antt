-- `say_answers::flow_place` meets its contract: a case for each way out. Assumes nothing.
use borrow.Author.Tests.{eq-eqb, ne_eqb}
use Rattle.say_answers.proofs.flow_place.Goals as goal

pub returns-then-number-eq15 : goal.returns-then-number-eq15
returns-then-number-eq15 c = rw (eq-eqb _ _ c.if-number-eq15.true)

pub returns-then-number-eq16 : goal.returns-then-number-eq16
returns-then-number-eq16 c = rw (ne_eqb _ _ c.if-number-eq15.false, eq-eqb _ _ c.if-number-eq16.true)

pub returns-then-number-eq2 : goal.returns-then-number-eq2
returns-then-number-eq2 c = rw (ne_eqb _ _ c.if-number-eq15.false, ne_eqb _ _ c.if-number-eq16.false, eq-eqb _ _ c.if-number-eq2.true)

pub returns : goal.returns
returns c = rw (
  c.record_place.ensures,
  ne_eqb _ _ c.if-number-eq15.false,
  ne_eqb _ _ c.if-number-eq16.false,
  ne_eqb _ _ c.if-number-eq2.false,
)
