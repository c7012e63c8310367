-- `say_answers::own_row` meets its contract: a case for each way out. Assumes nothing.
use borrow.Author.Tests.{eq-eqb, ne_eqb}
use Rattle.say_answers.specs.Said.{own_says}
use Rattle.say_answers.proofs.own_row.Goals as goal

pub returns-then-number-eq5 : goal.returns-then-number-eq5
unfolding own_says
returns-then-number-eq5 c = rw (eq-eqb _ _ c.if-number-eq5.true)

pub returns-then-number-eq6 : goal.returns-then-number-eq6
unfolding own_says
returns-then-number-eq6 c = rw (ne_eqb _ _ c.if-number-eq5.false, eq-eqb _ _ c.if-number-eq6.true)

pub returns-then-number-eq7 : goal.returns-then-number-eq7
unfolding own_says
returns-then-number-eq7 c = rw (ne_eqb _ _ c.if-number-eq5.false, ne_eqb _ _ c.if-number-eq6.false, eq-eqb _ _ c.if-number-eq7.true)

pub returns-then-number-eq22 : goal.returns-then-number-eq22
unfolding own_says
returns-then-number-eq22 c = rw (
  ne_eqb _ _ c.if-number-eq5.false,
  ne_eqb _ _ c.if-number-eq6.false,
  ne_eqb _ _ c.if-number-eq7.false,
  eq-eqb _ _ c.if-number-eq22.true,
)

pub returns-then-number-eq13 : goal.returns-then-number-eq13
unfolding own_says
returns-then-number-eq13 c = rw (
  ne_eqb _ _ c.if-number-eq5.false,
  ne_eqb _ _ c.if-number-eq6.false,
  ne_eqb _ _ c.if-number-eq7.false,
  ne_eqb _ _ c.if-number-eq22.false,
  eq-eqb _ _ c.if-number-eq13.true,
  c.short_row.ensures,
)

pub returns : goal.returns
unfolding own_says
returns c = rw (
  ne_eqb _ _ c.if-number-eq5.false,
  ne_eqb _ _ c.if-number-eq6.false,
  ne_eqb _ _ c.if-number-eq7.false,
  ne_eqb _ _ c.if-number-eq22.false,
  ne_eqb _ _ c.if-number-eq13.false,
)
