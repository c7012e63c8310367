-- `escaping::is_one` meets its contract: a case for each way out. Assumes nothing.
use borrow.Author.Tests.{eq-eqb, ne_eqb}
use Rattle.escaping.specs.Letters.{is_one}
use Rattle.escaping.proofs.is_one.Goals as goal

pub returns-then-a-eq10 : goal.returns-then-a-eq10
unfolding is_one
returns-then-a-eq10 c = rw (eq-eqb _ 10 c.if-a-eq10.true)

pub returns-then-a-eq9 : goal.returns-then-a-eq9
unfolding is_one
returns-then-a-eq9 c = rw (ne_eqb _ 10 c.if-a-eq10.false, eq-eqb _ 9 c.if-a-eq9.true)

pub returns : goal.returns
unfolding is_one
returns c = rw (ne_eqb _ 10 c.if-a-eq10.false, ne_eqb _ 9 c.if-a-eq9.false) c.is_between.ensures
