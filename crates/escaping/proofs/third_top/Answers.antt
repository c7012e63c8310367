-- `escaping::third_top` meets its contract: a case for each way out. Assumes nothing.
use borrow.Author.Tests.{eq-eqb, ne_eqb}
use Rattle.escaping.proofs.third_top.Goals as goal

pub returns-then-b-eq191 : goal.returns-then-b-eq191
returns-then-b-eq191 c = rw (eq-eqb _ 239 c.if-a-eq239.true, eq-eqb _ 191 c.if-b-eq191.true)

pub returns-else-b-eq191 : goal.returns-else-b-eq191
returns-else-b-eq191 c = rw (eq-eqb _ 239 c.if-a-eq239.true, ne_eqb _ 191 c.if-b-eq191.false)

pub returns-else-a-eq239 : goal.returns-else-a-eq239
returns-else-a-eq239 c = rw (ne_eqb _ 239 c.if-a-eq239.false)
