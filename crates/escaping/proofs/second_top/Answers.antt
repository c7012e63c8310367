-- `escaping::second_top` meets its contract: a case for each way out. Assumes nothing.
use borrow.Author.Tests.{eq-eqb, ne_eqb}
use Rattle.escaping.proofs.second_top.Goals as goal

pub returns-then-a-eq237 : goal.returns-then-a-eq237
returns-then-a-eq237 c = rw (eq-eqb _ 237 c.if-a-eq237.true)

pub returns-then-a-eq244 : goal.returns-then-a-eq244
returns-then-a-eq244 c = rw (ne_eqb _ 237 c.if-a-eq237.false, eq-eqb _ 244 c.if-a-eq244.true)

pub returns : goal.returns
returns c = rw (ne_eqb _ 237 c.if-a-eq237.false, ne_eqb _ 244 c.if-a-eq244.false)
