-- `escaping::second_low` meets its contract: a case for each way out. Assumes nothing.
use borrow.Author.Tests.{eq-eqb, ne_eqb}
use Rattle.escaping.proofs.second_low.Goals as goal

pub returns-then-a-eq194 : goal.returns-then-a-eq194
returns-then-a-eq194 c = rw (eq-eqb _ 194 c.if-a-eq194.true)

pub returns-then-a-eq224 : goal.returns-then-a-eq224
returns-then-a-eq224 c = rw (ne_eqb _ 194 c.if-a-eq194.false, eq-eqb _ 224 c.if-a-eq224.true)

pub returns-then-a-eq240 : goal.returns-then-a-eq240
returns-then-a-eq240 c = rw (ne_eqb _ 194 c.if-a-eq194.false, ne_eqb _ 224 c.if-a-eq224.false, eq-eqb _ 240 c.if-a-eq240.true)

pub returns : goal.returns
returns c = rw (ne_eqb _ 194 c.if-a-eq194.false, ne_eqb _ 224 c.if-a-eq224.false, ne_eqb _ 240 c.if-a-eq240.false)
