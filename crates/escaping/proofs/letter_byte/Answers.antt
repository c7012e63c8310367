-- `escaping::letter_byte` meets its contract: a case for each way out. Assumes nothing.
use borrow.Author.Tests.{eq-eqb, ne_eqb}
use Rattle.escaping.proofs.letter_byte.Goals as goal

pub returns-then-size-eq0 : goal.returns-then-size-eq0
returns-then-size-eq0 c = rw (eq-eqb _ 0 c.if-size-eq0.true)

pub returns : goal.returns
returns c = rw (ne_eqb _ 0 c.if-size-eq0.false)
