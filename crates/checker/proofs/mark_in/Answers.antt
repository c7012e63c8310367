-- `checker::mark_in` meets its contract: a case for each value of the bit. Assumes nothing.
use borrow.Author.Tests.{eq-eqb, ne_eqb}
use Rattle.checker.proofs.mark_in.Goals as goal

pub returns-then-word-p-eq1 : goal.returns-then-word-p-eq1
returns-then-word-p-eq1 c = rw (eq-eqb _ _ c.if-word-p-eq1.true)

pub returns : goal.returns
returns c = rw (ne_eqb _ _ c.if-word-p-eq1.false)
