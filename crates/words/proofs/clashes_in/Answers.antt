-- `words::clashes_in` meets its contract: a case for each way out. Assumes nothing.
use borrow.Author.Tests.{eq-eqb, ne_eqb}
use Rattle.words.specs.Clashes.{clashes_in}
use Rattle.words.proofs.clashes_in.Goals as goal

pub returns-then-word-a-eq1 : goal.returns-then-word-a-eq1
unfolding clashes_in
returns-then-word-a-eq1 c = rw (eq-eqb _ _ c.if-word-a-eq1.true, c.second_in.ensures)

pub returns : goal.returns
unfolding clashes_in
returns c = rw (ne_eqb _ _ c.if-word-a-eq1.false)
