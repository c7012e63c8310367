-- `say_search::tries_phrase` meets its contract: a case for each way out. Assumes nothing.
use borrow.Author.Tests.{eq-eqb, ne_eqb}
use Rattle.say_search.proofs.tries_phrase.Goals as goal

pub returns-then-tries-eq1 : goal.returns-then-tries-eq1
returns-then-tries-eq1 c = rw (eq-eqb _ 1 c.if-tries-eq1.true)

pub returns : goal.returns
returns c = rw (ne_eqb _ 1 c.if-tries-eq1.false)
