-- `say_clashes::count_phrase` meets its contract: one clash has a row of its own. Assumes nothing.
use borrow.Author.Tests.{eq-eqb, ne_eqb}
use Rattle.say_clashes.proofs.count_phrase.Goals as goal

pub returns-then-number-eq1 : goal.returns-then-number-eq1
returns-then-number-eq1 c = rw (eq-eqb c.args.number 1 c.if-number-eq1.true)

pub returns : goal.returns
returns c = rw (ne_eqb c.args.number 1 c.if-number-eq1.false)
