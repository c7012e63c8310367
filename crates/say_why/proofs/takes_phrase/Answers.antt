-- `say_why::takes_phrase` meets its contract: a case for each way out. Assumes nothing.
use borrow.Author.Tests.{eq-eqb, ne_eqb}
use Rattle.why.specs.Said.{takes_phrase}
use Rattle.say_why.proofs.takes_phrase.Goals as goal

pub returns-then-l-u : goal.returns-then-l-u
unfolding takes_phrase
returns-then-l-u c = rw (eq-eqb c.args.l c.args.u c.if-l-u.true, c.has_row.ensures)

pub returns : goal.returns
unfolding takes_phrase
returns c = rw (ne_eqb c.args.l c.args.u c.if-l-u.false, c.has_row-2.ensures)
