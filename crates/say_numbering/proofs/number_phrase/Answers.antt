-- `say_numbering::number_phrase` meets its contract: 0 is no number. Assumes nothing.
use borrow.Author.Tests.{eq-eqb, ne_eqb}
use Rattle.say_numbering.proofs.number_phrase.Goals as goal

pub returns-then-number-eq0 : goal.returns-then-number-eq0
returns-then-number-eq0 c = rw (eq-eqb c.args.number 0 c.if-number-eq0.true)

pub returns : goal.returns
returns c = rw (ne_eqb c.args.number 0 c.if-number-eq0.false)
