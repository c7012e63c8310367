-- `say_audit::takes_line` meets its contract: a case for each way out. Assumes nothing.
use borrow.Author.Tests.{eq-eqb, ne_eqb}
use Rattle.say_audit.specs.Said.{takes_of_phrase}
use Rattle.say_audit.proofs.takes_line.Goals as goal

pub returns-then-takes : goal.returns-then-takes
unfolding takes_of_phrase
returns-then-takes c = rw (eq-eqb _ _ c.if-takes.true)

pub returns : goal.returns
unfolding takes_of_phrase
returns c = rw (ne_eqb _ _ c.if-takes.false)
