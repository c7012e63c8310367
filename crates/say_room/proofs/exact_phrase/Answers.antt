-- `say_room::exact_phrase` meets its contract: a case for each way out. Assumes nothing.
use borrow.Author.Tests.{eq-eqb, ne_eqb}
use Rattle.say_room.proofs.exact_phrase.Goals as goal

pub returns-then-m-eq0 : goal.returns-then-m-eq0
returns-then-m-eq0 c = rw (eq-eqb _ 0 c.if-m-eq0.true)

pub returns : goal.returns
returns c = rw (ne_eqb _ 0 c.if-m-eq0.false)
