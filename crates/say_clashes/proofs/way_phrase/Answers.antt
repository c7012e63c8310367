-- `say_clashes::way_phrase` meets its contract: a case for each way out. Assumes nothing.
use Rattle.say_clashes.proofs.way_phrase.Goals as goal

pub returns-then-back : goal.returns-then-back
returns-then-back c = rw (c.if-forth.true, c.if-back.true)

pub returns-then-forth : goal.returns-then-forth
returns-then-forth c = rw (c.if-forth.true, c.if-back.false)

pub returns-then-back-2 : goal.returns-then-back-2
returns-then-back-2 c = rw (c.if-forth.false, c.if-back-2.true)

pub returns : goal.returns
returns c = rw (c.if-forth.false, c.if-back-2.false)
