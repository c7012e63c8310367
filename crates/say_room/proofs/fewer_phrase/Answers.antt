-- `say_room::fewer_phrase` meets its contract: a case for each way out. Assumes nothing.
use borrow.Author.Tests.{lt-ltb, le-ltb, eq-eqb, ne_eqb}
use Rattle.say_room.proofs.fewer_phrase.Goals as goal

pub returns-then-needs-le1 : goal.returns-then-needs-le1
returns-then-needs-le1 c = rw (le-ltb 1 _ c.if-needs-le1.true)

pub returns-then-needs-enough : goal.returns-then-needs-enough
returns-then-needs-enough c = rw (lt-ltb 1 _ c.if-needs-le1.false, eq-eqb _ _ c.if-needs-enough.true)

pub returns : goal.returns
returns c = rw (lt-ltb 1 _ c.if-needs-le1.false, ne_eqb _ _ c.if-needs-enough.false)
