-- `say_room::beside_phrase` meets its contract: a case for each way out. Assumes nothing.
use borrow.Author.Tests.{lt-ltb, le-ltb, eq-eqb, ne_eqb}
use Rattle.say_room.proofs.beside_phrase.Goals as goal

pub returns-then-enough-has : goal.returns-then-enough-has
returns-then-enough-has c = rw (lt-ltb _ _ c.if-enough-has.true)

pub returns-then-enough-has-2 : goal.returns-then-enough-has-2
returns-then-enough-has-2 c = rw (le-ltb _ _ c.if-enough-has.false, eq-eqb _ _ c.if-enough-has-2.true)

pub returns : goal.returns
returns c = rw (le-ltb _ _ c.if-enough-has.false, ne_eqb _ _ c.if-enough-has-2.false)
