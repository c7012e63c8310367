-- `say_slots::numbered` meets its contract: the test decides. Assumes nothing.
use borrow.Author.Tests.{lt-ltb, le-ltb}
use Rattle.say_slots.proofs.numbered.Goals as goal

pub returns-then-slots-gt32 : goal.returns-then-slots-gt32
returns-then-slots-gt32 c = rw (lt-ltb _ _ c.if-slots-gt32.true)

pub returns : goal.returns
returns c = rw (le-ltb _ _ c.if-slots-gt32.false)
