-- `say_slots::every_slot` meets its contract: the test decides. Assumes nothing.
use borrow.Author.Tests.{lt-ltb, le-ltb}
use Rattle.say_slots.proofs.every_slot.Goals as goal

pub returns-then-site-gt32 : goal.returns-then-site-gt32
returns-then-site-gt32 c = rw (lt-ltb _ _ c.if-site-gt32.true)

pub returns : goal.returns
returns c = rw (le-ltb _ _ c.if-site-gt32.false)
