-- `say_room::slots_first` meets its contract: a case for each way out. Assumes nothing.
use borrow.Author.Tests.{lt-ltb, le-ltb}
use Rattle.say_room.proofs.slots_first.Goals as goal

pub returns-then-needs-gt-MOST_SLOTS : goal.returns-then-needs-gt-MOST_SLOTS
returns-then-needs-gt-MOST_SLOTS c = rw (lt-ltb 128 _ c.if-needs-gt-MOST_SLOTS.true)

pub returns-then-enough-gt-MOST_SLOTS : goal.returns-then-enough-gt-MOST_SLOTS
returns-then-enough-gt-MOST_SLOTS c = rw (le-ltb 128 _ c.if-needs-gt-MOST_SLOTS.false, lt-ltb 128 _ c.if-enough-gt-MOST_SLOTS.true)

pub returns : goal.returns
returns c = rw (le-ltb 128 _ c.if-needs-gt-MOST_SLOTS.false, le-ltb 128 _ c.if-enough-gt-MOST_SLOTS.false) c.beside_phrase.ensures
