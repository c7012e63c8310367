-- `say_cells::slot_word` meets its contract: the test decides. Assumes nothing.
use borrow.Author.Tests.{lt-ltb, le-ltb}
use Rattle.say_cells.proofs.slot_word.Goals as goal

pub channels_at-requires : goal.channels_at-requires
channels_at-requires c = (c.requires.0, c.requires.1, c.requires.2, c.requires.3, c.if-slot-site.true)

pub returns-then-slot-site : goal.returns-then-slot-site
returns-then-slot-site c = let a = c.args in
    rw (lt-ltb a.slot a.site.slots c.if-slot-site.true) c.channels_at.ensures

pub returns : goal.returns
returns c = let a = c.args in rw (le-ltb a.slot a.site.slots c.if-slot-site.false)
