-- `lines::is_digit` meets its contract: the three tests. Assumes nothing.
use borrow.Author.Tests.{lt-ltb, le-ltb, le-leb, lt-leb}
use Rattle.lines.specs.Content.{more}
use Rattle.lines.proofs.is_digit.Goals as goal

pub returns-then-v-ge10000 : goal.returns-then-v-ge10000
unfolding more
returns-then-v-ge10000 c = rw (le-ltb _ _ c.if-v-ge10000.true)

pub returns-then-d-lt48 : goal.returns-then-d-lt48
unfolding more
returns-then-d-lt48 c = rw (lt-ltb _ _ c.if-v-ge10000.false, lt-leb _ _ c.if-d-lt48.true)

pub returns : goal.returns
unfolding more
returns c = rw (lt-ltb _ _ c.if-v-ge10000.false, le-leb _ _ c.if-d-lt48.false)
