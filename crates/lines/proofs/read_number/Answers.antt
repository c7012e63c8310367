-- `lines::read_number` meets its contract: where a digit that is not 0 begins the number, its digits are those that the writer gives. Assumes nothing.
use borrow.Author.Tests.{le-leb, lt-leb}
use Rattle.lines.specs.Content.{number_read}
use Rattle.lines.proofs.read_number.Goals as goal

pub returns-then-most-read : goal.returns-then-most-read
unfolding number_read
returns-then-most-read c = rw (← c.read_digits-read.ensures.value_value, lt-leb _ _ c.if-most-read.true)

pub returns : goal.returns
unfolding number_read
returns c = let e = c.read_digits-read.ensures in
    rw (← e.value_value, le-leb _ _ c.if-most-read.false, ← e.next_value)
