-- `lines::read_any` meets its contract: the bound, then the number as the writer writes it. Assumes nothing.
use borrow.Author.Tests.{le-leb, lt-leb}
use Rattle.lines.specs.Content.{number_read}
use Rattle.lines.proofs.read_any.Goals as goal

pub returns-then-most-value : goal.returns-then-most-value
unfolding number_read
returns-then-most-value c = rw (← c.scan-value.ensures.value, lt-leb _ _ c.if-most-value.true)

pub returns : goal.returns
unfolding number_read
returns c = rw (← c.scan-value.ensures.value, le-leb _ _ c.if-most-value.false, ← c.eat_number-next.ensures)
