-- `reachrows::row_bad` meets its contract: the tests that led to each return decide the choice. Assumes nothing.
use borrow.Author.Tests.{le-ltb, lt-ltb}
use Rattle.reachrows.specs.Rows.{row_bad}
use Rattle.reachrows.proofs.row_bad.Goals as goal

pub returns-then-n-k : goal.returns-then-n-k
unfolding row_bad
returns-then-n-k c = simp (le-ltb _ _ c.if-n-k.true)

pub returns-then-over-gt0 : goal.returns-then-over-gt0
unfolding row_bad
returns-then-over-gt0 c = simp (lt-ltb _ _ c.if-n-k.false, lt-ltb _ _ c.if-over-gt0.true)

pub returns : goal.returns
unfolding row_bad
returns c = simp (lt-ltb _ _ c.if-n-k.false, le-ltb _ _ c.if-over-gt0.false)
