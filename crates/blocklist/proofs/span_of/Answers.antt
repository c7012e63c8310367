-- `blocklist::span_of` meets its contract: a case for each test. Assumes nothing.
use borrow.Author.Tests.{le-leb, lt-leb}
use Rattle.blocklist.specs.Read.{span_of}
use Rattle.blocklist.proofs.span_of.Goals as goal

pub returns-then-from-lt1 : goal.returns-then-from-lt1
unfolding span_of
returns-then-from-lt1 c = rw (lt-leb 1 _ c.if-from-lt1.true)

pub returns-then-to-from : goal.returns-then-to-from
unfolding span_of
returns-then-to-from c = rw (le-leb 1 _ c.if-from-lt1.false, lt-leb _ _ c.if-to-from.true)

pub returns : goal.returns
unfolding span_of
returns c = rw (le-leb 1 _ c.if-from-lt1.false, le-leb _ _ c.if-to-from.false)
