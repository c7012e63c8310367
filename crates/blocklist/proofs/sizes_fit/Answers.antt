-- `blocklist::sizes_fit` meets its contract: a case for each test. Assumes nothing.
use borrow.Author.Tests.{le-leb, lt-leb}
use Rattle.blocklist.specs.Read.{sizes_fit}
use Rattle.blocklist.proofs.sizes_fit.Goals as goal

pub returns-then-slots-lt1 : goal.returns-then-slots-lt1
unfolding sizes_fit
returns-then-slots-lt1 c = rw (lt-leb 1 _ c.if-slots-lt1.true)

pub returns-then-slots-gt128 : goal.returns-then-slots-gt128
unfolding sizes_fit
returns-then-slots-gt128 c = rw (le-leb 1 _ c.if-slots-lt1.false, lt-leb _ 128 c.if-slots-gt128.true)

pub returns-then-channels-lt1 : goal.returns-then-channels-lt1
unfolding sizes_fit
returns-then-channels-lt1 c = rw (le-leb 1 _ c.if-slots-lt1.false, le-leb _ 128 c.if-slots-gt128.false, lt-leb 1 _ c.if-channels-lt1.true)

pub returns : goal.returns
unfolding sizes_fit
returns c = rw (le-leb 1 _ c.if-slots-lt1.false, le-leb _ 128 c.if-slots-gt128.false, le-leb 1 _ c.if-channels-lt1.false)
