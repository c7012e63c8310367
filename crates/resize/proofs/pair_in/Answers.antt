-- `resize::pair_in` meets its contract: each test decides its part. Assumes nothing.
use borrow.Author.Tests.{lt-ltb, le-ltb}
use Rattle.resize.specs.Sizes.{pair_in}
use Rattle.resize.proofs.pair_in.Goals as goal

pub returns-then-slots-slot : goal.returns-then-slots-slot
unfolding pair_in
returns-then-slots-slot c = rw (le-ltb _ _ c.if-slots-slot.true)

pub returns : goal.returns
unfolding pair_in
returns c = rw (lt-ltb _ _ c.if-slots-slot.false)
