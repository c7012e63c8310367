-- `blocks::has_place` meets its contract: a case for each way out. Assumes nothing.
use Prim.Native.Nat.{◌%◌}
use borrow.Author.Tests.{lt-ltb, le-ltb}
use Rattle.blocks.proofs.has_place.Goals as goal

pub returns-then-b-lt8 : goal.returns-then-b-lt8
returns-then-b-lt8 c = rw (lt-ltb (c.args.k % 16) 8 c.if-b-lt8.true)

pub returns : goal.returns
returns c = rw (le-ltb (c.args.k % 16) 8 c.if-b-lt8.false)
