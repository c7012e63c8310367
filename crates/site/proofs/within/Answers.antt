-- `site::within` meets its contract: the two tests decide both sides. Assumes nothing.
use native.Mathlib.Omega.{arith}
use borrow.Author.Tests.{le-leb, lt-leb}
use Rattle.site.specs.Record.{up_to}
use Rattle.site.proofs.within.Goals as goal

pub returns-then-x-lt1 : goal.returns-then-x-lt1
unfolding up_to
returns-then-x-lt1 c = rw (lt-leb 1 c.args.x (omega arith))

pub returns : goal.returns
unfolding up_to
returns c = rw (le-leb 1 c.args.x (omega arith))
