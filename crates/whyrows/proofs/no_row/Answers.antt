-- `whyrows::no_row` meets its contract: a case for each way out. Assumes nothing.
use native.Mathlib.Omega.{arith}
use borrow.Author.Tests.{lt-ltb, le-ltb}
use Rattle.whyrows.proofs.no_row.Goals as goal

pub returns-then-n-l : goal.returns-then-n-l
returns-then-n-l c = rw (lt-ltb c.args.n c.args.l (omega arith))

pub returns : goal.returns
returns c = rw (le-ltb c.args.n c.args.l (omega arith))
