-- `escaping::is_between` meets its contract: a case for each way out. Assumes nothing.
use native.Mathlib.Omega.{arith}
use borrow.Author.Tests.{lt-ltb, le-ltb}
use Rattle.escaping.proofs.is_between.Goals as goal

pub returns-then-b-low : goal.returns-then-b-low
returns-then-b-low c = rw (lt-ltb _ _ c.if-b-low.true)

pub returns : goal.returns
returns c = rw (le-ltb c.args.b c.args.low (omega (arith, c.if-b-low.false)))
