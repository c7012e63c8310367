-- `sheet::over` meets its contract: both sides of the test. Assumes nothing.
use native.Mathlib.Omega.{arith}
use borrow.Author.Tests.{lt-ltb, le-ltb}
use Rattle.sheet.proofs.over.Goals as goal

pub returns-then-most-x : goal.returns-then-most-x
returns-then-most-x c = record { value = rw (lt-ltb c.args.most c.args.x (omega arith)); upper_bound = omega arith }

pub returns : goal.returns
returns c = record { value = rw (le-ltb c.args.most c.args.x (omega arith)); upper_bound = omega arith }
