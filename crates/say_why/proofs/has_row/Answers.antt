-- `say_why::has_row` meets its contract: a case for each way out. Assumes nothing.
use native.Mathlib.Omega.{arith}
use borrow.Author.Tests.{lt-ltb, le-ltb}
use Rattle.say_why.proofs.has_row.Goals as goal

pub returns-then-few-all : goal.returns-then-few-all
returns-then-few-all c = rw (lt-ltb c.args.few c.args.all (omega arith))

pub returns : goal.returns
returns c = rw (le-ltb c.args.few c.args.all (omega arith))
