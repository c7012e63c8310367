-- `say_why::set_phrase` meets its contract: a case for each way out. Assumes nothing.
use native.Mathlib.Omega.{arith}
use borrow.Author.Tests.{lt-ltb, le-ltb}
use Rattle.why.specs.Said.{set_phrase}
use Rattle.say_why.proofs.set_phrase.Goals as goal

pub returns-then-l-gt0 : goal.returns-then-l-gt0
unfolding set_phrase
returns-then-l-gt0 c = rw (lt-ltb 0 c.args.l (omega arith))

pub returns : goal.returns
unfolding set_phrase
returns c = rw (le-ltb 0 c.args.l (omega arith))
