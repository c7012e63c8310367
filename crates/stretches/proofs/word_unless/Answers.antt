-- `stretches::word_unless` meets its contract: a case for each way out. Assumes nothing.
use mathlib.Core.Path.{◌≡◌}
use mathlib.Core.Bool.{true, false}
use borrow.Author.Rules.{rules}
use Rattle.stretches.proofs.word_unless.Goals as goal

pub returns-then-shut : goal.returns-then-shut
returns-then-shut c = let e : c.args.shut ≡ true = search rules in rw e

pub returns : goal.returns
returns c = let e : c.args.shut ≡ false = search rules in rw e
