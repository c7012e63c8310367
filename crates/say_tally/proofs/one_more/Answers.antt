-- `say_tally::one_more` meets its contract: a case for each way out. Assumes nothing.
use mathlib.Core.Path.{sym}
use native.Mathlib.Nat.{add-zero}
use Rattle.say_tally.proofs.one_more.Goals as goal

pub returns-then-counts : goal.returns-then-counts
returns-then-counts c = rw c.if-counts.true

pub returns : goal.returns
returns c = rw c.if-counts.false (sym (add-zero _))
