-- `say_csv::one_if` meets its contract: a case for each way out. Assumes nothing.
use Rattle.say_csv.proofs.one_if.Goals as goal

pub returns-then-so : goal.returns-then-so
returns-then-so c = rw c.if-so.true

pub returns : goal.returns
returns c = rw c.if-so.false
