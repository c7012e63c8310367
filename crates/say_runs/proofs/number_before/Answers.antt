-- `say_runs::number_before` meets its contract: 0 before the first place, else the number there. Assumes nothing.
use Rattle.say_runs.proofs.Steps.{before-is}
use Rattle.say_runs.proofs.number_before.Goals as goal

pub returns : goal.returns
returns c = let a = c.args in before-is a.row.now a.i c.if-i-eq0.false
