-- `say_runs::some_run` meets its contract: the first number that is not 0 is one of the row's. Assumes nothing.
use mathlib.Core.Path.{ap}
use lib.Dec.{ltb}
use lib.ListN.{length}
use Rattle.say_runs.specs.Runs.{run_before}
use Rattle.say_runs.proofs.some_run.Goals as goal

pub returns : goal.returns
unfolding run_before
returns c = ap (λ x. ltb x (length c.args.row.now)) c.first_used.ensures
