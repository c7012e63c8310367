-- `say_runs::channels_named` meets its contract: the two tests decide. Assumes nothing.
use mathlib.Core.Path.{ap}
use mathlib.Core.Bool.{not}
use borrow.Author.Tests.{eq-eqb, ne_eqb}
use Rattle.say_runs.proofs.channels_named.Goals as goal

pub returns-then-channels-eq1 : goal.returns-then-channels-eq1
returns-then-channels-eq1 c = rw (eq-eqb c.args.channels 1 c.if-channels-eq1.true)

pub returns : goal.returns
returns c = rw (ne_eqb c.args.channels 1 c.if-channels-eq1.false) (ap not c.has_all.ensures)
