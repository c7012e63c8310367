-- `say_runs::starts_run` meets its contract: the two tests decide. Assumes nothing.
use mathlib.Core.Path.{ap}
use mathlib.Core.Bool.{not}
use lib.Dec.{eqb}
use lib.ListN.{get_or}
use borrow.Author.Tests.{eq-eqb, ne_eqb}
use Rattle.say_runs.specs.Runs.{starts_run}
use Rattle.say_runs.proofs.starts_run.Goals as goal

pub returns-then-number-eq0 : goal.returns-then-number-eq0
unfolding starts_run
returns-then-number-eq0 c = let a = c.args in rw (eq-eqb (get_or a.row.now a.i 0) 0 c.if-number-eq0.true)

pub returns : goal.returns
unfolding starts_run
returns c = let a = c.args in
    let number = get_or a.row.now a.i 0 in
    rw (ne_eqb number 0 c.if-number-eq0.false) (ap (λ x. not (eqb x number)) c.number_before.ensures)
