-- `say_runs::run_end` meets its contract: a search: what is left gives the answer. Assumes nothing.
use mathlib.Core.Path.{◌≡◌, refl, ap, ◌∙◌}
use mathlib.Core.Bool.{not}
use native.Mathlib.Omega.{arith}
use lib.ListN.{length}
use borrow.Author.Tests.{eq-eqb, ne_eqb}
use Rattle.laws.proofs.Search.{found, missed, ended}
use Rattle.say_runs.specs.Runs.{run_stop}
use Rattle.say_runs.proofs.run_end.Invariants.{other}
use Rattle.say_runs.proofs.run_end.Goals as goal

pub loop-j-init : goal.loop-j-init
unfolding run_stop
loop-j-init c = refl

pub returns-then-row-j : goal.returns-then-row-j
returns-then-row-j c = let a = c.args in (
  found (other a.row.now a.i) c.loop-j.j (length a.row.now) c.loop-j.invariant (omega arith) (ap not (ne_eqb _ _ c.if-row-j.true)),
  omega arith,
)

pub loop-j-preserved : goal.loop-j-preserved
loop-j-preserved c = let a = c.args in
    missed (other a.row.now a.i) c.loop-j.j (length a.row.now) c.loop-j.invariant (omega arith) (ap not (eq-eqb _ _ c.if-row-j.false))

pub returns : goal.returns
returns c = let a = c.args in
    let all : length a.row.now ≡ c.loop-j.j = omega arith in
    (all ∙ ended (other a.row.now a.i) c.loop-j.j (length a.row.now) c.loop-j.invariant (omega arith), omega arith)
