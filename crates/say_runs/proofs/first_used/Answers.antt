-- `say_runs::first_used` meets its contract: a search: what is left gives the answer. Assumes nothing.
use mathlib.Core.Path.{◌≡◌, refl, ap, ◌∙◌}
use mathlib.Core.Bool.{not}
use native.Mathlib.Omega.{arith}
use lib.ListN.{length}
use borrow.Author.Tests.{eq-eqb, ne_eqb}
use Rattle.laws.proofs.Search.{found, missed, ended}
use Rattle.say_runs.proofs.first_used.Invariants.{used}
use Rattle.say_runs.proofs.first_used.Goals as goal

pub loop-j-init : goal.loop-j-init
loop-j-init c = refl

pub returns-then-number-ne0 : goal.returns-then-number-ne0
returns-then-number-ne0 c = let row = c.args.row.now in
    found (used row) c.loop-j.j (length row) c.loop-j.invariant (omega arith) (ap not (ne_eqb _ _ c.if-number-ne0.true))

pub loop-j-preserved : goal.loop-j-preserved
loop-j-preserved c = let row = c.args.row.now in
    missed (used row) c.loop-j.j (length row) c.loop-j.invariant (omega arith) (ap not (eq-eqb _ _ c.if-number-ne0.false))

pub returns : goal.returns
returns c = let row = c.args.row.now in
    let all : length row ≡ c.loop-j.j = omega arith in
    all ∙ ended (used row) c.loop-j.j (length row) c.loop-j.invariant (omega arith)
