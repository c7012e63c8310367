-- `inputs::by_kind` meets its contract: a case for each kind. Assumes nothing.
use borrow.Author.Tests.{eq-eqb, ne_eqb}
use Rattle.inputs.specs.Files.{by_kind}
use Rattle.inputs.proofs.by_kind.Goals as goal

pub returns-then-kind-eq2 : goal.returns-then-kind-eq2
unfolding by_kind
returns-then-kind-eq2 c = rw (eq-eqb _ 2 c.if-kind-eq2.true)

pub returns-then-kind-eq4 : goal.returns-then-kind-eq4
unfolding by_kind
returns-then-kind-eq4 c = rw (ne_eqb _ 2 c.if-kind-eq2.false, eq-eqb _ 4 c.if-kind-eq4.true)

pub returns : goal.returns
unfolding by_kind
returns c = rw (ne_eqb _ 2 c.if-kind-eq2.false, ne_eqb _ 4 c.if-kind-eq4.false)
