-- `planbits::is_one` meets its contract: the test says which way the choice goes. Assumes nothing.
use borrow.Author.Tests.{eq-eqb, ne_eqb}
use Rattle.planbits.specs.Bits.{one}
use Rattle.planbits.proofs.is_one.Goals as goal

pub returns-then-x-eq1 : goal.returns-then-x-eq1
unfolding one
returns-then-x-eq1 c = simp (eq-eqb _ _ c.if-x-eq1.true)

pub returns-else-x-eq1 : goal.returns-else-x-eq1
unfolding one
returns-else-x-eq1 c = simp (ne_eqb _ _ c.if-x-eq1.false)
