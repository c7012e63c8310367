-- `packing::one_of` meets its contract: a case for each way out. Assumes nothing.
use borrow.Author.Tests.{eq-eqb, ne_eqb}
use Rattle.packing.specs.Packed.{one_of}
use Rattle.packing.proofs.one_of.Goals as goal

pub returns-then-d-eq0 : goal.returns-then-d-eq0
unfolding one_of
returns-then-d-eq0 c = rw (eq-eqb c.args.d 0 c.if-d-eq0.true)

pub returns-then-d-eq1 : goal.returns-then-d-eq1
unfolding one_of
returns-then-d-eq1 c = rw (ne_eqb c.args.d 0 c.if-d-eq0.false, eq-eqb c.args.d 1 c.if-d-eq1.true)

pub returns : goal.returns
unfolding one_of
returns c = rw (ne_eqb c.args.d 0 c.if-d-eq0.false, ne_eqb c.args.d 1 c.if-d-eq1.false)
