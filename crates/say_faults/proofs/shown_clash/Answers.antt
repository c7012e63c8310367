-- `say_faults::shown_clash` meets its contract: the tests that led to each return decide the conjunction. Assumes nothing.
use borrow.Author.Tests.{lt-ltb, le-ltb, eq-eqb, ne_eqb}
use Rattle.say_faults.proofs.shown_clash.Goals as goal

pub returns-then-c-a : goal.returns-then-c-a
returns-then-c-a c = simp (le-ltb _ _ c.if-c-a.true)

pub returns-then-table-a-ne1 : goal.returns-then-table-a-ne1
returns-then-table-a-ne1 c = simp (lt-ltb _ _ c.if-c-a.false, ne_eqb _ _ c.if-table-a-ne1.true)

pub returns-then-table-c-ne1 : goal.returns-then-table-c-ne1
returns-then-table-c-ne1 c = simp (lt-ltb _ _ c.if-c-a.false, eq-eqb _ _ c.if-table-a-ne1.false, ne_eqb _ _ c.if-table-c-ne1.true)

pub returns : goal.returns
returns c = simp (lt-ltb _ _ c.if-c-a.false, eq-eqb _ _ c.if-table-a-ne1.false, eq-eqb _ _ c.if-table-c-ne1.false) c.has.ensures
