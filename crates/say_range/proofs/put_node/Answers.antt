-- `say_range::put_node` meets its contract: the load decides. Assumes nothing.
use borrow.Author.Tests.{eq-eqb, ne_eqb}
use Rattle.say_range.proofs.put_node.Goals as goal

pub returns-then-loads-i-eq0 : goal.returns-then-loads-i-eq0
returns-then-loads-i-eq0 c = rw (eq-eqb _ _ c.if-loads-i-eq0.true) (rw c.cell_middle-middle.ensures at c.put_circle.ensures)

pub returns : goal.returns
returns c = rw (ne_eqb _ _ c.if-loads-i-eq0.false) (rw c.cell_middle-middle.ensures at c.put_circle-2.ensures)
