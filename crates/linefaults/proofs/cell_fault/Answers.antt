-- `linefaults::cell_fault` meets its contract: the tests, then the line. Assumes nothing.
use borrow.Author.Tests.{ne_eqb, le-ltb}
use Rattle.linefaults.specs.Fault.{cell_fault}
use Rattle.linefaults.proofs.cell_fault.Goals as goal

pub returns : goal.returns
unfolding cell_fault
returns c = rw (ne_eqb _ _ c.if-cells-eq0.false, le-ltb _ _ c.if-cells-line.false, ← c.line_start-from.ensures.start)
    c.fault_from.ensures
