-- `linefaults::fault_of_line` meets its contract: the first line, or a cell's. Assumes nothing.
use native.Mathlib.Omega.{arith}
use borrow.Author.Tests.{lt-leb}
use Rattle.linefaults.specs.Fault.{fault_of_line}
use Rattle.linefaults.proofs.Lines.{head_few}
use Rattle.linefaults.proofs.fault_of_line.Goals as goal

pub cell_fault-requires : goal.cell_fault-requires
cell_fault-requires c = (head_few _ _ c.read_head-h.ensures, omega arith)

pub returns : goal.returns
unfolding fault_of_line
returns c = rw (lt-leb _ _ c.if-line-le1.false, ← c.read_head-h.ensures) c.cell_fault.ensures
